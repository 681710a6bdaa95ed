-- What contracts see of a runner: its state, the ledger of the lines that led there, and which cores wait to be asked.
use Rattle.std.specs.Prelude.{ℕ, List}
use Rattle.ledger_text.specs.declared.line.Line.{Line}
use Rattle.step_kernel.specs.Kernel.{Kernel}

pub record Saturation : Type 0 where
  pub kernel : Kernel
  pub ledger : List Line
  pub queued : List ℕ
