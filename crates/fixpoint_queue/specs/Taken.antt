-- Equations that one core tells, taken one after another.
use Rattle.std.specs.Prelude.{◌≡◌, ℕ, ◌+◌, ◌≤◌, Bool, false, List, length, Some, if◌then◌else◌}
use Rattle.index_ring.specs.Lists.{times}
use Rattle.core_forms.specs.declared.equation.Equation.{Equation}
use Rattle.core_forms.specs.declared.form.Core.{Core}
use Rattle.core_forms.specs.Trimmed.{trimmed_core}
use Rattle.ledger_text.specs.declared.line.Line.{Line}
use Rattle.step_kernel.specs.Kernel.{Kernel, trimmed_at}
use Rattle.fixpoint_queue.specs.declared.worklist.Worklist.{Worklist}
use Rattle.fixpoint_queue.specs.Ledgers.{AddsEquations}
use Rattle.fixpoint_queue.specs.Pairs.{IsCounted}
use Rattle.fixpoint_queue.specs.Waits.{IsSaturation, left_to_do, left_to_ask}

-- Equations that are told were added to the ledger behind so many lines, and lead from one state to another; of the
-- worklist the queue alone has changed, which is as it must be, and has the core, which is as the store has it. Where
-- some were taken there is less to do than before, and one query is paid for: what is left to be asked, and that
-- one, are no more than what was left and the pairs that got a new label. Where none was, the state is as it was.
pub record HasTaken (told : Core → Equation → Type 0) (id : ℕ) (core : Core) (old : Kernel) (before : List Line)
    (from : Worklist) (new : Kernel) (behind : List Line) (to : Worklist) (some : Bool) : Type 0 where
  pub saturation : IsSaturation told new to.occurs to.queue to.marks
  pub occurs : to.occurs ≡ from.occurs
  pub marks : to.marks ≡ from.marks
  pub queued : 1 ≤ times id to.queue.queued
  pub there : trimmed_at new id ≡ Some (trimmed_core new.view core)
  pub vars : length new.view ≡ length old.view
  pub adds : AddsEquations told before old behind new
  pub counted : (counter now : ℕ) → now ≤ counter + (if some then 3 else 0)
      → IsCounted old before behind (left_to_ask old from.queue) counter now (left_to_ask new to.queue)
  pub less : left_to_do new to.queue + (if some then 1 else 0) ≤ left_to_do old from.queue
  pub still : some ≡ false → new ≡ old
