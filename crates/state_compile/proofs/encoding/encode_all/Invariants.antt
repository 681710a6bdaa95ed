use Rattle.std.proofs.Common.{◌≡◌, false, length, None}
use Rattle.step_kernel.specs.Kernel.{pending}
use Rattle.step_kernel.specs.Least.{least_compound_of}
use Rattle.fixpoint_queue.specs.Quiet.{IsClosed}
use Rattle.state_compile.specs.Compilation.{AddsInOrder}
use Rattle.state_compile.proofs.encoding.encode_all.Given as goal

abbrev pub invariant-loop-id : goal.invariant-loop-id
invariant-loop-id g l = record {
  running : l.runner.kernel.bottom ≡ false;
  closed : IsClosed g.F.Oracle.told l.runner.kernel;
  none : least_compound_of l.runner.kernel ≡ None;
  adds : AddsInOrder g.F.Oracle.told l.fn.runner.ledger l.fn.runner.kernel l.runner.ledger l.runner.kernel;
}

abbrev pub decreases-loop-id : goal.decreases-loop-id
decreases-loop-id g l = length (pending l.runner.kernel.cores)
