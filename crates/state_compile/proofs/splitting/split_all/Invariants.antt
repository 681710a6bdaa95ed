use Rattle.std.proofs.Common.{◌≡◌, ◌⊎◌, true, [], length}
use Rattle.step_kernel.specs.Kernel.{IsKernel}
use Rattle.fixpoint_queue.specs.Quiet.{IsClosed}
use Rattle.asking_bound.specs.Questions.{IsAsked}
use Rattle.state_compile.specs.Compilation.{AddsInOrder}
use Rattle.state_compile.specs.Size.{left_to_split}
use Rattle.state_compile.proofs.splitting.split_all.Given as goal

abbrev pub invariant-loop-runner : goal.invariant-loop-runner
invariant-loop-runner g l = record {
  kernel : IsKernel l.runner.kernel;
  adds : AddsInOrder g.F.Oracle.told l.fn.runner.ledger l.fn.runner.kernel l.runner.ledger l.runner.kernel;
  empty : (l.runner.kernel.bottom ≡ true) ⊎ (l.runner.queued ≡ []);
  closed : (l.runner.kernel.bottom ≡ true) ⊎ IsClosed g.F.Oracle.told l.runner.kernel;
  asked : IsAsked l.fn.runner.kernel l.fn.runner.ledger l.runner.ledger (length l.fn.runner.queued) l.fn.steps l.steps 0;
}

abbrev pub decreases-loop-runner : goal.decreases-loop-runner
decreases-loop-runner g l = left_to_split l.runner.kernel
