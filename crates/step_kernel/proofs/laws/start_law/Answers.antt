use Rattle.step_kernel.proofs.Started.{started-kernel, started-models}
use Rattle.step_kernel.proofs.laws.start_law.Goals as goal

pub returns-clause-kernel : goal.returns-clause-kernel
returns-clause-kernel c = started-kernel

pub returns-clause-models : goal.returns-clause-models
returns-clause-models c = started-models
