use Rattle.step_kernel.proofs.StepLaws.{replay-kept}
use Rattle.step_kernel.proofs.laws.replay_law.Goals as goal

pub returns-clause-kernel : goal.returns-clause-kernel
returns-clause-kernel c k new lines is e = (replay-kept k new lines is e).kernel

pub returns-clause-models : goal.returns-clause-models
returns-clause-models c k new lines is e = (replay-kept k new lines is e).keeps

pub returns-clause-later : goal.returns-clause-later
returns-clause-later c k new lines is e = let kept = replay-kept k new lines is e in (kept.longer, kept.later)

pub returns-clause-potential : goal.returns-clause-potential
returns-clause-potential c k new lines is e = (replay-kept k new lines is e).potential
