use Rattle.step_kernel.proofs.StepLaws.{step-kept}
use Rattle.step_kernel.proofs.laws.step_law.Goals as goal

pub returns-clause-kernel : goal.returns-clause-kernel
returns-clause-kernel c k new line is e = (step-kept k new line is e).kernel

pub returns-clause-models : goal.returns-clause-models
returns-clause-models c k new line is e = (step-kept k new line is e).keeps

pub returns-clause-later : goal.returns-clause-later
returns-clause-later c k new line is e = let kept = step-kept k new line is e in (kept.longer, kept.later)

pub returns-clause-potential : goal.returns-clause-potential
returns-clause-potential c k new line is e = (step-kept k new line is e).potential
