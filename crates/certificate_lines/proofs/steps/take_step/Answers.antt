use Rattle.step_kernel.proofs.StepLaws.{step-kept}
use Rattle.certificate_lines.proofs.steps.take_step.Goals as goal

pub returns-in-Ok-clause-longer : goal.returns-in-Ok-clause-longer
returns-in-Ok-clause-longer c =
    (step-kept c.args.state.now c.apply.new.self c.in-Some.step c.vars-vars.ensures.kernel c.in-Ok.ensures.step).longer
