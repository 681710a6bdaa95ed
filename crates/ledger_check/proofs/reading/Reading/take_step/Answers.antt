use Rattle.std.proofs.Common.{refl}
use Rattle.step_kernel.proofs.StepLaws.{step-kept}
use Rattle.ledger_check.proofs.reading.Reading.take_step.Goals as goal

pub returns-in-Ok-clause-later : goal.returns-in-Ok-clause-later
returns-in-Ok-clause-later c =
    ((step-kept c.args.self.now.state c.apply.new.self c.args.line.now c.vars-vars.ensures.kernel c.in-Ok.ensures.step).longer, refl)
