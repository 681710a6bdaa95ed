use Rattle.conflict_check.specs.Checked.{IsRefusedConflict}
use Rattle.conflict_check.proofs.Judging.{same-verdict}
use Rattle.conflict_check.proofs.checking.check_core.Goals as goal

pub returns-in-Ok-Valid-clause-complete : goal.returns-in-Ok-Valid-clause-complete
returns-in-Ok-Valid-clause-complete c = λ v light valid.
    same-verdict c.in-Ok-Valid.verdict v c.in-Ok-Valid.field-0 c.in-Ok-Valid.field-0-is (c.in-Ok-Valid.ensures.complete v valid)

pub returns-in-Ok-Refused-clause-complete : goal.returns-in-Ok-Refused-clause-complete
returns-in-Ok-Refused-clause-complete c = λ v light valid.
    let refused : IsRefusedConflict c.args.model c.args.text.now c.in-Ok-Refused.line = rw c.in-Ok-Refused.field-0-is at c.in-Ok-Refused.ensures.judged in
    absurd (refused.invalid v valid)
