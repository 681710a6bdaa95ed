use Rattle.std.proofs.Common.{◌∙◌, sym, subst}
use Rattle.std.specs.Prelude.{Option}
use Rattle.proof_check.specs.declared.fault.ProofFault.{ProofFault}
use Rattle.proof_check.specs.Assigned.{value_at}
use Rattle.proof_check.specs.Arena.{live_in}
use Rattle.proof_check.specs.Checking.{IsFault}
use Rattle.proof_check.proofs.Checks.{body-hints}
use Rattle.proof_check.proofs.checker.test_addition.Goals as goal

pub returns-in-Err-follow-clause-fault : goal.returns-in-Err-follow-clause-fault
returns-in-Err-follow-clause-fault c =
    let denied = c.in-Ok.ensures in
    let told = c.in-Err-follow.ensures in
    let P : Option ProofFault → Type 0 = λ o. IsFault c.in-Err-follow.e o in
    subst P (body-hints c.args.vars (live_in c.args.arena.now) c.args.lits.now c.args.hints.now (value_at c.deny.new.values) denied.ok denied.denied) told.fault

pub returns-in-Ok-follow-clause-ok : goal.returns-in-Ok-follow-clause-ok
returns-in-Ok-follow-clause-ok c =
    let denied = c.in-Ok.ensures in
    let told = c.in-Ok-follow.ensures in
    sym (body-hints c.args.vars (live_in c.args.arena.now) c.args.lits.now c.args.hints.now (value_at c.deny.new.values) denied.ok denied.denied) ∙ told.ok
