use Rattle.std.proofs.Common.{◌≡◌, ◌<◌, length, sym, ap, ◌∙◌, subst}
use Rattle.order_ints.specs.declared.literal.Lit.{Lit}
use Rattle.proof_check.specs.Standing.{standing}
use Rattle.proof_check.specs.Assigned.{value_at}
use Rattle.proof_check.specs.Arena.{nth_kept}
use Rattle.proof_check.proofs.Followed.{standing-below, nth-below}
use Rattle.proof_check.proofs.hints.test_id.Goals as goal

pub returns-in-UnitFor-clause-below : goal.returns-in-UnitFor-clause-below
returns-in-UnitFor-clause-below c x e =
    let found = c.in-Some.ensures in
    let same : c.in-UnitFor.lit ≡ x = cc in
    let P : Lit → Type 0 = λ l. l.var < length c.args.values.now in
    subst P same (standing-below (length c.args.values.now) (value_at c.args.values.now) (nth_kept c.args.arena.now c.in-Some.i).clause.lits c.in-UnitFor.lit
    (nth-below (length c.args.values.now) c.args.arena.now c.in-Some.i c.requires found.place)
    (sym (ap (standing (value_at c.args.values.now)) c.codes_of.ensures) ∙ sym c.standing.ensures ∙ c.in-UnitFor.is)).1
