use Rattle.std.proofs.Common.{◌≡◌, ◌≤◌, ◌<◌, refl, sym, ◌∙◌, subst, arith, ⊎_elim}
use Rattle.std.proofs.lemmas.Bool.{true≢false, false≢true, cases_lt}
use Rattle.alldiff_rules.proofs.TwinLaws.{IsTold, told-twins, twins-told}
use Rattle.alldiff_rules.proofs.twins.has_twins.Goals as goal

pub loop-place-preserved : goal.loop-place-preserved
loop-place-preserved c i lt told = ⊎_elim
    (λ (l : i < c.loop-place.place). c.loop-place.invariant i l told)
    (λ (le : c.loop-place.place ≤ i).
    let e : i ≡ c.loop-place.place = omega (arith, le, lt) in
    true≢false (sym (c.is_twin.ensures.1 (subst (IsTold c.args.ints.now c.args.conditions.now c.in_ok-table.table c.args.p) e told)) ∙ c.if-is_twin.false))
    (cases_lt i c.loop-place.place)

pub returns-then-is_twin : goal.returns-then-is_twin
returns-then-is_twin c =
    (λ _. told-twins c.args.ints.now c.args.conditions.now c.requires.lengths c.in_ok-table.table c.args.p c.args.q c.in_ok-table.ensures c.loop-place.place (c.is_twin.ensures.0 c.if-is_twin.true), λ _. refl)

pub returns : goal.returns
returns c = (
  λ e. absurd (false≢true e),
  λ h.
      let at = twins-told c.args.ints.now c.args.conditions.now c.requires.lengths c.in_ok-table.table c.args.p c.args.q c.in_ok-table.ensures h in
      absurd (c.loop-place.invariant h.0 (omega (arith, at.0, c.loop-place-test.false)) at.1),
)
