use Rattle.std.proofs.Common.{◌+◌, drop, ◌+ℤ◌, sym, ap, ◌∙◌, arith}
use Rattle.std.proofs.lemmas.Grind.{common_steps}
use Rattle.std.proofs.lemmas.Int.{ints}
use Rattle.std.proofs.lemmas.List.{at_drop_more}
use Rattle.order_ints.specs.OrderValue.{value_of}
use Rattle.core_forms.specs.Values.{values, total}
use Rattle.core_forms.specs.WellFormed.{abs_total, greatest_abs}
use Rattle.core_forms.proofs.Bounds.{value-abs}
use Rattle.core_forms.proofs.meaning.sums.total_value.Goals as goal

pub loop-a-preserved : goal.loop-a-preserved
loop-a-preserved g c =
    let σ = g.T.TruthValues.valuation c.args.sigma in
    let xs = c.args.ints.now in
    let i = c.loop-a.a-index in
    let a = c.a-item.result in
    let value = at_drop_more (λ ys. total (values σ ys)) xs i a c.loop-a-test.true ∙ ap (λ x. value_of σ x +ℤ total (values σ (drop (i + 1) xs))) (sym c.a-item.is) in
    let bound = at_drop_more abs_total xs i a c.loop-a-test.true ∙ ap (λ x. greatest_abs x + abs_total (drop (i + 1) xs)) (sym c.a-item.is) in
    let within = value-abs σ a in
    record {
      adds = omega (arith, ints, c.value.ensures.value);
      within = omega (arith, ints, c.value.ensures.value);
      sound = grind (arith, common_steps);
    }
