use Rattle.std.proofs.Common.{arith}
use Rattle.core_forms.proofs.Bounds.{small_product}
use Rattle.core_forms.proofs.meaning.sums.multiplies.Goals as goal

pub product-requires : goal.product-requires
product-requires g c =
    let h = small_product (g.T.TruthValues.valuation c.args.sigma) c.args.a.now c.args.b.now _ _ c.requires.small c.requires.ordered_a c.requires.ordered_b c.value.ensures.value c.value-2.ensures.value c.value.ensures.range c.value-2.ensures.range in omega (arith, h)
