use Rattle.std.proofs.Common.{◌*ℤ◌}
use Rattle.std.specs.Int.{int_min, int_max}
use Rattle.arith_rules.proofs.FourBits.{min-small, max-small, of-four, four-small}
use Rattle.arith_rules.proofs.products.products_of.Goals as goal

pub returns-clause-shape : goal.returns-clause-shape
returns-clause-shape c =
    let x = c.args.x.now in
    let y = c.args.y.now in
    let low = of-four int_min min-small c.product-low_low.result c.product-low_high.result c.product-high_low.result c.product-high_high.result c.lesser-least_at_low.result c.lesser-least_at_high.result c.lesser.result (x.low *ℤ y.low) (x.low *ℤ y.high) (x.high *ℤ y.low) (x.high *ℤ y.high)
    c.product-low_low.ensures c.product-low_high.ensures c.product-high_low.ensures c.product-high_high.ensures c.requires.0 c.requires.1 c.requires.2 c.requires.3 c.lesser-least_at_low.ensures c.lesser-least_at_high.ensures c.lesser.ensures in
    let high = of-four int_max max-small c.product-low_low.result c.product-low_high.result c.product-high_low.result c.product-high_high.result c.greater-greatest_at_low.result c.greater-greatest_at_high.result c.greater.result (x.low *ℤ y.low) (x.low *ℤ y.high) (x.high *ℤ y.low) (x.high *ℤ y.high)
    c.product-low_low.ensures c.product-low_high.ensures c.product-high_low.ensures c.product-high_high.ensures c.requires.0 c.requires.1 c.requires.2 c.requires.3 c.greater-greatest_at_low.ensures c.greater-greatest_at_high.ensures c.greater.ensures in
    λ i. record { low = low i; high = high i }

pub returns-clause-small : goal.returns-clause-small
returns-clause-small c =
    let x = c.args.x.now in
    let y = c.args.y.now in (
      four-small int_min min-small c.product-low_low.result c.product-low_high.result c.product-high_low.result c.product-high_high.result c.lesser-least_at_low.result c.lesser-least_at_high.result c.lesser.result (x.low *ℤ y.low) (x.low *ℤ y.high) (x.high *ℤ y.low) (x.high *ℤ y.high)
          c.product-low_low.ensures c.product-low_high.ensures c.product-high_low.ensures c.product-high_high.ensures c.requires.0 c.requires.1 c.requires.2 c.requires.3 c.lesser-least_at_low.ensures c.lesser-least_at_high.ensures c.lesser.ensures,
      four-small int_max max-small c.product-low_low.result c.product-low_high.result c.product-high_low.result c.product-high_high.result c.greater-greatest_at_low.result c.greater-greatest_at_high.result c.greater.result (x.low *ℤ y.low) (x.low *ℤ y.high) (x.high *ℤ y.low) (x.high *ℤ y.high)
          c.product-low_low.ensures c.product-low_high.ensures c.product-high_low.ensures c.product-high_high.ensures c.requires.0 c.requires.1 c.requires.2 c.requires.3 c.greater-greatest_at_low.ensures c.greater-greatest_at_high.ensures c.greater.ensures,
    )
