use Rattle.std.proofs.Common.{pos, ◌+ℤ◌, ap, ◌∙◌}
use Rattle.order_ints.specs.OrderLevels.{at_of}
use Rattle.direct_encode.proofs.Beside.{wide_bits, wider}
use Rattle.direct_encode.proofs.sums.exceeded.Goals as goal

pub returns : goal.returns
returns c =
    c.at.ensures
    ∙ ap (at_of c.args.c.now.int.now) (wide_bits c.above.result c.above.ensures.range ∙ c.above.ensures.value ∙ ap (λ v. v +ℤ pos 1) (wide_bits c.sum.result (wider c.sum.result c.sum.ensures.range) ∙ c.sum.ensures.value))
