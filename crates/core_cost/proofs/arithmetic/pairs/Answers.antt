use Rattle.std.proofs.Common.{◌+◌, ◌-◌, ◌^◌, arith}
use Rattle.core_cost.proofs.SaturatedSums.{saturated-product}
use Rattle.core_cost.proofs.arithmetic.pairs.Goals as goal

pub returns : goal.returns
returns c =
    let p = saturated-product (c.args.first + 1) (c.args.second + 1) (2 ^ 128 - 1) (omega arith) (omega arith) (omega arith) in
    rw (c.saturating_mul.ensures, c.saturating_add.ensures, c.saturating_add-2.ensures) p
