-- The numbers on the way of the searches of divisions stay within the limits.
use Rattle.std.proofs.Common.{◌<◌, ◌^◌, ℤ, ◌+ℤ◌, subst}
use Rattle.std.specs.Prelude.{unsigned_abs}
use Rattle.std.proofs.Math.IntN.{*ℤ_comm}
use Rattle.order_ints.specs.declared.order_int.OrdInt.{OrdInt}
use Rattle.order_ints.specs.OrderRange.{low_of, high_of}
use Rattle.core_forms.specs.WellFormed.{HasSmallDivisions}
use Rattle.arith_rules.specs.Ranges.{range_of}
use Rattle.arith_rules.specs.DivisionRanges.{HaveSmallDividends}
use Rattle.arith_rules.proofs.ProductFound.{least-among, greatest-among}

pub dividends-small : (b q r : OrdInt) → HasSmallDivisions b q r → HaveSmallDividends (range_of q) (range_of b) (range_of r)
dividends-small b q r small = (
  subst (λ (z : ℤ). unsigned_abs (z +ℤ low_of r) < 2 ^ 100) (*ℤ_comm (low_of b) (low_of q)) (small (low_of b) (low_of q) (low_of r) (least-among b) (least-among q) (least-among r)),
  subst (λ (z : ℤ). unsigned_abs (z +ℤ high_of r) < 2 ^ 100) (*ℤ_comm (high_of b) (high_of q)) (small (high_of b) (high_of q) (high_of r) (greatest-among b) (greatest-among q) (greatest-among r)),
)
