-- Values of 128 bits back from whole numbers.
use Rattle.std.proofs.Common.{◌≡◌, ◌<◌, ◌^◌, nat_eq, ℤ, FitsSigned, to_z, of_z, sym, ap, ◌∙◌, arith}
use Rattle.std.specs.Prelude.{unsigned_abs}
use Rattle.std.specs.Bool.{one_answer}
use Rattle.std.specs.Ordering.{int_eq}
use mir.Syntax.{w128}
use Rattle.std.proofs.lemmas.Bool.{eqb-true, eq-eqb}
use Rattle.std.proofs.lemmas.Bool.Decides.{Decides-int_eq}
use Rattle.std.proofs.lemmas.Int.{to_z-of_z, fits_signed_from_abs}

-- a value below 2 ^ 100 in absolute value comes back
pub small_bits : (z : ℤ) → unsigned_abs z < 2 ^ 100 → to_z w128 (of_z w128 z) ≡ z
small_bits z h = to_z-of_z w128 z (fits_signed_from_abs w128 z (omega (arith, h)))

-- numbers are equal where their bits are
pub same_bits : (x y : ℤ) → unsigned_abs x < 2 ^ 100 → FitsSigned w128 y → nat_eq (of_z w128 x) (of_z w128 y) ≡ int_eq x y
same_bits x y h fits =
    one_answer (nat_eq (of_z w128 x) (of_z w128 y)) (int_eq x y) (
      (λ e. sym (small_bits x h) ∙ ap (to_z w128) (eqb-true (of_z w128 x) (of_z w128 y) e) ∙ to_z-of_z w128 y fits),
      (λ e. eq-eqb (of_z w128 x) (of_z w128 y) (ap (of_z w128) e)),
    )
    (Decides-int_eq x y)
