-- Differences of small numbers, back from their bits.
use Rattle.std.proofs.Common.{◌≡◌, ◌<◌, ◌^◌, ℤ, ◌-ℤ◌, to_z, of_z, ap, ◌∙◌, arith}
use Rattle.std.specs.Prelude.{unsigned_abs}
use mir.Syntax.{w128}
use Rattle.std.proofs.lemmas.Int.{ints}
use Rattle.core_forms.proofs.Bounds.{small_bits, wide_bits}

pub less_bits : (x y : ℤ) → unsigned_abs x < 2 ^ 100 → unsigned_abs y < 2 ^ 100 → to_z w128 (of_z w128 (to_z w128 (of_z w128 x) -ℤ to_z w128 (of_z w128 y))) ≡ x -ℤ y
less_bits x y hx hy = ap (λ z. to_z w128 (of_z w128 z)) (λ i. small_bits x hx i -ℤ small_bits y hy i) ∙ wide_bits (x -ℤ y) (omega (arith, ints, hx, hy))

-- k less the difference of two numbers
pub rest_bits : (k x y : ℤ) → unsigned_abs k < 2 ^ 100 → unsigned_abs x < 2 ^ 100 → unsigned_abs y < 2 ^ 100
    → to_z w128 (of_z w128 (to_z w128 (of_z w128 k) -ℤ to_z w128 (of_z w128 (to_z w128 (of_z w128 x) -ℤ to_z w128 (of_z w128 y))))) ≡ k -ℤ (x -ℤ y)
rest_bits k x y hk hx hy =
    ap (λ z. to_z w128 (of_z w128 z)) (λ i. small_bits k hk i -ℤ less_bits x y hx hy i) ∙ wide_bits (k -ℤ (x -ℤ y)) (omega (arith, ints, hk, hx, hy))
