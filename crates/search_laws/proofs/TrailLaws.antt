-- The trail's number.
use Rattle.std.proofs.Common.{◌≡◌, ℕ, zero, suc, ◌+◌, ◌^◌, ◌≤◌, Bool, true, false, List, [], ◌∷◌, refl, arith}
use Rattle.std.proofs.Math.Nat.{pow-suc}
use Rattle.search_laws.specs.TrailNumber.{trail_number, NeverRises, FallsWhenTurned, StaysBelow}

twice : (v : ℕ) → 2 ^ suc v ≡ 2 ^ v + 2 ^ v
twice v = omega (arith, pow-suc 2 v)

-- nothing assigned: all digits are 1
pub number-free : (v : ℕ) → trail_number v [] + 1 ≡ 2 ^ v
number-free zero = refl
number-free (suc v) = omega (arith, number-free v, twice v)

pub stays_below : StaysBelow
stays_below zero entries = omega arith
stays_below (suc v) [] = omega (arith, number-free (suc v))
stays_below (suc v) (true ∷ entries) = omega (arith, stays_below v entries, twice v)
stays_below (suc v) (false ∷ entries) = omega (arith, stays_below v entries, twice v)

-- no number is greater than that of the free trail
number-most : (v : ℕ) (entries : List Bool) → trail_number v entries ≤ trail_number v []
number-most v entries = omega (arith, stays_below v entries, number-free v)

pub never_rises : NeverRises
never_rises v [] more = number-most v more
never_rises zero (d ∷ entries) more = omega arith
never_rises (suc v) (true ∷ entries) more = omega (arith, never_rises v entries more)
never_rises (suc v) (false ∷ entries) more = omega (arith, never_rises v entries more)

pub falls_when_turned : FallsWhenTurned
falls_when_turned zero kept more low = absurd (omega arith)
falls_when_turned (suc v) [] more low = omega (arith, stays_below v [])
falls_when_turned (suc v) (true ∷ kept) more low = omega (arith, falls_when_turned v kept more (omega arith))
falls_when_turned (suc v) (false ∷ kept) more low = omega (arith, falls_when_turned v kept more (omega arith))
