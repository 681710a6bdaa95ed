-- Limits that make a product or a division well formed.
use Rattle.std.proofs.Common.{ℕ, ◌+◌, ◌*◌, ◌<◌, ◌≤◌, ◌^◌, max, inl, inr, List, [], ◌∷◌, Contains, ℤ, pos, ◌+ℤ◌, ◌*ℤ◌, ◌≤ℤ◌, arith}
use Rattle.std.specs.Prelude.{unsigned_abs}
use Rattle.std.proofs.lemmas.Int.{ints, unsigned_abs-mul}
use Rattle.order_ints.specs.declared.atom.Atom.{Atom}
use Rattle.order_ints.specs.declared.atom.Atom.TheVariants.{True}
use Rattle.order_ints.specs.declared.order_int.OrdInt.{OrdInt}
use Rattle.order_ints.specs.OrderRange.{weights, low_of, high_of}
use Rattle.order_ints.specs.OrderLevels.{values_of}
use Rattle.core_forms.specs.WellFormed.{greatest_abs, HasSmallProducts, HasSmallDivisions}
use Rattle.core_forms.proofs.Kept.{IsReached, IsReached-from}

-- what is reached lies between the base and the base with all weights
reached-between : (v base : ℤ) (steps : List (Atom × ℕ)) → IsReached v base steps → (base ≤ℤ v) × (v ≤ℤ (base +ℤ pos (weights steps)))
reached-between v base [] e = (omega (arith, ints, e), omega (arith, ints, e))
reached-between v base (s ∷ steps) (inl e) = (omega (arith, ints, e), omega (arith, ints, e))
reached-between v base (s ∷ steps) (inr r) =
    let h = reached-between v (base +ℤ pos s.1) steps r in (omega (arith, ints, h.0), omega (arith, ints, h.1))

between-abs : (l h v : ℤ) → l ≤ℤ v → v ≤ℤ h → unsigned_abs v ≤ max (unsigned_abs l) (unsigned_abs h)
between-abs l h v p q = omega (arith, ints, p, q)

-- no value is above the greatest absolute value in absolute value
pub value-within : (a : OrdInt) (v : ℤ) → Contains (values_of a) v → unsigned_abs v ≤ greatest_abs a
value-within a v c =
    let h = reached-between v a.base a.steps (IsReached-from v a.base True a.steps c) in between-abs (low_of a) (high_of a) v h.0 h.1

pub times-le : (x y m n : ℕ) → x ≤ m → y ≤ n → x * y ≤ m * n
times-le x y m n p q = grind arith

pub small-products : (a b : OrdInt) → greatest_abs a * greatest_abs b < 2 ^ 100 → HasSmallProducts a b
small-products a b small v w cv cw =
    let e = unsigned_abs-mul v w in
    let le = times-le (unsigned_abs v) (unsigned_abs w) (greatest_abs a) (greatest_abs b) (value-within a v cv) (value-within b w cw) in
    omega (arith, e, le, small)

sum-abs : (x y : ℤ) → unsigned_abs (x +ℤ y) ≤ unsigned_abs x + unsigned_abs y
sum-abs x y = omega (arith, ints)

pub small-divisions : (b q r : OrdInt) → greatest_abs b * greatest_abs q + greatest_abs r < 2 ^ 100 → HasSmallDivisions b q r
small-divisions b q r small v w t cv cw ct =
    let e = unsigned_abs-mul v w in
    let le = times-le (unsigned_abs v) (unsigned_abs w) (greatest_abs b) (greatest_abs q) (value-within b v cv) (value-within q w cw) in
    let lr = value-within r t ct in
    let s = sum-abs (v *ℤ w) t in
    omega (arith, e, le, lr, s, small)
