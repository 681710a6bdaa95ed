-- What a sum's members add up to, where it is known, and as the code holds it.
use Rattle.std.proofs.Common.{◌≡◌, ◌^◌, ◌<◌, ◌≤◌, List, [], ◌∷◌, ℤ, pos, ◌+ℤ◌, to_z, of_z, refl, sym, ap, subst, ◌∙◌, arith}
use Rattle.std.specs.Prelude.{FitsSigned, unsigned_abs}
use mir.Syntax.{w128}
use Rattle.std.proofs.lemmas.Int.{ints, to_z_pos, fits_signed_from_abs}
use Rattle.order_ints.specs.declared.order_int.OrdInt.{OrdInt}
use Rattle.core_forms.specs.declared.summands.Totals.{Totals}
use Rattle.core_forms.specs.Totals.{lows, widths, AreTotals}
use Rattle.core_forms.specs.WellFormed.{abs_total}
use Rattle.core_forms.proofs.Bounds.{small_bits}
use Rattle.arith_rules.specs.SumRows.{lows_of, highs_of}

lows-same : (xs : List OrdInt) → lows xs ≡ lows_of xs
lows-same [] = refl
lows-same (a ∷ xs) = ap (λ (v : ℤ). a.base +ℤ v) (lows-same xs)

highs-same : (xs : List OrdInt) → lows xs +ℤ pos (widths xs) ≡ highs_of xs
highs-same [] = refl
highs-same (a ∷ xs) = omega (arith, ints, highs-same xs)

pub totals-low : (xs : List OrdInt) (t : Totals) → AreTotals xs t → t.low ≡ lows_of xs
totals-low xs t h = h.low ∙ lows-same xs

pub totals-high : (xs : List OrdInt) (t : Totals) → AreTotals xs t → t.low +ℤ pos t.width ≡ highs_of xs
totals-high xs t h = (λ i. h.low i +ℤ pos (h.width i)) ∙ highs-same xs

pub lows-small : (xs : List OrdInt) → unsigned_abs (lows_of xs) ≤ abs_total xs
lows-small [] = omega arith
lows-small (a ∷ xs) = omega (arith, ints, lows-small xs)

pub highs-small : (xs : List OrdInt) → unsigned_abs (highs_of xs) ≤ abs_total xs
highs-small [] = omega arith
highs-small (a ∷ xs) = omega (arith, ints, highs-small xs)

-- so the widths, added up, are below the limit
pub width-small : (xs : List OrdInt) (t : Totals) → AreTotals xs t → abs_total xs < 2 ^ 100 → t.width < 2 ^ 101
width-small xs t h limit =
    let low = totals-low xs t h in
    let high = totals-high xs t h in
    let least = lows-small xs in
    let greatest = highs-small xs in
    omega (arith, ints, low, high, least, greatest, limit)

pub totals-small : (xs : List OrdInt) → abs_total xs < 2 ^ 100 → (unsigned_abs (lows_of xs) < 2 ^ 100) × (unsigned_abs (highs_of xs) < 2 ^ 100)
totals-small xs limit = (omega (arith, lows-small xs, limit), omega (arith, highs-small xs, limit))

-- as the code holds them
module _ (xs : List OrdInt) (t : Totals) (h : AreTotals xs t) (limit : abs_total xs < 2 ^ 100) where
  pub width_bits : to_z w128 t.width ≡ pos t.width
  width_bits = to_z_pos w128 t.width (omega (arith, width-small xs t h limit))

  pub low_bits : to_z w128 (of_z w128 t.low) ≡ lows_of xs
  low_bits = ap (λ z. to_z w128 (of_z w128 z)) (totals-low xs t h) ∙ small_bits (lows_of xs) (totals-small xs limit).0

  added : to_z w128 (of_z w128 t.low) +ℤ to_z w128 t.width ≡ highs_of xs
  added = (λ i. low_bits i +ℤ width_bits i) ∙ ap (λ z. z +ℤ pos t.width) (sym (totals-low xs t h)) ∙ totals-high xs t h

  pub high_bits : to_z w128 (of_z w128 (to_z w128 (of_z w128 t.low) +ℤ to_z w128 t.width)) ≡ highs_of xs
  high_bits = ap (λ z. to_z w128 (of_z w128 z)) added ∙ small_bits (highs_of xs) (totals-small xs limit).1

  pub width-fits : FitsSigned w128 (pos t.width)
  width-fits = fits_signed_from_abs w128 (pos t.width) (omega (arith, width-small xs t h limit))

  pub high-fits : FitsSigned w128 (to_z w128 (of_z w128 t.low) +ℤ to_z w128 t.width)
  high-fits =
      fits_signed_from_abs w128 (to_z w128 (of_z w128 t.low) +ℤ to_z w128 t.width)
      (subst (λ (z : ℤ). unsigned_abs z < 2 ^ 127) (sym added) (omega (arith, (totals-small xs limit).1)))

  pub held-small : (unsigned_abs (to_z w128 (of_z w128 t.low)) < 2 ^ 100)
      × (unsigned_abs (to_z w128 (of_z w128 (to_z w128 (of_z w128 t.low) +ℤ to_z w128 t.width))) < 2 ^ 100)
  held-small = (
    subst (λ (z : ℤ). unsigned_abs z < 2 ^ 100) (sym low_bits) (totals-small xs limit).0,
    subst (λ (z : ℤ). unsigned_abs z < 2 ^ 100) (sym high_bits) (totals-small xs limit).1,
  )
