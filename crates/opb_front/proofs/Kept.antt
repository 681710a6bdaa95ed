-- The sums of the objective stay in their limits.
use Rattle.std.proofs.Common.{◌≡◌, ℕ, ℤ, pos, negsuc, neg_ℤ, ◌+ℤ◌, ◌-ℤ◌, ◌≤ℤ◌, ◌<ℤ◌, Bool, true, false, refl, sym, ap, subst, ◌∙◌, arith, w64, FitsSigned, to_z, of_z}
use Rattle.std.specs.Prelude.{int_le, int_lt, if◌then◌else◌}
use Rattle.std.proofs.lemmas.Int.{ints, to_z-of_z}
use Rattle.opb_front.specs.Tokens.{most_number}
use Rattle.opb_front.specs.Steps.{sum_passes}

is-negative : (z : ℤ) → int_le (pos 0) z ≡ false → z <ℤ pos 0
is-negative z h = grind (arith, ints)

least-by : (least low z : ℤ) → z <ℤ pos 0 → int_lt z (least -ℤ low) ≡ false → low ≤ℤ pos 0 → (least ≤ℤ (low +ℤ z)) × ((low +ℤ z) ≤ℤ pos 0)
least-by least low z n e h = (grind (arith, ints), omega (arith, ints, n, h))

fits-small : (z : ℤ) → neg_ℤ (pos most_number) ≤ℤ z → z ≤ℤ pos 0 → FitsSigned w64 z
fits-small (pos n) l h = record { sfits = omega (arith, ints, h) }
fits-small (negsuc n) l h = record { sfits = omega (arith, ints, l) }

-- as the code adds
abbrev sum_of_bits : ℤ → ℤ → ℤ
sum_of_bits low z = to_z w64 (of_z w64 (to_z w64 (of_z w64 low) +ℤ to_z w64 (of_z w64 z)))

pub low_kept : (low high z : ℤ) → FitsSigned w64 z → ((neg_ℤ (pos most_number) ≤ℤ low) × (low ≤ℤ pos 0)) × ((pos 0 ≤ℤ high) × (high ≤ℤ pos most_number))
    → int_le (pos 0) (to_z w64 (of_z w64 z)) ≡ false → sum_passes low high z ≡ false
    → ((neg_ℤ (pos most_number) ≤ℤ sum_of_bits low z) × (sum_of_bits low z ≤ℤ pos 0)) × ((pos 0 ≤ℤ high) × (high ≤ℤ pos most_number))
low_kept low high z fits h below e =
    let same : to_z w64 (of_z w64 z) ≡ z = to_z-of_z w64 z fits in
    let test : int_le (pos 0) z ≡ false = ap (int_le (pos 0)) (sym same) ∙ below in
    let kept = least-by (neg_ℤ (pos most_number)) low z (is-negative z test) (rw test at e) h.0.1 in
    let low_same : to_z w64 (of_z w64 low) ≡ low = to_z-of_z w64 low (fits-small low h.0.0 h.0.1) in
    let sum_same : sum_of_bits low z ≡ low +ℤ z = (λ i. to_z w64 (of_z w64 (low_same i +ℤ same i))) ∙ to_z-of_z w64 (low +ℤ z) (fits-small (low +ℤ z) kept.0 kept.1) in
    let P : ℤ → Type 0 = λ x. (neg_ℤ (pos most_number) ≤ℤ x) × (x ≤ℤ pos 0) in
    (subst P (sym sum_same) kept, h.1)
