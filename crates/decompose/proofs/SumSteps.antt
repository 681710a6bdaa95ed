-- The parts of a sum of four members and more, and the steps of their fresh integer.
use Rattle.std.proofs.Common.{◌≡◌, ℕ, ◌+◌, ◌-◌, ◌<◌, ◌≤◌, List, [], ◌∷◌, ◌++◌, length, get_or, ℤ, refl, ap, ◌∙◌, arith}
use Rattle.order_ints.specs.declared.order_int.OrdInt.{OrdInt}
use Rattle.core_cost.specs.Sums.{fresh_sum_of, cost_of_sum}
use Rattle.core_cost.proofs.SumLaws.{sum_of_more}
use Rattle.core_forms.specs.declared.form.Core.{Core}
use Rattle.core_forms.specs.declared.form.Core.TheVariants.{Sum3, Sum}
use Rattle.core_forms.specs.Sums.{sums_of}
use Rattle.core_forms.specs.Shapes.{shape_of, shapes_of}
use Rattle.core_forms.proofs.ShapeLaws.{length-shapes}
use Rattle.part_base.specs.declared.parts.Parts.{Parts}
use Rattle.decompose.specs.SumParts.{fresh_of}

-- from four members on
abbrev pub long_of : ℤ → ℕ → OrdInt → OrdInt → List OrdInt → Parts
long_of k next a b others = record {
  cores = Sum3 a b (fresh_of next a b) ∷ Sum (others ++ fresh_of next a b ∷ []) k ∷ [];
  fresh = length (sums_of a b) - 1;
}

-- what they are made of
pub long-made : (next : ℕ) (a b z : OrdInt) (others ints : List OrdInt) (k : ℤ) (first second : Core) (cores : List Core) (fresh : ℕ)
    → z ≡ fresh_of next a b → fresh ≡ length (sums_of a b) - 1 → ints ≡ others ++ z ∷ [] → first ≡ Sum3 a b z → second ≡ Sum ints k → cores ≡ first ∷ second ∷ []
    → record { cores = cores; fresh = fresh } ≡ long_of k next a b others
long-made next a b z others ints k first second cores fresh sum count more one two all =
    rw (all, one, two, more, count) (ap (λ (y : OrdInt). long_with y) sum)
  where
    long_with : OrdInt → Parts
    long_with y = record { cores = Sum3 a b y ∷ Sum (others ++ y ∷ []) k ∷ []; fresh = length (sums_of a b) - 1 }

-- the fresh integer has no more steps than the sum costs
pub fresh-costs : (ints : List OrdInt) (a b : OrdInt) (more others : List OrdInt) → ints ≡ a ∷ more → more ≡ b ∷ others → 3 < length ints
    → (fresh_sum_of (shape_of a) (shape_of b)).steps ≤ cost_of_sum (shapes_of ints)
fresh-costs ints a b more others e f h =
    let all : ints ≡ a ∷ b ∷ others = e ∙ ap (λ xs. a ∷ xs) f in
    let long : 2 ≤ length (shapes_of others) = omega (arith, ap length all, length-shapes others) in
    let c = sum_of_more (shape_of a) (shape_of b) (shapes_of others) long in
    rw all (at_most _ _ _ _ c)
  where
    at_most : (x y z w : ℕ) → w ≡ x + y + z → x ≤ w
    at_most x y z w e = omega arith

-- the first two of many members have no more steps together, as they stand in the list
pub first-costs : (ints : List OrdInt) (a b : OrdInt) → a ≡ get_or ints 0 a → b ≡ get_or ints 1 b → 3 < length ints
    → (fresh_sum_of (shape_of a) (shape_of b)).steps ≤ cost_of_sum (shapes_of ints)
first-costs [] a b e f h = absurd (omega arith)
first-costs (x ∷ []) a b e f h = absurd (omega arith)
first-costs (x ∷ y ∷ others) a b e f h = rw (e, f) (fresh-costs (x ∷ y ∷ others) x y (y ∷ others) others refl refl h)
