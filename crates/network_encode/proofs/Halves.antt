-- A half of a count as an integer: its value, its limits, its cost.
use Rattle.std.proofs.Common.{◌≡◌, ℕ, zero, suc, ◌+◌, ◌<◌, ◌≤◌, ◌^◌, Bool, true, false, ◌&&◌, cond, List, [], ◌∷◌, length, get_or, ℤ, pos, ◌+ℤ◌, refl, sym, ap, subst, ◌∙◌, arith}
use Rattle.std.specs.Prelude.{Contains, nat_le}
use Rattle.std.proofs.lemmas.Bool.Decides.{nat_tests}
use Rattle.std.specs.Ordering.{int_eq}
use Rattle.std.proofs.lemmas.Int.{ints}
use Rattle.order_ints.specs.declared.atom.Atom.{Atom}
use Rattle.order_ints.specs.declared.order_int.OrdInt.{OrdInt}
use Rattle.order_ints.specs.Truth.{Valuation, Agree, atom_truth}
use Rattle.order_ints.specs.Place.{AtomsBelow}
use Rattle.order_ints.specs.OrderValue.{value_of, IsOrdered}
use Rattle.order_ints.specs.OrderRange.{IntBelow}
use Rattle.order_ints.specs.OrderLevels.{values_of}
use Rattle.order_ints.specs.OrderMade.{unit_steps, unit_range_of, values_from}
use Rattle.order_ints.proofs.TruthLaws.{atom_agrees}
use Rattle.order_ints.proofs.Gains.{AtomBelow-more}
use Rattle.order_ints.proofs.PlaceLaws.{AtomsBelow-up}
use Rattle.order_ints.proofs.Fresh.{weights-unit_steps, atoms-unit_steps, values_of-unit_range_of, AreRising-unit_steps, StepsBelow-vars, takes_each_value, IsBounded-unit_range_of}
use Rattle.core_cost.specs.Sums as sums
use Rattle.core_cost.specs.Counts.{cost_of_half, cost_of_count}
use Rattle.core_cost.specs.Divisor.{common_divisor_of}
use Rattle.std.proofs.lemmas.Nat.Gcd.{dvd_antisymm, dvd_of_mod-eq-zero}
use Rattle.core_cost.proofs.ShapeLaws.{common-divides_first}
use Rattle.core_forms.specs.declared.form.Core.TheVariants.{Count}
use Rattle.core_forms.specs.Truths.{true_count}
use Rattle.core_forms.specs.Meaning.{ordered, core_truth}
use Rattle.core_forms.specs.WellFormed.{IsSound, greatest_abs}
use Rattle.core_forms.specs.Shapes.{shape_of, divisor_of}
use Rattle.core_forms.specs.Cores.{MeetsAll, CoresBelow, AreWellFormed, costs_of}
use Rattle.network_encode.specs.CountParts.{half_int, half_fresh, half_cores}
use Rattle.network_encode.proofs.TrueCounts.{one_if, count-cons}

pub and-left : (s t : Bool) → (s && t) ≡ true → s ≡ true
and-left true t h = refl
and-left false t h = absurd (cc)

pub and-right : (s t : Bool) → (s && t) ≡ true → t ≡ true
and-right true t h = h
and-right false t h = absurd (cc)

pub int-same : (v w : ℤ) → int_eq v w ≡ true → v ≡ w
int-same v w h = grind (arith, ints)

pub same-int : (v w : ℤ) → v ≡ w → int_eq v w ≡ true
same-int v w h = grind (arith, ints)

-- a half is ordered, and its value is the number of true members, where its count is met
pub record IsCounted (σ : Valuation) (a : OrdInt) (ls : List Atom) : Type 0 where
  pub in_order : IsOrdered σ a
  pub value : value_of σ a ≡ pos (true_count σ ls)

one-value : (t : Bool) → pos 0 +ℤ pos (cond t 1 0 + 0) ≡ pos (cond t 1 0)
one-value true = omega (arith, ints)
one-value false = omega (arith, ints)

pub counted : (σ : Valuation) (next : ℕ) (ls : List Atom) → MeetsAll σ (half_cores next ls) → IsCounted σ (half_int next ls) ls
counted σ next [] met = record { in_order = refl; value = omega (arith, ints) }
counted σ next (l ∷ []) met = record { in_order = by_order (atom_truth σ l); value = one-value (atom_truth σ l) }
  where
    by_order : (t : Bool) → cond t true true ≡ true
    by_order true = refl
    by_order false = refl
counted σ next (l ∷ m ∷ ls) met =
    let k = length (l ∷ m ∷ ls) in
    let c = unit_range_of (pos 0) next k in
    let here = and-left (core_truth σ (Count (l ∷ m ∷ ls) c)) true met in
    record {
      in_order = and-left (ordered σ c) (int_eq (value_of σ c) (pos (true_count σ (l ∷ m ∷ ls)))) here;
      value = int-same (value_of σ c) (pos (true_count σ (l ∷ m ∷ ls))) (and-right (ordered σ c) (int_eq (value_of σ c) (pos (true_count σ (l ∷ m ∷ ls)))) here);
    }

-- the number of true members is at most that of all, and depends on their variables
pub count-le : (σ : Valuation) (ls : List Atom) → true_count σ ls ≤ length ls
count-le σ [] = omega arith
count-le σ (l ∷ ls) = omega (arith, count-cons σ l ls, count-le σ ls, at_most (atom_truth σ l))
  where
    at_most : (t : Bool) → one_if t ≤ 1
    at_most true = omega arith
    at_most false = omega arith

pub count-agree : (n : ℕ) (σ τ : Valuation) (ls : List Atom) → Agree n σ τ → AtomsBelow n ls → true_count σ ls ≡ true_count τ ls
count-agree n σ τ [] same below = refl
count-agree n σ τ (l ∷ ls) same below =
    omega (arith, count-cons σ l ls, count-cons τ l ls, count-agree n σ τ ls same below.1, ap one_if (atom_agrees n σ τ same l below.0))

-- each number up to a count is a value of the fresh integer
get-from : (low : ℤ) (count i : ℕ) (d : ℤ) → i < count → get_or (values_from low count) i d ≡ low +ℤ pos i
get-from low zero i d h = absurd (omega (arith, h))
get-from low (suc count) zero d h = omega (arith, ints)
get-from low (suc count) (suc i) d h = get-from (low +ℤ pos 1) count i d (omega (arith, h)) ∙ omega (arith, ints)

length-from : (low : ℤ) (count : ℕ) → length (values_from low count) ≡ count
length-from low zero = refl
length-from low (suc count) = ap suc (length-from (low +ℤ pos 1) count)

pub contains-from : (count i : ℕ) → i < count → Contains (values_from (pos 0) count) (pos i)
contains-from count i h =
    (i, omega (arith, h, length-from (pos 0) count), get-from (pos 0) count i (pos i) h ∙ omega (arith, ints))

-- a valuation can be changed from next on so that the count of a half is met
pub half-extended : (σ : Valuation) (next : ℕ) (ls : List Atom) → AtomsBelow next ls → (τ : Valuation) × Agree next σ τ × MeetsAll τ (half_cores next ls)
half-extended σ next [] below = (σ, (λ v h. refl), refl)
half-extended σ next (l ∷ []) below = (σ, (λ v h. refl), refl)
half-extended σ next (l ∷ m ∷ ls) below =
    let all = l ∷ m ∷ ls in
    let k = length (l ∷ m ∷ ls) in
    let c = unit_range_of (pos 0) next k in
    let n = true_count σ (l ∷ m ∷ ls) in
    let has : Contains (values_of (unit_range_of (pos 0) next (length (l ∷ m ∷ ls)))) (pos (true_count σ (l ∷ m ∷ ls))) =
    subst (λ (vs : List ℤ). Contains vs (pos (true_count σ (l ∷ m ∷ ls)))) (sym (values_of-unit_range_of (pos 0) next (length (l ∷ m ∷ ls))))
    (contains-from (length (l ∷ m ∷ ls) + 1) (true_count σ (l ∷ m ∷ ls)) (omega (arith, count-le σ (l ∷ m ∷ ls)))) in
    let taken = takes_each_value σ c next k (pos n) (atoms-unit_steps next k) has in
    let τ = taken.0 in
    let kept : true_count σ (l ∷ m ∷ ls) ≡ true_count taken.0 (l ∷ m ∷ ls) = count-agree next σ taken.0 (l ∷ m ∷ ls) taken.1 below in
    let is = same-int (value_of τ c) (pos (true_count τ all)) (taken.2.1 ∙ ap pos kept) in
    (τ, taken.1, joined (ordered τ c) (int_eq (value_of τ c) (pos (true_count τ all))) taken.2.0 is)
  where
    joined : (s t : Bool) → s ≡ true → t ≡ true → ((s && t) && true) ≡ true
    joined true true h k = refl
    joined true false h k = absurd (cc)
    joined false t h k = absurd (cc)

-- steps of weight 1 and their shape
pub steps-unit_steps : (first count : ℕ) → length (unit_steps first count) ≡ count
steps-unit_steps first zero = refl
steps-unit_steps first (suc count) = ap suc (steps-unit_steps (first + 1) count)

-- the greatest common divisor of 1 and any number is 1
pub one-divisor : (n : ℕ) → common_divisor_of 1 n ≡ 1
one-divisor n = dvd_antisymm (common-divides_first 1 n) (dvd_of_mod-eq-zero 1 (omega arith))

divisor-unit_steps : (first count : ℕ) → divisor_of (unit_steps first (suc count)) ≡ 1
divisor-unit_steps first count = one-divisor (divisor_of (unit_steps (first + 1) count))

-- the shape of a half
pub shape-half : (next : ℕ) (ls : List Atom) → shape_of (half_int next ls) ≡ sums.unit_steps (length ls)
shape-half next [] = refl
shape-half next (l ∷ []) = λ i. record { steps = 1; span = 1; divisor = one-divisor 0 i }
shape-half next (l ∷ m ∷ ls) = λ i. record { steps = steps-unit_steps next (length (l ∷ m ∷ ls)) i; span = weights-unit_steps next (length (l ∷ m ∷ ls)) i; divisor = divisor-unit_steps next (suc (length ls)) i }

-- the limits of a half
pub half-sound : (next : ℕ) (ls : List Atom) → length ls < 2 ^ 100 → IsSound (half_int next ls)
half-sound next [] few = ((omega (arith, ints), omega (arith, ints)), tt)
half-sound next (l ∷ []) few = ((omega (arith, ints), omega (arith, ints)), (omega arith, tt))
half-sound next (l ∷ m ∷ ls) few =
    (IsBounded-unit_range_of (pos 0) next (length (l ∷ m ∷ ls)) (omega (arith, ints)) (omega (arith, ints, few)), AreRising-unit_steps next (length (l ∷ m ∷ ls)))

pub half-greatest : (next : ℕ) (ls : List Atom) → greatest_abs (half_int next ls) ≤ length ls
half-greatest next [] = omega (arith, ints)
half-greatest next (l ∷ []) = omega (arith, ints)
half-greatest next (l ∷ m ∷ ls) = omega (arith, ints, weights-unit_steps next (length (l ∷ m ∷ ls)))

-- where its variables are
pub half-below : (next : ℕ) (ls : List Atom) → 1 ≤ next → AtomsBelow next ls → IntBelow (next + half_fresh ls) (half_int next ls)
half-below next [] least below = tt
half-below next (l ∷ []) least below = (AtomBelow-more next (next + 0) l (omega arith) below.0, tt)
half-below next (l ∷ m ∷ ls) least below =
    StepsBelow-vars (next + length (l ∷ m ∷ ls)) next (length (l ∷ m ∷ ls)) (unit_steps next (length (l ∷ m ∷ ls))) (atoms-unit_steps next (length (l ∷ m ∷ ls))) (λ _. least) (omega arith)

pub half-cores_below : (next : ℕ) (ls : List Atom) → 1 ≤ next → AtomsBelow next ls → CoresBelow (next + half_fresh ls) (half_cores next ls)
half-cores_below next [] least below = tt
half-cores_below next (l ∷ []) least below = tt
half-cores_below next (l ∷ m ∷ ls) least below =
    ((AtomsBelow-up next (next + length (l ∷ m ∷ ls)) (omega arith) (l ∷ m ∷ ls) below, (half-below next (l ∷ m ∷ ls) least below, tt)), tt)

pub half-cores_formed : (next : ℕ) (ls : List Atom) → length ls + length ls < 2 ^ 100 → AreWellFormed (half_cores next ls)
half-cores_formed next [] few = tt
half-cores_formed next (l ∷ []) few = tt
half-cores_formed next (l ∷ m ∷ ls) few =
    ((half-sound next (l ∷ m ∷ ls) (omega (arith, few)), omega (arith, few, half-greatest next (l ∷ m ∷ ls))), tt)

-- a half of more than one member adds its variables and its count
pub half-more : (h counts : ℕ) → 2 ≤ h → cost_of_half h counts ≡ h + counts
half-more h counts more = ap (λ b. cond b (h + counts) 0) (least h more)
  where
    least : (h : ℕ) → 2 ≤ h → nat_le 2 h ≡ true
    least h more = grind (arith, nat_tests)

-- what a half adds to variables and costs is what its cost counts
pub half-cost : (next : ℕ) (ls : List Atom) → half_fresh ls + costs_of (half_cores next ls) ≡ cost_of_half (length ls) (cost_of_count (length ls) (length ls))
half-cost next [] = refl
half-cost next (l ∷ []) = refl
half-cost next (l ∷ m ∷ ls) =
    omega (arith, ap (cost_of_count (length (l ∷ m ∷ ls))) (steps-unit_steps next (length (l ∷ m ∷ ls))), half-more (length (l ∷ m ∷ ls)) (cost_of_count (length (l ∷ m ∷ ls)) (length (l ∷ m ∷ ls))) (omega arith))
