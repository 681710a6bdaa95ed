-- The atom that says that an objective is better is true exactly where it is.
use Rattle.std.proofs.Common.{◌≡◌, ℕ, zero, suc, ◌+◌, Bool, true, false, not, List, [], ◌∷◌, refl, sym, ap, ◌∙◌, ℤ, pos, ◌+ℤ◌, ◌≤ℤ◌, arith}
use Rattle.std.specs.Prelude.{◌&&◌, ◌||◌, ◌<ℤ◌, int_lt, int_le, Some}
use Rattle.std.specs.Ordering.{int_eq}
use Rattle.std.proofs.lemmas.Int.{ints}
use Rattle.order_ints.specs.declared.order_int.MapValue.{MapValue}
use Rattle.order_ints.specs.declared.order_int.MapValue.TheVariants as values
use Rattle.order_ints.specs.declared.order_int.OrdInt.{OrdInt}
use Rattle.order_ints.specs.Numbers.{number_of, numbers_of}
use Rattle.order_ints.specs.OrderLevels.{at_of}
use Rattle.order_ints.specs.OrderValue.{value_of, IsOrdered}
use Rattle.order_ints.specs.Truth.{Valuation, atom_truth, not_atom}
use Rattle.order_ints.proofs.Comparisons.{lt_from_test, le_from_test}
use Rattle.order_ints.proofs.Truths.{atom_truth-not_atom}
use Rattle.order_ints.proofs.Reaching.{atom_truth-at_of}
use Rattle.model_meaning.specs.declared.model.Decl.{Decl}
use Rattle.model_meaning.specs.declared.model.Goal.{Goal}
use Rattle.model_meaning.specs.declared.model.Goal.TheVariants.{Satisfy, Minimize, Maximize}
use Rattle.model_meaning.specs.declared.model.Kind.{Kind}
use Rattle.model_meaning.specs.declared.model.Kind.TheVariants as kind
use Rattle.model_meaning.specs.Lists.{in_order}
use Rattle.model_meaning.specs.Solutions.{objective, second_value, is_better}
use Rattle.model_meaning.specs.Terms.{value_at}
use Rattle.model_meaning.specs.WellTyped.{IsInt, ObjectiveFits, GoalFits}
use Rattle.name_map.specs.Fits.{ValueFits, ValuesFit}
use Rattle.statement_lower.specs.Entries.{AreOrdered}
use Rattle.statement_lower.specs.Terms.{integer_at}
use Rattle.answer_document.specs.Goals.{has_objective}
use Rattle.answer_document.specs.BoundAtoms.{integer_named}
use Rattle.objective_bound.specs.Bounds.{better_than}

less-is : (v w : ℤ) → v <ℤ w → int_lt v w ≡ true
less-is v w h = grind (arith, ints)

not-less : (v w : ℤ) → w ≤ℤ v → int_lt v w ≡ false
not-less v w h = grind (arith, ints)

-- at least is no less
less-by : (b : Bool) (v m : ℤ) → int_le m v ≡ b → not b ≡ int_lt v m
less-by true v m e = sym (not-less v m (le_from_test m v e))
less-by false v m e = sym (less-is v m (lt_from_test m v e))

more-by : (b : Bool) (v m : ℤ) → int_le (m +ℤ pos 1) v ≡ b → b ≡ int_lt m v
more-by true v m e = sym (less-is m v (omega (arith, ints, le_from_test (m +ℤ pos 1) v e)))
more-by false v m e = sym (not-less m v (omega (arith, ints, lt_from_test (m +ℤ pos 1) v e)))

not-not : (b : Bool) → not (not b) ≡ b
not-not true = refl
not-not false = refl

module _ (σ : Valuation) (a : OrdInt) (m : ℤ) (ordered : IsOrdered σ a) where
  less-truth : atom_truth σ (not_atom (at_of a m)) ≡ int_lt (value_of σ a) m
  less-truth = atom_truth-not_atom σ (at_of a m) ∙ ap not (atom_truth-at_of σ a m ordered) ∙ less-by (int_le m (value_of σ a)) (value_of σ a) m refl

  more-truth : atom_truth σ (not_atom (not_atom (at_of a (m +ℤ pos 1)))) ≡ int_lt m (value_of σ a)
  more-truth =
      let x = at_of a (m +ℤ pos 1) in
      atom_truth-not_atom σ (not_atom x) ∙ ap not (atom_truth-not_atom σ x) ∙ not-not (atom_truth σ x) ∙ atom_truth-at_of σ a (m +ℤ pos 1) ordered
      ∙ more-by (int_le (m +ℤ pos 1) (value_of σ a)) (value_of σ a) m refl

-- what stands behind a first number that is compared alone changes nothing
first-alone : (b c : Bool) → (b || (c && false)) ≡ b
first-alone true c = refl
first-alone false true = refl
first-alone false false = refl

short-behind : (xs : List ℤ) → in_order true xs [] ≡ false
short-behind [] = refl
short-behind (x ∷ xs) = refl

short-front : (xs : List ℤ) → in_order true [] xs ≡ false
short-front [] = refl
short-front (x ∷ xs) = refl

least-first : (v m : ℤ) (xs : List ℤ) → in_order true (v ∷ xs) (m ∷ []) ≡ int_lt v m
least-first v m xs = ap (λ (b : Bool). int_lt v m || (int_eq v m && b)) (short-behind xs) ∙ first-alone (int_lt v m) (int_eq v m)

greatest-first : (v m : ℤ) (xs : List ℤ) → in_order true (m ∷ []) (v ∷ xs) ≡ int_lt m v
greatest-first v m xs = ap (λ (b : Bool). int_lt m v || (int_eq m v && b)) (short-front xs) ∙ first-alone (int_lt m v) (int_eq m v)

-- the number of a name at the place of an integer is the integer's value
number-one : (σ : Valuation) (n : ℕ) (k : Kind) (v : MapValue) → IsInt k → ValueFits n k v → number_of σ v ≡ value_of σ (integer_at (Some v))
number-one σ n kind.Bool v i h = absurd i
number-one σ n (kind.Range low high) (values.Bool a) i h = absurd h
number-one σ n (kind.Range low high) (values.Int a) i h = refl
number-one σ n (kind.Listed vs) (values.Bool a) i h = absurd h
number-one σ n (kind.Listed vs) (values.Int a) i h = refl

number-named : (σ : Valuation) (n : ℕ) (ds : List Decl) (vs : List MapValue) → ValuesFit n ds vs → (place : ℕ) → ObjectiveFits ds place
    → value_at (numbers_of σ vs) place ≡ value_of σ (integer_named vs place)
number-named σ n [] [] h place o = absurd o
number-named σ n [] (v ∷ vs) h place o = absurd h
number-named σ n (d ∷ ds) [] h place o = absurd h
number-named σ n (d ∷ ds) (v ∷ vs) h zero o = number-one σ n d.kind v o h.0
number-named σ n (d ∷ ds) (v ∷ vs) h (suc place) o = number-named σ n ds vs h.1 place o

-- each integer of a map is ordered where all are
ordered-named : (σ : Valuation) (entries : List MapValue) (place : ℕ) → AreOrdered σ entries → IsOrdered σ (integer_named entries place)
ordered-named σ [] place h = refl
ordered-named σ (values.Bool a ∷ entries) zero h = refl
ordered-named σ (values.Int a ∷ entries) zero h = h.0
ordered-named σ (values.Bool a ∷ entries) (suc place) h = ordered-named σ entries place h
ordered-named σ (values.Int a ∷ entries) (suc place) h = ordered-named σ entries place h.1

pub better-truth : (σ : Valuation) (n : ℕ) (ds : List Decl) (entries : List MapValue) (goal : Goal) (m : ℤ) → ValuesFit n ds entries → AreOrdered σ entries → GoalFits ds goal → has_objective goal ≡ true
    → atom_truth σ (better_than goal entries m) ≡ is_better goal (objective goal (numbers_of σ entries)) (m ∷ [])
better-truth σ n ds entries Satisfy m fits ordered goal has = absurd (cc)
better-truth σ n ds entries (Minimize place second) m fits ordered goal has =
    let a : OrdInt = integer_named entries place in
    less-truth σ a m (ordered-named σ entries place ordered) ∙ ap (λ (v : ℤ). int_lt v m) (sym (number-named σ n ds entries fits place goal.0))
    ∙ sym (least-first (value_at (numbers_of σ entries) place) m (second_value second (numbers_of σ entries)))
better-truth σ n ds entries (Maximize place second) m fits ordered goal has =
    let a : OrdInt = integer_named entries place in
    more-truth σ a m (ordered-named σ entries place ordered) ∙ ap (λ (v : ℤ). int_lt m v) (sym (number-named σ n ds entries fits place goal.0))
    ∙ sym (greatest-first (value_at (numbers_of σ entries) place) m (second_value second (numbers_of σ entries)))
