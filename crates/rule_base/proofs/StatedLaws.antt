-- Laws of equations that state bounds of an integer or truths of atoms: when they hold, and of what atoms they are.
use Rattle.std.proofs.Common.{◌≡◌, ℕ, suc, Bool, true, false, ◌&&◌, cond, List, [], ◌∷◌, ℤ, pos, ◌+ℤ◌, ◌≤ℤ◌, ◌<ℤ◌, refl, sym, ◌∙◌, arith}
use Rattle.std.specs.Prelude.{int_le}
use Rattle.std.proofs.lemmas.Int.{ints}
use Rattle.order_ints.specs.declared.atom.Atom.{Atom}
use Rattle.order_ints.specs.declared.atom.Atom.TheVariants.{True, False}
use Rattle.order_ints.specs.declared.order_int.OrdInt.{OrdInt}
use Rattle.order_ints.specs.Truth.{Valuation, atom_truth}
use Rattle.order_ints.specs.OrderValue.{value_of, IsOrdered}
use Rattle.order_ints.specs.OrderLevels.{levels, first_reaching, at_of}
use Rattle.order_ints.proofs.Comparisons.{int_le-true, int_le-false, by_int_le}
use Rattle.order_ints.proofs.Reaching.{atom_truth-at_of}
use Rattle.core_forms.specs.Truths.{all_true, true_count}
use Rattle.core_forms.specs.Each.{EachOf, EachStep}
use Rattle.rule_base.specs.Pairs.{AreEqual, EachOfPairs, IsClosed}
use Rattle.rule_base.specs.Stated.{at_least, is_below, is_not, all_equal}

-- on an ordered integer: the atom at v is true up to the value, and false above it
pub at_of-reached : (σ : Valuation) (a : OrdInt) (v : ℤ) → IsOrdered σ a → v ≤ℤ value_of σ a → atom_truth σ (at_of a v) ≡ true
at_of-reached σ a v ordered le = atom_truth-at_of σ a v ordered ∙ int_le-true v (value_of σ a) le

pub at_of-passed : (σ : Valuation) (a : OrdInt) (v : ℤ) → IsOrdered σ a → value_of σ a <ℤ v → atom_truth σ (at_of a v) ≡ false
at_of-passed σ a v ordered lt = atom_truth-at_of σ a v ordered ∙ int_le-false v (value_of σ a) lt

-- the equations of bounds hold where the bounds do
pub at_least-equal : (σ : Valuation) (a : OrdInt) (v : ℤ) → IsOrdered σ a → v ≤ℤ value_of σ a → AreEqual σ (at_least a v ∷ [])
at_least-equal σ a v ordered le = (at_of-reached σ a v ordered le, tt)

pub is_below-equal : (σ : Valuation) (a : OrdInt) (v : ℤ) → IsOrdered σ a → value_of σ a <ℤ v → AreEqual σ (is_below a v ∷ [])
is_below-equal σ a v ordered lt = (at_of-passed σ a v ordered lt, tt)

next-value : (v w : ℤ) → (w ≡ v → ⊥) → int_le v w ≡ int_le (v +ℤ pos 1) w
next-value v w differ = grind (arith, ints)

pub is_not-equal : (σ : Valuation) (a : OrdInt) (v : ℤ) → IsOrdered σ a → (value_of σ a ≡ v → ⊥) → AreEqual σ (is_not a v ∷ [])
is_not-equal σ a v ordered differ =
    (atom_truth-at_of σ a v ordered ∙ next-value v (value_of σ a) differ ∙ sym (atom_truth-at_of σ a (v +ℤ pos 1) ordered), tt)

-- where all atoms are true, each is equal to True; where none is, each is equal to False
pub all_equal-true : (σ : Valuation) (atoms : List Atom) → all_true σ atoms ≡ true → AreEqual σ (all_equal atoms True)
all_equal-true σ [] all = tt
all_equal-true σ (a ∷ atoms) all = split (atom_truth σ a) refl all (all_equal-true σ atoms)
  where
    split : (s : Bool) → atom_truth σ a ≡ s → (s && all_true σ atoms) ≡ true → (all_true σ atoms ≡ true → AreEqual σ (all_equal atoms True)) → AreEqual σ (all_equal (a ∷ atoms) True)
    split true is rest equal = (is, equal rest)
    split false is rest equal = absurd (cc)

pub all_equal-false : (σ : Valuation) (atoms : List Atom) → true_count σ atoms ≡ 0 → AreEqual σ (all_equal atoms False)
all_equal-false σ [] none = tt
all_equal-false σ (a ∷ atoms) none = split (atom_truth σ a) refl none (all_equal-false σ atoms)
  where
    split : (s : Bool) → atom_truth σ a ≡ s → cond s (suc (true_count σ atoms)) (true_count σ atoms) ≡ 0 → (true_count σ atoms ≡ 0 → AreEqual σ (all_equal atoms False)) → AreEqual σ (all_equal (a ∷ atoms) False)
    split true is rest equal = absurd (omega (arith, rest))
    split false is rest equal = (is, equal rest)

-- what holds of the constants and of each step's atom holds of the atom at each value
module _ (P : Atom → Type 0) (closed : IsClosed P) where
  each-levels : (v low : ℤ) (x : Atom) (steps : List (Atom × ℕ)) → P x → EachStep P steps → P (first_reaching v (levels low x steps))
  each-levels v low x [] here each = by_int_le v low x False P (λ _. here) (λ _. closed.falsehood)
  each-levels v low x (s ∷ steps) here each =
      by_int_le v low x (first_reaching v (levels (low +ℤ pos s.1) s.0 steps)) P (λ _. here)
      (λ _. each-levels v (low +ℤ pos s.1) s.0 steps each.0 each.1)

  pub each-at_of : (a : OrdInt) (v : ℤ) → EachStep P a.steps → P (at_of a v)
  each-at_of a v each = each-levels v a.base True a.steps closed.truth each

  pub each-at_least : (a : OrdInt) (v : ℤ) → EachStep P a.steps → EachOfPairs P (at_least a v ∷ [])
  each-at_least a v each = ((each-at_of a v each, closed.truth), tt)

  pub each-is_below : (a : OrdInt) (v : ℤ) → EachStep P a.steps → EachOfPairs P (is_below a v ∷ [])
  each-is_below a v each = ((each-at_of a v each, closed.falsehood), tt)

  pub each-is_not : (a : OrdInt) (v : ℤ) → EachStep P a.steps → EachOfPairs P (is_not a v ∷ [])
  each-is_not a v each = ((each-at_of a v each, each-at_of a (v +ℤ pos 1) each), tt)

  pub each-all_equal : (atoms : List Atom) (b : Atom) → EachOf P atoms → P b → EachOfPairs P (all_equal atoms b)
  each-all_equal [] b each one = tt
  each-all_equal (a ∷ atoms) b each one = ((each.0, one), each-all_equal atoms b each.1 one)
