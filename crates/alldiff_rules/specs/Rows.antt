-- The equations that all-different and lexicographic order state.
use Rattle.std.specs.Prelude.{◌≡◌, ◌≢◌, ◌⊎◌, ℕ, ◌<◌, Bool, true, false, List, [], ◌∷◌}
use Rattle.std.specs.Prelude.{length, ℤ, pos, ◌+ℤ◌, if◌then◌else◌}
use Rattle.order_ints.specs.declared.atom.Atom.{Atom}
use Rattle.order_ints.specs.declared.atom.Atom.TheVariants.{True, False}
use Rattle.order_ints.specs.declared.order_int.OrdInt.{OrdInt}
use Rattle.order_ints.specs.Truth.{not_atom}
use Rattle.order_ints.specs.OrderRange.{low_of, high_of}
use Rattle.order_ints.specs.OrderLevels.{values_of, at_of, is_among}
use Rattle.order_ints.specs.OrderMade.{constant_of}
use Rattle.order_ints.specs.Same.{is_true}
use Rattle.rule_base.specs.Pairs.{only_if}
use Rattle.rule_base.specs.Stated.{at_least, is_below}
use Rattle.alldiff_rules.specs.Members.{int_at, condition_at, IsSure, AreAllSure, choice_of, number_of_values}

-- members at two places have one and the same two values, the lower one v and the greater one by d; the greater one
-- where p is true, and where q is
pub record AreTwins (ints : List OrdInt) (cs : List Atom) (i j : ℕ) (v : ℤ) (d : ℕ) (p q : Atom) : Type 0 where
  pub apart : i ≢ j
  pub sure_first : IsSure cs i
  pub sure_second : IsSure cs j
  pub first : int_at ints i ≡ choice_of v p d
  pub second : int_at ints j ≡ choice_of v q d

-- members at other places than k need the value: a constant, or two with the same two values
pub data IsTaken (ints : List OrdInt) (cs : List Atom) (k : ℕ) (v : ℤ) : Type 0 where
  by_constant : (i : ℕ) → i ≢ k → IsSure cs i → int_at ints i ≡ constant_of v → IsTaken ints cs k v
  by_twins : (i j : ℕ) (low : ℤ) (d : ℕ) (p q : Atom) → AreTwins ints cs i j low d p q → i ≢ k → j ≢ k
      →
      (v ≡ low) ⊎ (v ≡ low +ℤ pos d) → IsTaken ints cs k v

-- the value is one of the member at the place, and of no other
pub record IsAlone (ints : List OrdInt) (i : ℕ) (v : ℤ) : Type 0 where
  pub inside : i < length ints
  pub here : is_among v (values_of (int_at ints i)) ≡ true
  pub nowhere : (j : ℕ) → j < length ints → j ≢ i → is_among v (values_of (int_at ints j)) ≡ false

-- the equation of a and b is one that all-different states: that there are fewer values than members, which all differ,
-- is a contradiction; a member isn't a value that others need; of two constants with one value one has no true
-- condition; of two members with the same two values one has the greater where the other has the lower; and where there
-- are as many values as members, which all differ, a value that one member alone has is its value
pub data IsRow (ints : List OrdInt) (cs : List Atom) (a b : Atom) : Type 0 where
  too_few : AreAllSure cs → number_of_values ints < length ints → a ≡ True → b ≡ False → IsRow ints cs a b
  needed_elsewhere : (k : ℕ) (v : ℤ) → k < length ints → IsSure cs k → IsTaken ints cs k v →
      a ≡ at_of (int_at ints k) v → b ≡ at_of (int_at ints k) (v +ℤ pos 1) → IsRow ints cs a b
  equal_constants : (i j : ℕ) (v : ℤ) → i ≢ j → j < length ints → IsSure cs i
      → int_at ints i ≡ constant_of v →
      int_at ints j ≡ constant_of v → a ≡ condition_at cs j → b ≡ False → IsRow ints cs a b
  opposite_twins : (i j : ℕ) (v : ℤ) (d : ℕ) (p q : Atom) → AreTwins ints cs i j v d p q → a ≡ p
      → b ≡ not_atom q → IsRow ints cs a b
  reached_alone : (i : ℕ) (v : ℤ) → AreAllSure cs → number_of_values ints ≡ length ints → IsAlone ints i v
      →
      a ≡ at_of (int_at ints i) v → b ≡ True → IsRow ints cs a b
  passed_alone : (i : ℕ) (v : ℤ) → AreAllSure cs → number_of_values ints ≡ length ints → IsAlone ints i v
      →
      a ≡ at_of (int_at ints i) (v +ℤ pos 1) → b ≡ False → IsRow ints cs a b

-- the order of two empty lists is known; and where one list stands before the other, or equals it, its first integer is
-- at most the greatest value of the other's, and the other's is at least its least value
abbrev pub lex_equations : Atom → Bool → List OrdInt → List OrdInt → List (Atom × Atom)
lex_equations r strict [] [] = (r, if strict then False else True) ∷ []
lex_equations r strict [] (b ∷ back) = []
lex_equations r strict (a ∷ front) [] = []
lex_equations r strict (a ∷ front) (b ∷ back) =
    only_if (is_true r) (is_below a (high_of b +ℤ pos 1) ∷ at_least b (low_of a) ∷ [])
