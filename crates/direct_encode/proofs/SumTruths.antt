-- When the clauses of a sum of two integers are true: those that are left out say nothing more than those that are kept.
use Rattle.std.proofs.Common.{◌≡◌, ℕ, zero, suc, ◌+◌, ◌-◌, ◌<◌, ◌≤◌, Bool, true, false, not, ◌||◌, ◌&&◌, List, [], ℤ, pos, ◌+ℤ◌, ◌≤ℤ◌, ◌<ℤ◌, ◌⊎◌, inl, inr, refl, sym, ap, subst, ◌∙◌, arith}
use Rattle.std.specs.Prelude.{int_le, nat_lt}
use Rattle.std.specs.Ordering.{int_eq}
use Rattle.std.proofs.lemmas.Bool.Decides.{nat_tests}
use Rattle.std.proofs.lemmas.Int.{ints}
use Rattle.order_ints.specs.declared.atom.Atom.{Atom}
use Rattle.order_ints.specs.declared.order_int.OrdInt.{OrdInt}
use Rattle.order_ints.specs.Truth.{Valuation, atom_truth, not_atom}
use Rattle.order_ints.specs.Same.{same_atom}
use Rattle.order_ints.specs.Equality.{same_atom-true}
use Rattle.order_ints.specs.AtomClauses.{atom_clause_truth, atom_clauses_truth}
use Rattle.order_ints.specs.OrderValue.{value_of, IsOrdered}
use Rattle.order_ints.specs.OrderRange.{AreRising}
use Rattle.order_ints.specs.Walk.{value_at}
use Rattle.order_ints.proofs.Comparisons.{int_le-true, int_le-false}
use Rattle.order_ints.proofs.Reaching.{atom_truth-at_of}
use Rattle.order_ints.proofs.TruthLaws.{atom_truth-not_atom, atom_clauses_truth-append}
use Rattle.core_forms.specs.Shapes.{steps_of}
use Rattle.direct_encode.specs.Tables.{from_pair, up_to_pair, sum_reached, sum_exceeded, has_lower_neighbour, has_upper_neighbour, unless, sum_pair, sum3_clauses}
use Rattle.direct_encode.proofs.TableLaws.{rises}
use Rattle.direct_encode.proofs.TableTruths.{HasFalse, truth-table, truth-from_pair, truth-up_to_pair, place_of_value}

true-unless : (σ : Valuation) (left_out : Bool) (clause : List Atom) → atom_clause_truth σ clause ≡ true → atom_clauses_truth σ (unless left_out clause) ≡ true
true-unless σ true clause e = refl
true-unless σ false clause e = ap (λ b. b && true) e

false-unless : (σ : Valuation) (left_out : Bool) (clause : List Atom) → left_out ≡ false → atom_clause_truth σ clause ≡ false → atom_clauses_truth σ (unless left_out clause) ≡ false
false-unless σ true clause o e = absurd (cc)
false-unless σ false clause o e = ap (λ b. b && true) e

and-true : (b c : Bool) → b ≡ true → c ≡ true → (b && c) ≡ true
and-true true c e f = f
and-true false c e f = e

and-false : (b c : Bool) → c ≡ false → (b && c) ≡ false
and-false true c e = e
and-false false c e = refl

-- which test of two holds
either : (b c d e : Bool) → ((b && c) || (d && e)) ≡ true → ((b ≡ true) × (c ≡ true)) ⊎ ((d ≡ true) × (e ≡ true))
either true true d e h = inl (refl, refl)
either true false true e h = inr (refl, h)
either true false false e h = absurd (cc)
either false c true e h = inr (refl, h)
either false c false e h = absurd (cc)

some-before : (i : ℕ) → nat_lt 0 i ≡ true → 0 < i
some-before i h = grind (arith, nat_tests)

some-above : (i n : ℕ) → nat_lt i n ≡ true → i < n
some-above i n h = grind (arith, nat_tests)

-- tests on values: x, y and z stand for those of the integers, u and v for those at places
from-each : (x y z u v : ℤ) → int_eq (x +ℤ y) z ≡ true → (not (int_le u x) || (not (int_le v y) || (int_le (u +ℤ v) z || false))) ≡ true
from-each x y z u v h = grind (arith, ints)

up_to-each : (x y z u v : ℤ) → int_eq (x +ℤ y) z ≡ true → (int_le (u +ℤ pos 1) x || (int_le (v +ℤ pos 1) y || (not (int_le (u +ℤ v +ℤ pos 1) z) || false))) ≡ true
up_to-each x y z u v h = grind (arith, ints)

from-one : (x y u v : ℤ) (s : Bool) → u ≤ℤ x → v ≤ℤ y → s ≡ false → (not (int_le u x) || (not (int_le v y) || (s || false))) ≡ false
from-one x y u v s hu hv e = ap (λ b. not b || (not (int_le v y) || (s || false))) (int_le-true u x hu) ∙ ap (λ b. not b || (s || false)) (int_le-true v y hv) ∙ ap (λ b. b || false) e

up_to-one : (x y u v : ℤ) (s : Bool) → x ≤ℤ u → y ≤ℤ v → s ≡ true → (int_le (u +ℤ pos 1) x || (int_le (v +ℤ pos 1) y || (not s || false))) ≡ false
up_to-one x y u v s hu hv e =
    ap (λ b. b || (int_le (v +ℤ pos 1) y || (not s || false))) (int_le-false (u +ℤ pos 1) x (omega (arith, ints, hu)))
    ∙ ap (λ b. b || (not s || false)) (int_le-false (v +ℤ pos 1) y (omega (arith, ints, hv)))
    ∙ ap (λ b. not b || false) e

next : (s z : ℤ) → int_eq s z ≡ false → int_le s z ≡ true → int_le (s +ℤ pos 1) z ≡ true
next s z e h = grind (arith, ints)

equal-le : (v w : ℤ) → v ≡ w → v ≤ℤ w
equal-le v w e = omega (arith, ints, e)

module _ (σ : Valuation) (a b c : OrdInt) (oa : IsOrdered σ a) (ob : IsOrdered σ b) (oc : IsOrdered σ c) (ra : AreRising a.steps) (rb : AreRising b.steps) where
  reached-truth : (i j : ℕ) → atom_truth σ (sum_reached a b c i j) ≡ int_le (value_at a i +ℤ value_at b j) (value_of σ c)
  reached-truth i j = atom_truth-at_of σ c (value_at a i +ℤ value_at b j) oc

  exceeded-truth : (i j : ℕ) → atom_truth σ (sum_exceeded a b c i j) ≡ int_le (value_at a i +ℤ value_at b j +ℤ pos 1) (value_of σ c)
  exceeded-truth i j = atom_truth-at_of σ c (value_at a i +ℤ value_at b j +ℤ pos 1) oc

  below-step : (x : OrdInt) (k : ℕ) (v : ℤ) → AreRising x.steps → 0 < k → k ≤ steps_of x → value_at x k ≤ℤ v → value_at x (k - 1) ≤ℤ v
  below-step x k v rising some le h =
      let back : k - 1 + 1 ≡ k = omega (arith, some) in
      let up = rises x (k - 1) rising (omega (arith, some, le)) in
      let here : value_at x (k - 1) <ℤ value_at x k = subst (λ (j : ℕ). value_at x (k - 1) <ℤ value_at x j) back up in
      omega (arith, ints, here, h)

  above-step : (x : OrdInt) (k : ℕ) (v : ℤ) → AreRising x.steps → k < steps_of x → v ≤ℤ value_at x k → v ≤ℤ value_at x (k + 1)
  above-step x k v rising lt h = let up = rises x k rising lt in omega (arith, ints, up, h)

  -- at the places both integers are at least their values, and the sum's atom is false
  abbrev Under : ℕ → ℕ → Type 0
  Under i j =
      (i ≤ steps_of a) × (j ≤ steps_of b) × (value_at a i ≤ℤ value_of σ a) × (value_at b j ≤ℤ value_of σ b)
      × (atom_truth σ (sum_reached a b c i j) ≡ false)

  same-truth : (x y : Atom) (t : Bool) → same_atom x y ≡ true → atom_truth σ y ≡ t → atom_truth σ x ≡ t
  same-truth x y t same is = ap (atom_truth σ) (same_atom-true x y same) ∙ is

  -- then the clause there is false, or left out for a neighbour
  kept-from : (i j : ℕ) → Under i j → has_lower_neighbour a b c i j ≡ false → HasFalse σ (sum_pair a b c) a b
  kept-from i j u kept = (
    i,
    j,
    u.0,
    u.1,
    atom_clauses_truth-append σ (unless (has_lower_neighbour a b c i j) (from_pair a b i j (sum_reached a b c i j))) (unless (has_upper_neighbour a b c i j) (up_to_pair a b i j (not_atom (sum_exceeded a b c i j))))
        ∙ ap (λ t. t && atom_clauses_truth σ (unless (has_upper_neighbour a b c i j) (up_to_pair a b i j (not_atom (sum_exceeded a b c i j)))))
        (false-unless σ (has_lower_neighbour a b c i j) (from_pair a b i j (sum_reached a b c i j)) kept
        (truth-from_pair σ a b oa ob i j (sum_reached a b c i j) ∙ from-one (value_of σ a) (value_of σ b) (value_at a i) (value_at b j) (atom_truth σ (sum_reached a b c i j)) u.2 u.3 u.4)),
  )

  lower-neighbour : (i j : ℕ) → Under i j → has_lower_neighbour a b c i j ≡ true → (k : ℕ) × (l : ℕ) × (k + l + 1 ≡ i + j) × Under k l
  lower-neighbour i j u has =
      by (either (nat_lt 0 i) (same_atom (sum_reached a b c (i - 1) j) (sum_reached a b c i j)) (nat_lt 0 j) (same_atom (sum_reached a b c i (j - 1)) (sum_reached a b c i j)) has)
    where
      by : ((nat_lt 0 i ≡ true) × (same_atom (sum_reached a b c (i - 1) j) (sum_reached a b c i j) ≡ true)) ⊎ ((nat_lt 0 j ≡ true) × (same_atom (sum_reached a b c i (j - 1)) (sum_reached a b c i j) ≡ true)) → (k : ℕ) × (l : ℕ) × (k + l + 1 ≡ i + j) × Under k l
      by (inl h) =
          let some = some-before i h.0 in (
            i - 1,
            j,
            omega (arith, some),
            (omega (arith, u.0), u.1, below-step a i (value_of σ a) ra some u.0 u.2, u.3, same-truth (sum_reached a b c (i - 1) j) (sum_reached a b c i j) false h.1 u.4),
          )
      by (inr h) =
          let some = some-before j h.0 in (
            i,
            j - 1,
            omega (arith, some),
            (u.0, omega (arith, u.1), u.2, below-step b j (value_of σ b) rb some u.1 u.3, same-truth (sum_reached a b c i (j - 1)) (sum_reached a b c i j) false h.1 u.4),
          )

  step-from : (i j : ℕ) → Under i j → HasFalse σ (sum_pair a b c) a b ⊎ ((k : ℕ) × (l : ℕ) × (k + l + 1 ≡ i + j) × Under k l)
  step-from i j u = by (has_lower_neighbour a b c i j) refl
    where
      by : (t : Bool) → has_lower_neighbour a b c i j ≡ t → HasFalse σ (sum_pair a b c) a b ⊎ ((k : ℕ) × (l : ℕ) × (k + l + 1 ≡ i + j) × Under k l)
      by true e = inr (lower-neighbour i j u e)
      by false e = inl (kept-from i j u e)

  false-from : (fuel i j : ℕ) → i + j ≤ fuel → Under i j → HasFalse σ (sum_pair a b c) a b
  false-from zero i j le u =
      elim (step-from i j u) as (λ _. HasFalse σ (sum_pair a b c) a b) [
        | inl f ↦ f
        | inr s ↦ absurd (omega (arith, le, s.2))
      ]
  false-from (suc fuel) i j le u =
      elim (step-from i j u) as (λ _. HasFalse σ (sum_pair a b c) a b) [
        | inl f ↦ f
        | inr s ↦ false-from fuel s.0 s.1 (omega (arith, le, s.2)) s.3
      ]

  -- at the places both integers are at most their values, and the sum's atom above is true
  abbrev Over : ℕ → ℕ → Type 0
  Over i j =
      (i ≤ steps_of a) × (j ≤ steps_of b) × (value_of σ a ≤ℤ value_at a i) × (value_of σ b ≤ℤ value_at b j)
      × (atom_truth σ (sum_exceeded a b c i j) ≡ true)

  kept-up : (i j : ℕ) → Over i j → has_upper_neighbour a b c i j ≡ false → HasFalse σ (sum_pair a b c) a b
  kept-up i j u kept = (
    i,
    j,
    u.0,
    u.1,
    atom_clauses_truth-append σ (unless (has_lower_neighbour a b c i j) (from_pair a b i j (sum_reached a b c i j))) (unless (has_upper_neighbour a b c i j) (up_to_pair a b i j (not_atom (sum_exceeded a b c i j))))
        ∙ and-false (atom_clauses_truth σ (unless (has_lower_neighbour a b c i j) (from_pair a b i j (sum_reached a b c i j)))) _
        (false-unless σ (has_upper_neighbour a b c i j) (up_to_pair a b i j (not_atom (sum_exceeded a b c i j))) kept
        (truth-up_to_pair σ a b oa ob i j (not_atom (sum_exceeded a b c i j))
        ∙ ap (λ t. int_le (value_at a i +ℤ pos 1) (value_of σ a) || (int_le (value_at b j +ℤ pos 1) (value_of σ b) || (t || false))) (atom_truth-not_atom σ (sum_exceeded a b c i j))
        ∙ up_to-one (value_of σ a) (value_of σ b) (value_at a i) (value_at b j) (atom_truth σ (sum_exceeded a b c i j)) u.2 u.3 u.4)),
  )

  upper-neighbour : (i j : ℕ) → Over i j → has_upper_neighbour a b c i j ≡ true → (k : ℕ) × (l : ℕ) × (k + l ≡ i + j + 1) × Over k l
  upper-neighbour i j u has =
      by (either (nat_lt i (steps_of a)) (same_atom (sum_exceeded a b c (i + 1) j) (sum_exceeded a b c i j)) (nat_lt j (steps_of b)) (same_atom (sum_exceeded a b c i (j + 1)) (sum_exceeded a b c i j)) has)
    where
      by : ((nat_lt i (steps_of a) ≡ true) × (same_atom (sum_exceeded a b c (i + 1) j) (sum_exceeded a b c i j) ≡ true)) ⊎ ((nat_lt j (steps_of b) ≡ true) × (same_atom (sum_exceeded a b c i (j + 1)) (sum_exceeded a b c i j) ≡ true)) → (k : ℕ) × (l : ℕ) × (k + l ≡ i + j + 1) × Over k l
      by (inl h) =
          let some = some-above i (steps_of a) h.0 in (
            i + 1,
            j,
            omega arith,
            (omega (arith, some), u.1, above-step a i (value_of σ a) ra some u.2, u.3, same-truth (sum_exceeded a b c (i + 1) j) (sum_exceeded a b c i j) true h.1 u.4),
          )
      by (inr h) =
          let some = some-above j (steps_of b) h.0 in (
            i,
            j + 1,
            omega arith,
            (u.0, omega (arith, some), u.2, above-step b j (value_of σ b) rb some u.3, same-truth (sum_exceeded a b c i (j + 1)) (sum_exceeded a b c i j) true h.1 u.4),
          )

  step-up : (i j : ℕ) → Over i j → HasFalse σ (sum_pair a b c) a b ⊎ ((k : ℕ) × (l : ℕ) × (k + l ≡ i + j + 1) × Over k l)
  step-up i j u = by (has_upper_neighbour a b c i j) refl
    where
      by : (t : Bool) → has_upper_neighbour a b c i j ≡ t → HasFalse σ (sum_pair a b c) a b ⊎ ((k : ℕ) × (l : ℕ) × (k + l ≡ i + j + 1) × Over k l)
      by true e = inr (upper-neighbour i j u e)
      by false e = inl (kept-up i j u e)

  false-up : (fuel i j : ℕ) → steps_of a + steps_of b ≤ fuel + (i + j) → Over i j → HasFalse σ (sum_pair a b c) a b
  false-up zero i j le u =
      elim (step-up i j u) as (λ _. HasFalse σ (sum_pair a b c) a b) [
        | inl f ↦ f
        | inr s ↦ absurd (let up = s.3 in omega (arith, le, s.2, up.0, up.1))
      ]
  false-up (suc fuel) i j le u =
      elim (step-up i j u) as (λ _. HasFalse σ (sum_pair a b c) a b) [
        | inl f ↦ f
        | inr s ↦ false-up fuel s.0 s.1 (omega (arith, le, s.2)) s.3
      ]

  pair-true : int_eq (value_of σ a +ℤ value_of σ b) (value_of σ c) ≡ true → (i j : ℕ) → atom_clauses_truth σ (sum_pair a b c i j) ≡ true
  pair-true e i j =
      atom_clauses_truth-append σ (unless (has_lower_neighbour a b c i j) (from_pair a b i j (sum_reached a b c i j))) (unless (has_upper_neighbour a b c i j) (up_to_pair a b i j (not_atom (sum_exceeded a b c i j))))
      ∙ and-true _ _
      (true-unless σ (has_lower_neighbour a b c i j) (from_pair a b i j (sum_reached a b c i j))
      (truth-from_pair σ a b oa ob i j (sum_reached a b c i j)
      ∙ ap (λ t. not (int_le (value_at a i) (value_of σ a)) || (not (int_le (value_at b j) (value_of σ b)) || (t || false))) (reached-truth i j)
      ∙ from-each (value_of σ a) (value_of σ b) (value_of σ c) (value_at a i) (value_at b j) e))
      (true-unless σ (has_upper_neighbour a b c i j) (up_to_pair a b i j (not_atom (sum_exceeded a b c i j)))
      (truth-up_to_pair σ a b oa ob i j (not_atom (sum_exceeded a b c i j))
      ∙ ap (λ t. int_le (value_at a i +ℤ pos 1) (value_of σ a) || (int_le (value_at b j +ℤ pos 1) (value_of σ b) || (t || false))) (atom_truth-not_atom σ (sum_exceeded a b c i j) ∙ ap not (exceeded-truth i j))
      ∙ up_to-each (value_of σ a) (value_of σ b) (value_of σ c) (value_at a i) (value_at b j) e))

  some-false : int_eq (value_of σ a +ℤ value_of σ b) (value_of σ c) ≡ false → HasFalse σ (sum_pair a b c) a b
  some-false e = by (int_le (value_of σ a +ℤ value_of σ b) (value_of σ c)) refl
    where
      above : int_eq (value_of σ a +ℤ value_of σ b) (value_of σ c) ≡ false → int_le (value_of σ a +ℤ value_of σ b) (value_of σ c) ≡ true → int_le (value_of σ a +ℤ value_of σ b +ℤ pos 1) (value_of σ c) ≡ true
      above e t = next (value_of σ a +ℤ value_of σ b) (value_of σ c) e t

      by : (t : Bool) → int_le (value_of σ a +ℤ value_of σ b) (value_of σ c) ≡ t → HasFalse σ (sum_pair a b c) a b
      by true t =
          let p = place_of_value σ a oa in
          let q = place_of_value σ b ob in
          let sums : value_at a p.0 +ℤ value_at b q.0 ≡ value_of σ a +ℤ value_of σ b = ap (λ (v : ℤ). v +ℤ value_at b q.0) p.2 ∙ ap (λ (v : ℤ). value_of σ a +ℤ v) q.2 in
          false-up (steps_of a + steps_of b) p.0 q.0 (omega arith) (
            p.1,
            q.1,
            equal-le (value_of σ a) (value_at a p.0) (sym p.2),
            equal-le (value_of σ b) (value_at b q.0) (sym q.2),
            exceeded-truth p.0 q.0 ∙ ap (λ (v : ℤ). int_le (v +ℤ pos 1) (value_of σ c)) sums ∙ above e t,
          )
      by false t =
          let p = place_of_value σ a oa in
          let q = place_of_value σ b ob in
          let sums : value_at a p.0 +ℤ value_at b q.0 ≡ value_of σ a +ℤ value_of σ b = ap (λ (v : ℤ). v +ℤ value_at b q.0) p.2 ∙ ap (λ (v : ℤ). value_of σ a +ℤ v) q.2 in
          false-from (p.0 + q.0) p.0 q.0 (omega arith) (
            p.1,
            q.1,
            equal-le (value_at a p.0) (value_of σ a) p.2,
            equal-le (value_at b q.0) (value_of σ b) q.2,
            reached-truth p.0 q.0 ∙ ap (λ (v : ℤ). int_le v (value_of σ c)) sums ∙ t,
          )

  -- the clauses are true exactly where the sum is the third
  pub truth-sum3 : atom_clauses_truth σ (sum3_clauses a b c) ≡ int_eq (value_of σ a +ℤ value_of σ b) (value_of σ c)
  truth-sum3 = truth-table σ (sum_pair a b c) a b (int_eq (value_of σ a +ℤ value_of σ b) (value_of σ c)) pair-true some-false
