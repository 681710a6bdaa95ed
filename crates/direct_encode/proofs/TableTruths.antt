-- When the clauses over pairs of places are true.
use Rattle.std.proofs.Common.{◌≡◌, ℕ, zero, suc, ◌+◌, ◌-◌, ◌<◌, ◌≤◌, Bool, true, false, not, ◌||◌, ◌&&◌, ◌==◌, List, [], pos, ◌+ℤ◌, refl, ap, ◌∙◌, arith}
use Rattle.std.specs.Prelude.{int_le}
use Rattle.std.proofs.lemmas.Bool.{eqb-true}
use Rattle.std.proofs.lemmas.Bool.Decides.{nat_tests}
use Rattle.order_ints.specs.declared.atom.Atom.{Atom}
use Rattle.order_ints.specs.declared.order_int.OrdInt.{OrdInt}
use Rattle.order_ints.specs.Truth.{Valuation, atom_truth}
use Rattle.order_ints.specs.AtomClauses.{atom_clause_truth, atom_clauses_truth}
use Rattle.order_ints.specs.OrderValue.{value_of, IsOrdered}
use Rattle.order_ints.specs.OrderLevels.{at_of}
use Rattle.order_ints.specs.Walk.{value_at}
use Rattle.order_ints.proofs.Reaching.{atom_truth-at_of, Contains-value_of}
use Rattle.order_ints.proofs.TruthLaws.{atom_truth-not_atom, atom_clauses_truth-append}
use Rattle.core_forms.specs.Shapes.{steps_of}
use Rattle.direct_encode.specs.Tables.{over_places, row_clauses, table_clauses, from_pair, up_to_pair, at_pair}
use Rattle.direct_encode.proofs.TableLaws.{place_of}

-- over places: all are true where each is, and not where one isn't
over-all : (σ : Valuation) (f : ℕ → List (List Atom)) (first count : ℕ) → ((i : ℕ) → first ≤ i → i < first + count → atom_clauses_truth σ (f i) ≡ true) → atom_clauses_truth σ (over_places f first count) ≡ true
over-all σ f first zero each = refl
over-all σ f first (suc count) each =
    atom_clauses_truth-append σ (f first) (over_places f (first + 1) count)
    ∙ ap (λ b. b && atom_clauses_truth σ (over_places f (first + 1) count)) (each first (omega arith) (omega arith))
    ∙ over-all σ f (first + 1) count (λ i le lt. each i (omega (arith, le)) (omega (arith, lt)))

and-false : (b c : Bool) → c ≡ false → (b && c) ≡ false
and-false true c e = e
and-false false c e = refl

apart-places : (m n : ℕ) → (m == n) ≡ false → m ≤ n → m + 1 ≤ n
apart-places m n e le = grind (arith, nat_tests)

at-first : (σ : Valuation) (f : ℕ → List (List Atom)) (first i : ℕ) (rest : List (List Atom)) (t : Bool) → (first == i) ≡ t → atom_clauses_truth σ (f i) ≡ false → (t ≡ false → atom_clauses_truth σ rest ≡ false) → (atom_clauses_truth σ (f first) && atom_clauses_truth σ rest) ≡ false
at-first σ f first i rest true e fails later =
    ap (λ b. b && atom_clauses_truth σ rest) (ap (λ k. atom_clauses_truth σ (f k)) (eqb-true first i e) ∙ fails)
at-first σ f first i rest false e fails later = and-false (atom_clauses_truth σ (f first)) (atom_clauses_truth σ rest) (later refl)

over-one : (σ : Valuation) (f : ℕ → List (List Atom)) (first count i : ℕ) → first ≤ i → i < first + count → atom_clauses_truth σ (f i) ≡ false → atom_clauses_truth σ (over_places f first count) ≡ false
over-one σ f first zero i le lt fails = absurd (omega (arith, le, lt))
over-one σ f first (suc count) i le lt fails =
    atom_clauses_truth-append σ (f first) (over_places f (first + 1) count)
    ∙ at-first σ f first i (over_places f (first + 1) count) (first == i) refl fails
    (λ e. over-one σ f (first + 1) count i (apart-places first i e le) (omega (arith, lt)) fails)

-- a pair of places of which the clauses are false
abbrev pub HasFalse : Valuation → (ℕ → ℕ → List (List Atom)) → OrdInt → OrdInt → Type 0
HasFalse σ pair a b = (i : ℕ) × (j : ℕ) × (i ≤ steps_of a) × (j ≤ steps_of b) × (atom_clauses_truth σ (pair i j) ≡ false)

-- the clauses over all pairs are true where t is, if each pair's are there and some pair's aren't where t isn't
pub truth-table : (σ : Valuation) (pair : ℕ → ℕ → List (List Atom)) (a b : OrdInt) (t : Bool) → (t ≡ true → (i j : ℕ) → atom_clauses_truth σ (pair i j) ≡ true) → (t ≡ false → HasFalse σ pair a b) → atom_clauses_truth σ (table_clauses pair a b) ≡ t
truth-table σ pair a b true each one =
    over-all σ (row_clauses pair b) 0 (steps_of a + 1) (λ i le lt. over-all σ (pair i) 0 (steps_of b + 1) (λ j le lt. each refl i j))
truth-table σ pair a b false each one =
    let fails = one refl in
    over-one σ (row_clauses pair b) 0 (steps_of a + 1) fails.0 (omega arith) (omega (arith, fails.2))
    (over-one σ (pair fails.0) 0 (steps_of b + 1) fails.1 (omega arith) (omega (arith, fails.3)) fails.4)

module _ (σ : Valuation) (a b : OrdInt) (oa : IsOrdered σ a) (ob : IsOrdered σ b) where
  -- the truths of the clauses of a pair, by the values
  pub truth-from_pair : (i j : ℕ) (x : Atom) → atom_clause_truth σ (from_pair a b i j x) ≡ (not (int_le (value_at a i) (value_of σ a)) || (not (int_le (value_at b j) (value_of σ b)) || (atom_truth σ x || false)))
  truth-from_pair i j x =
      let na = atom_truth-not_atom σ (at_of a (value_at a i)) in
      let nb = atom_truth-not_atom σ (at_of b (value_at b j)) in
      let ea = atom_truth-at_of σ a (value_at a i) oa in
      let eb = atom_truth-at_of σ b (value_at b j) ob in
      cc

  pub truth-up_to_pair : (i j : ℕ) (x : Atom) → atom_clause_truth σ (up_to_pair a b i j x) ≡ (int_le (value_at a i +ℤ pos 1) (value_of σ a) || (int_le (value_at b j +ℤ pos 1) (value_of σ b) || (atom_truth σ x || false)))
  truth-up_to_pair i j x =
      let ea = atom_truth-at_of σ a (value_at a i +ℤ pos 1) oa in
      let eb = atom_truth-at_of σ b (value_at b j +ℤ pos 1) ob in
      cc

  pub truth-at_pair : (i j : ℕ) (x : Atom) → atom_clause_truth σ (at_pair a b i j x) ≡ (not (int_le (value_at a i) (value_of σ a)) || (int_le (value_at a i +ℤ pos 1) (value_of σ a) || (not (int_le (value_at b j) (value_of σ b)) || (int_le (value_at b j +ℤ pos 1) (value_of σ b) || (atom_truth σ x || false)))))
  truth-at_pair i j x =
      let na = atom_truth-not_atom σ (at_of a (value_at a i)) in
      let nb = atom_truth-not_atom σ (at_of b (value_at b j)) in
      let ea = atom_truth-at_of σ a (value_at a i) oa in
      let eb = atom_truth-at_of σ b (value_at b j) ob in
      let fa = atom_truth-at_of σ a (value_at a i +ℤ pos 1) oa in
      let fb = atom_truth-at_of σ b (value_at b j +ℤ pos 1) ob in
      cc

-- the places of the values that a valuation gives
pub place_of_value : (σ : Valuation) (a : OrdInt) → IsOrdered σ a → (k : ℕ) × (k ≤ steps_of a) × (value_at a k ≡ value_of σ a)
place_of_value σ a oa = place_of a (value_of σ a) (Contains-value_of σ a oa)
