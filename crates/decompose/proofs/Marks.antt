-- The marks of listed values: which of them belong to a value, and how many of these are true.
use Rattle.std.proofs.Common.{◌≡◌, ℕ, ◌+◌, ◌≤◌, suc, Bool, true, false, ◌&&◌, ◌||◌, cond, List, [], ◌∷◌, ◌++◌, map, length, inl, inr, ℤ, pos, ◌+ℤ◌, ◌≤ℤ◌, ◌<ℤ◌, refl, sym, ap, ◌∙◌, subst, arith}
use Rattle.std.specs.Prelude.{IsTrue}
use Rattle.std.specs.Ordering.{int_eq}
use Rattle.std.proofs.lemmas.Int.{ints}
use mathlib.Core.Bool.{and_comm}
use Rattle.order_ints.specs.Label.{variable}
use Rattle.order_ints.specs.declared.atom.Atom.{Atom}
use Rattle.order_ints.specs.declared.atom.Atom.TheVariants.{True}
use Rattle.order_ints.specs.declared.order_int.OrdInt.{OrdInt}
use Rattle.order_ints.specs.Truth.{Valuation, atom_truth}
use Rattle.order_ints.specs.Place.{AtomsBelow}
use Rattle.order_ints.specs.OrderRange.{AreRising}
use Rattle.order_ints.specs.OrderValue.{value_of, in_order, IsOrdered}
use Rattle.order_ints.specs.OrderLevels.{levels, values_of, is_among}
use Rattle.order_ints.specs.OrderMade.{AscendFrom, AreAscending}
use Rattle.order_ints.proofs.Reaching.{Contains-value_of}
use Rattle.core_forms.specs.Truths.{true_count, truths}
use Rattle.core_forms.specs.Values.{all_ordered, values}
use Rattle.core_forms.specs.WellFormed.{AreSound}
use Rattle.core_forms.proofs.Ascending.{Among, Among-from}
use Rattle.decompose.specs.DifferingParts.{all_values, marks_from, marked}
use Rattle.decompose.proofs.Tests.{and_first, and_second, int_eq_tells, int_eq_made, int_eq-false}

-- ---- one value's marks

-- cases on whether two numbers are equal
pub by_equal : (v w : ℤ) (P : Bool → Type 0) → (v ≡ w → P true) → ((v ≡ w → ⊥) → P false) → P (int_eq v w)
by_equal v w P same other =
    elim (int_eq v w) as (λ t. int_eq v w ≡ t → P t)
    [ true ↦ λ e. same (int_eq_tells v w e) | false ↦ λ e. other (λ is. absurd (let h = int_eq_made v w is in cc)) ] refl

pub marks_from-append : (var : ℕ) (vs ws : List ℤ) → marks_from var (vs ++ ws) ≡ marks_from var vs ++ marks_from (var + length vs) ws
marks_from-append var [] ws = let e : var ≡ var + 0 = omega arith in ap (λ n. marks_from n ws) e
marks_from-append var (v ∷ vs) ws =
    let e : var + 1 + length vs ≡ var + suc (length vs) = omega arith in
    ap (λ ms. (v, variable var) ∷ ms) (marks_from-append (var + 1) vs ws ∙ ap (λ n. marks_from (var + 1) vs ++ marks_from n ws) e)

pub length-marks : (var : ℕ) (vs : List ℤ) → length (marks_from var vs) ≡ length vs
length-marks var [] = refl
length-marks var (v ∷ vs) = ap suc (length-marks (var + 1) vs)

pub marked-append : (w : ℤ) (ms ns : List (ℤ × Atom)) → marked w (ms ++ ns) ≡ marked w ms ++ marked w ns
marked-append w [] ns = refl
marked-append w (m ∷ ms) ns =
    elim (int_eq w m.0) as (λ t. cond t (m.1 ∷ marked w (ms ++ ns)) (marked w (ms ++ ns)) ≡ cond t (m.1 ∷ marked w ms) (marked w ms) ++ marked w ns)
    [ true ↦ ap (λ xs. m.1 ∷ xs) (marked-append w ms ns) | false ↦ marked-append w ms ns ]

-- a value below all is not marked
absent : (w k : ℤ) (var : ℕ) (vs : List ℤ) → AscendFrom k vs → w ≤ℤ k → marked w (marks_from var vs) ≡ []
absent w k var [] up le = refl
absent w k var (v ∷ vs) up le =
    ap (λ t. cond t (variable var ∷ marked w (marks_from (var + 1) vs)) (marked w (marks_from (var + 1) vs))) (int_eq-false w v (λ e. omega (arith, ints, e, le, up.0)))
    ∙ absent w v (var + 1) vs up.1 (omega (arith, ints, le, up.0))

pub ascend-rest : (v : ℤ) (vs : List ℤ) → AscendFrom v vs → AreAscending vs
ascend-rest v [] up = tt
ascend-rest v (w ∷ vs) up = up.1

-- the marks' variables are from one on
pub marked-below : (n : ℕ) (w : ℤ) (var : ℕ) (vs : List ℤ) → 1 ≤ var → var + length vs ≤ n → AtomsBelow n (marked w (marks_from var vs))
marked-below n w var [] some few = tt
marked-below n w var (v ∷ vs) some few =
    elim (int_eq w v) as (λ t. AtomsBelow n (cond t (variable var ∷ marked w (marks_from (var + 1) vs)) (marked w (marks_from (var + 1) vs))))
    [ true ↦ ((some, omega arith), marked-below n w (var + 1) vs (omega arith) (omega arith)) | false ↦ marked-below n w (var + 1) vs (omega arith) (omega arith) ]

-- ---- the values of an integer ascend

AscendFrom-levels : (k low : ℤ) (x : Atom) (steps : List (Atom × ℕ)) → k <ℤ low → AreRising steps → AscendFrom k (map (λ (level : ℤ × Atom). level.0) (levels low x steps))
AscendFrom-levels k low x [] h up = (h, tt)
AscendFrom-levels k low x (s ∷ steps) h up = (h, AscendFrom-levels low (low +ℤ pos s.1) s.0 steps (omega (arith, ints, up.0)) up.1)

AreAscending-levels : (low : ℤ) (x : Atom) (steps : List (Atom × ℕ)) → AreRising steps → AreAscending (map (λ (level : ℤ × Atom). level.0) (levels low x steps))
AreAscending-levels low x [] up = tt
AreAscending-levels low x (s ∷ steps) up = AscendFrom-levels low (low +ℤ pos s.1) s.0 steps (omega (arith, ints, up.0)) up.1

pub values-ascend : (a : OrdInt) → AreRising a.steps → AreAscending (values_of a)
values-ascend a up = AreAscending-levels a.base True a.steps up

length-levels : (low : ℤ) (x : Atom) (steps : List (Atom × ℕ)) → length (map (λ (level : ℤ × Atom). level.0) (levels low x steps)) ≡ suc (length steps)
length-levels low x [] = refl
length-levels low x (s ∷ steps) = ap suc (length-levels (low +ℤ pos s.1) s.0 steps)

pub length-values_of : (a : OrdInt) → length (values_of a) ≡ suc (length a.steps)
length-values_of a = length-levels a.base True a.steps

-- ---- how many marks of a value are true

pub true_count-append : (τ : Valuation) (xs ys : List Atom) → true_count τ (xs ++ ys) ≡ true_count τ xs + true_count τ ys
true_count-append τ [] ys = omega arith
true_count-append τ (x ∷ xs) ys =
    elim (atom_truth τ x) as (λ t. cond t (suc (true_count τ (xs ++ ys))) (true_count τ (xs ++ ys)) ≡ cond t (suc (true_count τ xs)) (true_count τ xs) + true_count τ ys)
    [ true ↦ omega (arith, true_count-append τ xs ys) | false ↦ true_count-append τ xs ys ]

-- the conditions of as many members as there are values with that value
abbrev pub count_at : ℤ → List ℤ → List Bool → ℕ
count_at w [] cs = 0
count_at w (v ∷ vs) [] = 0
count_at w (v ∷ vs) (c ∷ cs) = cond (c && int_eq w v) 1 0 + count_at w vs cs

module _ (τ : Valuation) where
  -- each mark of a member is as true as that the member has the value and the condition is true
  abbrev pub HaveMarks : ℕ → OrdInt → Atom → List ℤ → Type 0
  HaveMarks var a c [] = Unit {0}
  HaveMarks var a c (v ∷ vs) = (τ var ≡ (int_eq v (value_of τ a) && atom_truth τ c)) × HaveMarks (var + 1) a c vs

  abbrev pub AllHaveMarks : ℕ → List OrdInt → List Atom → Type 0
  AllHaveMarks var [] cs = Unit {0}
  AllHaveMarks var (a ∷ ints) [] = Unit {0}
  AllHaveMarks var (a ∷ ints) (c ∷ cs) = HaveMarks var a c (values_of a) × AllHaveMarks (var + length (values_of a)) ints cs

  listed-count : (w : ℤ) (var : ℕ) (a : OrdInt) (c : Atom) (vs : List ℤ) → AreAscending vs → HaveMarks var a c vs
      → true_count τ (marked w (marks_from var vs)) ≡ cond (is_among w vs && (int_eq w (value_of τ a) && atom_truth τ c)) 1 0
  listed-count w var a c [] up h = refl
  listed-count w var a c (v ∷ vs) up h =
      elim (int_eq w v) as (λ t. int_eq w v ≡ t → true_count τ (cond t (variable var ∷ marked w (marks_from (var + 1) vs)) (marked w (marks_from (var + 1) vs)))
      ≡ cond ((int_eq v w || is_among w vs) && (int_eq w (value_of τ a) && atom_truth τ c)) 1 0) [
        | true ↦ λ e. here (int_eq_tells w v e)
        | false ↦ λ e. there (λ is. absurd (let k = int_eq_made w v is in cc)) (listed-count w (var + 1) a c vs (ascend-rest v vs up) h.1)
      ] refl
    where
      here : w ≡ v → true_count τ (variable var ∷ marked w (marks_from (var + 1) vs)) ≡ cond ((int_eq v w || is_among w vs) && (int_eq w (value_of τ a) && atom_truth τ c)) 1 0
      here is =
          let none = absent w v (var + 1) vs up (omega (arith, ints, is)) in
          let first : int_eq v w ≡ true = int_eq_made v w (sym is) in
          let mark : τ var ≡ (int_eq w (value_of τ a) && atom_truth τ c) = h.0 ∙ ap (λ x. int_eq x (value_of τ a) && atom_truth τ c) (sym is) in
          ap (λ xs. cond (τ var) (suc (true_count τ xs)) (true_count τ xs)) none
          ∙ ap (λ t. cond t 1 0) mark
          ∙ sym (ap (λ t. cond ((t || is_among w vs) && (int_eq w (value_of τ a) && atom_truth τ c)) 1 0) first)

      there : (w ≡ v → ⊥) → true_count τ (marked w (marks_from (var + 1) vs)) ≡ cond (is_among w vs && (int_eq w (value_of τ a) && atom_truth τ c)) 1 0
          → true_count τ (marked w (marks_from (var + 1) vs)) ≡ cond ((int_eq v w || is_among w vs) && (int_eq w (value_of τ a) && atom_truth τ c)) 1 0
      there other rest =
          rest
          ∙ sym (ap (λ t. cond ((t || is_among w vs) && (int_eq w (value_of τ a) && atom_truth τ c)) 1 0) (int_eq-false v w (λ e. other (sym e))))

  is_among-made : (w : ℤ) (vs : List ℤ) → Among w vs → is_among w vs ≡ true
  is_among-made w [] m = absurd m
  is_among-made w (v ∷ vs) (inl e) = ap (λ t. t || is_among w vs) (int_eq_made v w e)
  is_among-made w (v ∷ vs) (inr m) = ap (λ t. int_eq v w || t) (is_among-made w vs m) ∙ either (int_eq v w)
    where
      either : (b : Bool) → (b || true) ≡ true
      either true = refl
      either false = refl

  -- of one ordered member with all its values
  member-count : (w : ℤ) (var : ℕ) (a : OrdInt) (c : Atom) → IsOrdered τ a → AreRising a.steps → HaveMarks var a c (values_of a)
      → true_count τ (marked w (marks_from var (values_of a))) ≡ cond (atom_truth τ c && int_eq w (value_of τ a)) 1 0
  member-count w var a c ordered up h =
      listed-count w var a c (values_of a) (values-ascend a up) h
      ∙ ap (λ t. cond t 1 0) (by_equal w (value_of τ a) (λ t. (is_among w (values_of a) && (t && atom_truth τ c)) ≡ (atom_truth τ c && t))
      (λ e. ap (λ t. t && (true && atom_truth τ c)) (is_among-made w (values_of a) (subst (λ u. Among u (values_of a)) (sym e) (Among-from (value_of τ a) (values_of a) (Contains-value_of τ a ordered)))) ∙ and_comm true (atom_truth τ c))
      (λ n. and_comm (is_among w (values_of a)) (false && atom_truth τ c) ∙ and_comm false (atom_truth τ c)))

  pub count-marks : (w : ℤ) (var : ℕ) (xs : List OrdInt) (cs : List Atom) → AreSound xs → IsTrue (all_ordered τ xs) → length xs ≡ length cs → AllHaveMarks var xs cs
      → true_count τ (marked w (marks_from var (all_values xs))) ≡ count_at w (values τ xs) (truths τ cs)
  count-marks w var [] cs sound ordered same h = refl
  count-marks w var (a ∷ xs) [] sound ordered same h = absurd (omega arith)
  count-marks w var (a ∷ xs) (c ∷ cs) sound ordered same h =
      let oa = and_first (in_order τ a.steps) (all_ordered τ xs) ordered in
      let os = and_second (in_order τ a.steps) (all_ordered τ xs) ordered in
      let split = ap (marked w) (marks_from-append var (values_of a) (all_values xs)) ∙ marked-append w (marks_from var (values_of a)) (marks_from (var + length (values_of a)) (all_values xs)) in
      let here = member-count w var a c oa sound.0.1 h.0 in
      let rest = count-marks w (var + length (values_of a)) xs cs sound.1 os (omega arith) h.1 in
      ap (true_count τ) split ∙ true_count-append τ (marked w (marks_from var (values_of a))) (marked w (marks_from (var + length (values_of a)) (all_values xs)))
      ∙ ap (λ n. n + true_count τ (marked w (marks_from (var + length (values_of a)) (all_values xs)))) here
      ∙ ap (λ n. cond (atom_truth τ c && int_eq w (value_of τ a)) 1 0 + n) rest
