-- Where a text is cut: at the first byte that passes a test.
use Rattle.std.proofs.Common.{◌≡◌, ℕ, ◌+◌, ◌-◌, ◌==◌, ◌<◌, ◌≤◌, Bool, true, not, cond, ltb, Option, Some, None, List, [], ◌∷◌, ◌++◌, length, take, drop, get_or, refl, sym, ap, ◌∙◌, ⊎_elim, arith, suc, zero, position}
use Rattle.std.specs.List.{list_all, prefix_len, position_or_len}
use Rattle.std.proofs.lemmas.Bool.{cases_Bool, not_from_false, and_from, eqb-true, not_from_true, not-true, not-false}
use Rattle.std.proofs.lemmas.List.{take-append-drop, drop_more, take_rest}
use Rattle.std.proofs.lemmas.List.Folds.{list_all_at}
use Rattle.std.specs.Prelude.{is_some}
use Rattle.std.proofs.lemmas.List.Quantifiers.{position-Some}
use Rattle.bee_text.specs.Lines.{lacks}

-- a text is cut at a place: no byte before it passes the test, and that byte does
pub record Cut (p : ℕ → Bool) (xs : List ℕ) (i : ℕ) : Type 0 where
  pub inside : i < length xs
  pub front : list_all (λ b. not (p b)) (take i xs) ≡ true
  pub byte : p (get_or xs i 0) ≡ true
  pub whole : xs ≡ take i xs ++ (get_or xs i 0 ∷ drop (i + 1) xs)

pub all_below : (q : ℕ → Bool) (xs : List ℕ) (i : ℕ) → ((k : ℕ) → k < i → q (get_or xs k 0) ≡ true) → list_all q (take i xs) ≡ true
all_below q [] zero each = refl
all_below q [] (suc i) each = refl
all_below q (x ∷ xs) zero each = refl
all_below q (x ∷ xs) (suc i) each =
    and_from (q x) (list_all q (take i xs)) (each 0 (omega arith)) (all_below q xs i (λ k lt. each (suc k) (omega arith)))

pub cut_at : (p : ℕ → Bool) (xs : List ℕ) (i : ℕ) → position p xs ≡ Some i → Cut p xs i
cut_at p xs i e =
    let f = position-Some p xs i 0 e in
    record {
      inside = f.0;
      front = all_below (λ b. not (p b)) xs i (λ k lt. not_from_false _ (f.2 k lt));
      byte = f.1;
      whole = sym (take-append-drop i xs) ∙ ap (λ ys. take i xs ++ ys) (drop_more xs i 0 f.0);
    }

passes_all : (q : ℕ → Bool) (xs : List ℕ) → length xs ≤ prefix_len q xs → list_all q xs ≡ true
passes_all q [] le = refl
passes_all q (x ∷ xs) le = ⊎_elim
    (λ e. let long : length xs ≤ prefix_len q xs = omega (arith, simp e at le) in and_from _ _ e (passes_all q xs long))
    (λ e. absurd (omega (arith, simp e at le)))
    (cases_Bool (q x))

pub none_at : (p : ℕ → Bool) (xs : List ℕ) → position p xs ≡ None → list_all (λ b. not (p b)) xs ≡ true
none_at p xs e = passes_all (λ b. not (p b)) xs (none_long (position_or_len p xs) (length xs) e)
  where
    none_long : (m n : ℕ) → cond (ltb m n) (Some m) None ≡ None → n ≤ m
    none_long m n e = grind arith

-- a text cut at the first of its bytes that is the separator
pub separator_cut : (s : ℕ) (xs : List ℕ) (i : ℕ) → position (λ b. b == s) xs ≡ Some i
    → (lacks s (take i xs) ≡ true) × (xs ≡ take i xs ++ s ∷ take (length xs - (i + 1)) (drop (i + 1) xs))
separator_cut s xs i e =
    let cut = cut_at (λ b. b == s) xs i e in
    (cut.front, cut.whole ∙ ap (λ ys. take i xs ++ ys) (ap (λ b. b ∷ drop (i + 1) xs) (eqb-true (get_or xs i 0) s cut.byte) ∙ ap (λ ys. s ∷ ys) (sym (take_rest xs (i + 1)))))

-- no byte is found just where all fail the test
pub position_is_none : (p : ℕ → Bool) (xs : List ℕ) (o : Option ℕ) (none : Bool) → o ≡ position p xs → is_some o ≡ not none → none ≡ list_all (λ b. not (p b)) xs
position_is_none p xs None none e is = not-false none (sym is) ∙ sym (none_at p xs (sym e))
position_is_none p xs (Some i) none e is =
    let cut = cut_at p xs i (sym e) in
    not-true none (sym is) ∙ sym (list_all_at (λ b. not (p b)) xs i 0 cut.inside (not_from_true (p (get_or xs i 0)) cut.byte))
