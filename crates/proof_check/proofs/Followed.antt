-- Hints that are followed one after another.
use Rattle.std.proofs.Common.{◌≡◌, ℕ, zero, suc, ◌+◌, ◌<◌, ◌≤◌, Bool, true, false, ℤ, List, [], ◌∷◌, length, drop, get_or, arith, refl, sym, ap, ◌∙◌, subst}
use Rattle.std.specs.Prelude.{if◌then◌else◌, ◌==◌}
use Rattle.std.proofs.lemmas.Bool.{eq-eqb, ne_eqb}
use Rattle.std.proofs.lemmas.List.{at_drop_more, length-drop}
use Rattle.order_ints.specs.declared.literal.Lit.{Lit}
use Rattle.order_ints.specs.Place.{LitBelow, ClauseBelow, ClausesBelow}
use Rattle.proof_check.specs.declared.standing.Standing.TheVariants.{UnitFor, Neither}
use Rattle.proof_check.specs.Named.{Named, literals_of}
use Rattle.proof_check.specs.Values.{Values, set_value, is_false, is_free}
use Rattle.proof_check.specs.Standing.{open_lits, standing_of, standing}
use Rattle.proof_check.specs.Faults.{by_hint, is_none_left, hints_fault}
use Rattle.proof_check.specs.Arena.{Kept, clauses_in, nth_kept}

-- the last hint has none behind it
none-length : (xs : List ℤ) → is_none_left xs ≡ (length xs == 0)
none-length [] = refl
none-length (x ∷ xs) = sym (ne_eqb (length (x ∷ xs)) 0 (λ e. omega (arith, e)))

eqb-shift : (n m k : ℕ) → n + k ≡ m → (k == 0) ≡ (n == m)
eqb-shift n m zero e = sym (eq-eqb n m (omega (arith, e)))
eqb-shift n m (suc k) e = ne_eqb (suc k) 0 (λ f. omega (arith, f)) ∙ sym (ne_eqb n m (λ f. omega (arith, f, e)))

pub is-last : (xs : List ℤ) (n : ℕ) → n ≤ length xs → is_none_left (drop n xs) ≡ (n == length xs)
is-last xs n le = none-length (drop n xs) ∙ eqb-shift n (length xs) (length (drop n xs)) (omega (arith, length-drop n xs, le))

-- at a hint
pub hint-at : (live : List Named) (f : Values) (hints : List ℤ) (i : ℕ) (d : ℤ) → i < length hints →
    hints_fault live f (drop i hints) (i + 1)
    ≡ by_hint live f (get_or hints i d) (i + 1 == length hints) (i + 1) (λ l. hints_fault live (set_value f l) (drop (i + 1) hints) (i + 1 + 1))
hint-at live f hints i d lt =
    at_drop_more (λ (xs : List ℤ). hints_fault live f xs (i + 1)) hints i d lt
    ∙ ap (λ (b : Bool). by_hint live f (get_or hints i d) b (i + 1) (λ l. hints_fault live (set_value f l) (drop (i + 1) hints) (i + 1 + 1)))
    (is-last hints (i + 1) (omega (arith, lt)))

-- the literal for which a clause is unit is one of the clause
open-below : (n : ℕ) (f : Values) (c : List Lit) → ClauseBelow n c → ClauseBelow n (open_lits f c)
open-below n f [] below = tt
open-below n f (l ∷ ls) below = by_test (is_false f l) (open-below n f ls below.1)
  where
    by_test : (b : Bool) → ClauseBelow n (open_lits f ls) → ClauseBelow n (if b then open_lits f ls else l ∷ open_lits f ls)
    by_test true rest = rest
    by_test false rest = (below.0, rest)

unit-below : (n : ℕ) (f : Values) (ls : List Lit) (m : Lit) → ClauseBelow n ls → standing_of f ls ≡ UnitFor m → LitBelow n m
unit-below n f [] m below e = absurd (cc)
unit-below n f (l ∷ []) m below e = by_test (is_free f l) e
  where
    by_test : (b : Bool) → (if b then UnitFor l else Neither) ≡ UnitFor m → LitBelow n m
    by_test true h = (let same : l ≡ m = cc in let P : Lit → Type 0 = λ x. LitBelow n x in subst P same below.0)
    by_test false h = absurd (cc)
unit-below n f (l ∷ k ∷ ls) m below e = absurd (cc)

pub standing-below : (n : ℕ) (f : Values) (c : List Lit) (m : Lit) → ClauseBelow n c → standing f c ≡ UnitFor m → LitBelow n m
standing-below n f c m below e = unit-below n f (open_lits f c) m (open-below n f c below) e

-- a clause of the table is below
pub nth-below : (n : ℕ) (ks : List Kept) (i : ℕ) → ClausesBelow n (literals_of (clauses_in ks)) → i < length ks → ClauseBelow n (nth_kept ks i).clause.lits
nth-below n [] i below lt = absurd (omega arith)
nth-below n (k ∷ ks) zero below lt = below.0
nth-below n (k ∷ ks) (suc i) below lt = nth-below n ks i below.1 (omega (arith, lt))
