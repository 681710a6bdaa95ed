-- The equations of the forms over lists of atoms hold where these are met.
use Rattle.std.proofs.Common.{◌≡◌, ℕ, suc, ◌≤◌, Bool, true, false, not, ◌&&◌, ◌||◌, cond, List, [], ◌∷◌, refl, sym, ap, ◌∙◌, arith}
use Rattle.std.specs.Prelude.{nat_le}
use Rattle.std.specs.Bool.{beq}
use Rattle.std.proofs.lemmas.Bool.Decides.{nat_tests}
use Rattle.order_ints.specs.declared.atom.Atom.{Atom}
use Rattle.order_ints.specs.declared.atom.Atom.TheVariants.{True, False}
use Rattle.order_ints.specs.Truth.{Valuation, atom_truth, not_atom}
use Rattle.order_ints.specs.AtomClauses.{atom_clause_truth}
use Rattle.order_ints.specs.Same.{is_true}
use Rattle.order_ints.specs.Equality.{is_true-True}
use Rattle.order_ints.proofs.Truths.{atom_truth-not_atom}
use Rattle.core_forms.specs.Truths.{all_true, true_count, is_odd}
use Rattle.core_forms.specs.Trimmed.{has_true}
use Rattle.rule_base.specs.Pairs.{only_if, AreEqual}
use Rattle.rule_base.specs.Stated.{all_equal}
use Rattle.rule_base.proofs.PairLaws.{AreEqual-append, AreEqual-only_if}
use Rattle.rule_base.proofs.StatedLaws.{all_equal-true, all_equal-false}
use Rattle.equi_rules.specs.AtomRows.{clause_equations, parity_equations, conjunction_equations, conj_equations, beside_true, amo_equations}

or-false : (s : Bool) → (s || false) ≡ true → s ≡ true
or-false true h = refl
or-false false h = absurd (cc)

pub clause-equal : (σ : Valuation) (ls : List Atom) → atom_clause_truth σ ls ≡ true → AreEqual σ (clause_equations ls)
clause-equal σ [] h = absurd (cc)
clause-equal σ (l ∷ []) h = (or-false (atom_truth σ l) h, tt)
clause-equal σ (l ∷ m ∷ ls) h = tt

beq-same : (s t : Bool) → beq s t ≡ true → s ≡ t
beq-same true true h = refl
beq-same true false h = absurd (cc)
beq-same false true h = absurd (cc)
beq-same false false h = refl

none-odd : (odd : Bool) → beq (is_odd 0) odd ≡ true → odd ≡ true → true ≡ false
none-odd true h is = absurd (cc)
none-odd false h is = sym is

one-odd : (s odd : Bool) → beq (is_odd (cond s 1 0)) odd ≡ true → s ≡ odd
one-odd true odd h = beq-same true odd h
one-odd false odd h = beq-same false odd h

truth-constant : (σ : Valuation) (odd : Bool) → odd ≡ atom_truth σ (cond odd True False)
truth-constant σ true = refl
truth-constant σ false = refl

two-odd : (s t odd : Bool) → beq (is_odd (cond s (suc (cond t 1 0)) (cond t 1 0))) odd ≡ true → s ≡ cond odd (not t) t
two-odd true true odd h = both odd h
  where
    both : (odd : Bool) → beq false odd ≡ true → true ≡ cond odd false true
    both true h = absurd (cc)
    both false h = refl
two-odd true false odd h = both odd h
  where
    both : (odd : Bool) → beq true odd ≡ true → true ≡ cond odd true false
    both true h = refl
    both false h = absurd (cc)
two-odd false true odd h = both odd h
  where
    both : (odd : Bool) → beq true odd ≡ true → false ≡ cond odd false true
    both true h = refl
    both false h = absurd (cc)
two-odd false false odd h = both odd h
  where
    both : (odd : Bool) → beq false odd ≡ true → false ≡ cond odd true false
    both true h = absurd (cc)
    both false h = refl

truth-turned : (σ : Valuation) (odd : Bool) (m : Atom) → cond odd (not (atom_truth σ m)) (atom_truth σ m) ≡ atom_truth σ (cond odd (not_atom m) m)
truth-turned σ true m = sym (atom_truth-not_atom σ m)
truth-turned σ false m = refl

pub parity-equal : (σ : Valuation) (ls : List Atom) (odd : Bool) → beq (is_odd (true_count σ ls)) odd ≡ true → AreEqual σ (parity_equations ls odd)
parity-equal σ [] odd h = AreEqual-only_if σ odd ((True, False) ∷ []) (λ is. (none-odd odd h is, tt))
parity-equal σ (l ∷ []) odd h = (one-odd (atom_truth σ l) odd h ∙ truth-constant σ odd, tt)
parity-equal σ (l ∷ m ∷ []) odd h = (two-odd (atom_truth σ l) (atom_truth σ m) odd h ∙ truth-turned σ odd m, tt)
parity-equal σ (l ∷ m ∷ n ∷ ls) odd h = tt

and-true : (s : Bool) → (s && true) ≡ s
and-true true = refl
and-true false = refl

conjunction-equal : (σ : Valuation) (r : Atom) (ls : List Atom) → atom_truth σ r ≡ all_true σ ls → AreEqual σ (conjunction_equations r ls)
conjunction-equal σ r [] h = (h, tt)
conjunction-equal σ r (l ∷ []) h = (h ∙ and-true (atom_truth σ l), tt)
conjunction-equal σ r (l ∷ m ∷ ls) h = tt

pub conj-equal : (σ : Valuation) (r : Atom) (ls : List Atom) → beq (atom_truth σ r) (all_true σ ls) ≡ true → AreEqual σ (conj_equations r ls)
conj-equal σ r ls h =
    let same = beq-same (atom_truth σ r) (all_true σ ls) h in
    AreEqual-append σ (conjunction_equations r ls) (only_if (is_true r) (all_equal ls True)) (conjunction-equal σ r ls same)
    (AreEqual-only_if σ (is_true r) (all_equal ls True) (λ e. all_equal-true σ ls (sym same ∙ ap (atom_truth σ) (is_true-True r e))))

-- the members beside a True one are all false where at most one is true
suc-count : (s : Bool) (n : ℕ) → cond s (suc (suc n)) (suc n) ≡ suc (cond s (suc n) n)
suc-count true n = refl
suc-count false n = refl

count-beside : (σ : Valuation) (ls : List Atom) → has_true ls ≡ true → true_count σ ls ≡ suc (true_count σ (beside_true ls))
count-beside σ [] h = absurd (cc)
count-beside σ (l ∷ ls) h = by_first (is_true l) refl h (count-beside σ ls)
  where
    by_first : (t : Bool) → is_true l ≡ t → cond t true (has_true ls) ≡ true → (has_true ls ≡ true → true_count σ ls ≡ suc (true_count σ (beside_true ls))) → true_count σ (l ∷ ls) ≡ suc (true_count σ (cond t ls (cond (has_true ls) (l ∷ beside_true ls) [])))
    by_first true is has rest = ap (λ t. cond t (suc (true_count σ ls)) (true_count σ ls)) (ap (atom_truth σ) (is_true-True l is))
    by_first false is has rest =
        ap (cond (atom_truth σ l) (suc (true_count σ ls))) (rest has)
        ∙ ap (λ n. cond (atom_truth σ l) (suc n) (suc (true_count σ (beside_true ls)))) (rest has)
        ∙ suc-count (atom_truth σ l) (true_count σ (beside_true ls))
        ∙ ap (λ t. suc (true_count σ (cond t (l ∷ beside_true ls) []))) (sym has)

none-beside : (ls : List Atom) → has_true ls ≡ false → beside_true ls ≡ []
none-beside [] h = refl
none-beside (l ∷ ls) h = by_first (is_true l) refl h
  where
    by_first : (t : Bool) → is_true l ≡ t → cond t true (has_true ls) ≡ false → cond t ls (cond (has_true ls) (l ∷ beside_true ls) []) ≡ []
    by_first true is has = absurd (cc)
    by_first false is has = ap (λ t. cond t (l ∷ beside_true ls) []) has

pub amo-equal : (σ : Valuation) (ls : List Atom) → nat_le (true_count σ ls) 1 ≡ true → AreEqual σ (amo_equations ls)
amo-equal σ ls h = all_equal-false σ (beside_true ls) (by_true (has_true ls) refl)
  where
    few : true_count σ ls ≤ 1
    few = grind (arith, nat_tests)

    by_true : (t : Bool) → has_true ls ≡ t → true_count σ (beside_true ls) ≡ 0
    by_true true is = omega (arith, few, count-beside σ ls is)
    by_true false is = ap (true_count σ) (none-beside ls is)
