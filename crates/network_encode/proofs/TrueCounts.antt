-- Numbers of true atoms in lists of two parts.
use Rattle.std.proofs.Common.{◌≡◌, ℕ, suc, ◌+◌, ◌≤◌, Bool, true, false, cond, List, [], ◌∷◌, ◌++◌, take, drop, sym, ap, ◌∙◌, arith}
use Rattle.std.proofs.lemmas.List.{take-append-drop}
use Rattle.order_ints.specs.Label.{variable}
use Rattle.order_ints.specs.declared.atom.Atom.{Atom}
use Rattle.order_ints.specs.Truth.{Valuation, atom_truth}
use Rattle.order_ints.specs.Place.{AtomBelow, AtomsBelow}
use Rattle.core_forms.specs.Truths.{true_count}

-- 1 for a true atom, and else 0
abbrev pub one_if : Bool → ℕ
one_if t = cond t 1 0

pub count-cons : (σ : Valuation) (a : Atom) (ls : List Atom) → true_count σ (a ∷ ls) ≡ one_if (atom_truth σ a) + true_count σ ls
count-cons σ a ls = by_truth (atom_truth σ a)
  where
    by_truth : (t : Bool) → cond t (suc (true_count σ ls)) (true_count σ ls) ≡ cond t 1 0 + true_count σ ls
    by_truth true = omega arith
    by_truth false = omega arith

pub count-append : (σ : Valuation) (xs ys : List Atom) → true_count σ (xs ++ ys) ≡ true_count σ xs + true_count σ ys
count-append σ [] ys = omega arith
count-append σ (x ∷ xs) ys = omega (arith, count-cons σ x (xs ++ ys), count-cons σ x xs, count-append σ xs ys)

pub count-halves : (σ : Valuation) (k : ℕ) (ls : List Atom) → true_count σ (take k ls) + true_count σ (drop k ls) ≡ true_count σ ls
count-halves σ k ls = sym (count-append σ (take k ls) (drop k ls)) ∙ ap (true_count σ) (take-append-drop k ls)

-- with one more atom behind
pub count-last : (σ : Valuation) (ls : List Atom) (a : Atom) → true_count σ (ls ++ a ∷ []) ≡ true_count σ ls + one_if (atom_truth σ a)
count-last σ ls a = omega (arith, count-append σ ls (a ∷ []), count-cons σ a [])

-- a fresh variable, and a list of atoms with one more behind, below a bound
pub fresh_below : (next : ℕ) → 1 ≤ next → AtomBelow (next + 1) (variable next)
fresh_below next least = (least, omega arith)

pub AtomsBelow-last : (n : ℕ) (ls : List Atom) (a : Atom) → AtomsBelow n ls → AtomBelow n a → AtomsBelow n (ls ++ a ∷ [])
AtomsBelow-last n [] a below last = (last, tt)
AtomsBelow-last n (l ∷ ls) a below last = (below.0, AtomsBelow-last n ls a below.1 last)
