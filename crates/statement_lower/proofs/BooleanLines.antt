-- What the cores over atoms alone say of the truths of their members.
use Rattle.std.proofs.Common.{◌≡◌, ℕ, suc, ◌%◌, Bool, true, false, not, ◌&&◌, ◌||◌, List, [], ◌∷◌, ◌++◌, map, refl, sym, ap, ◌∙◌}
use Rattle.std.specs.Prelude.{◌==◌, if◌then◌else◌}
use Rattle.std.specs.Bool.{beq}
use Rattle.order_ints.specs.declared.atom.Atom.{Atom}
use Rattle.order_ints.specs.Truth.{Valuation, atom_truth, not_atom}
use Rattle.order_ints.specs.AtomClauses.{atom_clause_truth}
use Rattle.order_ints.proofs.Truths.{atom_truth-not_atom}
use Rattle.core_forms.specs.Truths as forms
use Rattle.core_forms.specs.Meaning.{core_truth}
use Rattle.core_forms.specs.Cores.{cores_truth}
use Rattle.model_meaning.specs.declared.statement.Operator.{Operator}
use Rattle.model_meaning.specs.declared.statement.Operator.TheVariants as operator
use Rattle.model_meaning.specs.Booleans.{some_true, all_true, none_true, count_true, combine}
use Rattle.model_meaning.specs.Holds.{same}
use Rattle.statement_lower.specs.Lines.{equal_core, equal_cores, array_cores}
use Rattle.statement_lower.proofs.MeaningLaws.{same_meanings}

-- Truth values.

pub beq-same : (x y : Bool) → beq x y ≡ same x y
beq-same true true = refl
beq-same true false = refl
beq-same false true = refl
beq-same false false = refl

beq-true : (x : Bool) → beq x true ≡ x
beq-true true = refl
beq-true false = refl

beq-false : (x : Bool) → beq x false ≡ not x
beq-false true = refl
beq-false false = refl

pub true-beq : (x : Bool) → beq true x ≡ x
true-beq true = refl
true-beq false = refl

pub and-true : (x : Bool) → (x && true) ≡ x
and-true true = refl
and-true false = refl

or-false : (x : Bool) → (x || false) ≡ x
or-false true = refl
or-false false = refl

beq-both_not : (x y : Bool) → beq (not x) (not y) ≡ same x y
beq-both_not true true = refl
beq-both_not true false = refl
beq-both_not false true = refl
beq-both_not false false = refl

-- Lists of atoms.

module _ (σ : Valuation) where
  some-truths : (atoms : List Atom) → atom_clause_truth σ atoms ≡ some_true (forms.truths σ atoms)
  some-truths [] = refl
  some-truths (a ∷ atoms) = ap (λ t. atom_truth σ a || t) (some-truths atoms)

  pub all-truths : (atoms : List Atom) → forms.all_true σ atoms ≡ all_true (forms.truths σ atoms)
  all-truths [] = refl
  all-truths (a ∷ atoms) = ap (λ t. atom_truth σ a && t) (all-truths atoms)

  -- all negated atoms are true where none of the atoms is
  pub none-truths : (atoms : List Atom) → forms.all_true σ (map not_atom atoms) ≡ none_true (forms.truths σ atoms)
  none-truths [] = refl
  none-truths (a ∷ atoms) = rw (atom_truth-not_atom σ a, none-truths atoms) refl

  odd-truths : (atoms : List Atom) → forms.is_odd (forms.true_count σ atoms) ≡ (count_true (forms.truths σ atoms) % 2 == 1)
  odd-truths atoms =
      ap forms.is_odd (same_meanings.count σ atoms) ∙ same_meanings.odd (count_true (forms.truths σ atoms))

none-some : (ts : List Bool) → none_true ts ≡ not (some_true ts)
none-some [] = refl
none-some (true ∷ ts) = refl
none-some (false ∷ ts) = none-some ts

-- one more atom at the end
odd-last : (σ : Valuation) (atoms : List Atom) (z : Atom) → forms.is_odd (forms.true_count σ (atoms ++ z ∷ [])) ≡ not (same (atom_truth σ z) (forms.is_odd (forms.true_count σ atoms)))
odd-last σ [] z = by_truth (atom_truth σ z)
  where
    by_truth : (t : Bool) → forms.is_odd (if t then suc 0 else 0) ≡ not (same t false)
    by_truth true = refl
    by_truth false = refl
odd-last σ (a ∷ atoms) z = by_truth (atom_truth σ a) (forms.true_count σ (atoms ++ z ∷ [])) (forms.true_count σ atoms) (odd-last σ atoms z)
  where
    same-not : (t o : Bool) → not (not (same t o)) ≡ not (same t (not o))
    same-not true true = refl
    same-not true false = refl
    same-not false true = refl
    same-not false false = refl

    by_truth : (t : Bool) (m n : ℕ) → forms.is_odd m ≡ not (same (atom_truth σ z) (forms.is_odd n)) → forms.is_odd (if t then suc m else m) ≡ not (same (atom_truth σ z) (forms.is_odd (if t then suc n else n)))
    by_truth true m n e = ap not e ∙ same-not (atom_truth σ z) (forms.is_odd n)
    by_truth false m n e = e

-- `bool_eq`.

pub equal-truth : (σ : Valuation) (x y : Atom) → core_truth σ (equal_core x y) ≡ same (atom_truth σ x) (atom_truth σ y)
equal-truth σ x y = by_truths (atom_truth σ x) (atom_truth σ y)
  where
    by_truths : (t u : Bool) → beq (forms.is_odd (if t then suc (if u then suc 0 else 0) else (if u then suc 0 else 0))) false ≡ same t u
    by_truths true true = refl
    by_truths true false = refl
    by_truths false true = refl
    by_truths false false = refl

-- `bool_array_OP`.

all-equal : (σ : Valuation) (x : Atom) (t : Bool) (atoms : List Atom) → atom_truth σ x ≡ t → cores_truth σ (map (equal_core x) atoms) ≡ (if t then all_true (forms.truths σ atoms) else none_true (forms.truths σ atoms))
all-equal σ x true [] e = refl
all-equal σ x false [] e = refl
all-equal σ x true (y ∷ atoms) e =
    rw (equal-truth σ x y, e, all-equal σ x true atoms e) refl
all-equal σ x false (y ∷ atoms) e =
    rw (equal-truth σ x y, e, all-equal σ x false atoms e) refl

pub equal-cores-truth : (σ : Valuation) (atoms : List Atom) → cores_truth σ (equal_cores atoms) ≡ (all_true (forms.truths σ atoms) || none_true (forms.truths σ atoms))
equal-cores-truth σ [] = refl
equal-cores-truth σ (x ∷ atoms) = all-equal σ x (atom_truth σ x) atoms refl ∙ by_truth (atom_truth σ x) (all_true (forms.truths σ atoms)) (none_true (forms.truths σ atoms))
  where
    by_truth : (t a n : Bool) → (if t then a else n) ≡ ((t && a) || (not t && n))
    by_truth true a n = sym (or-false a)
    by_truth false a n = refl

pub array-truth : (σ : Valuation) (op : Operator) (atoms : List Atom) → cores_truth σ (array_cores op atoms) ≡ combine op (forms.truths σ atoms)
array-truth σ operator.Or atoms = and-true _ ∙ some-truths σ atoms
array-truth σ operator.And atoms = and-true _ ∙ (true-beq (forms.all_true σ atoms) ∙ all-truths σ atoms)
array-truth σ operator.Xor atoms = and-true _ ∙ (beq-true (forms.is_odd (forms.true_count σ atoms)) ∙ odd-truths σ atoms)
array-truth σ operator.Iff atoms = equal-cores-truth σ atoms

-- `bool_OP_reif`, `bool_array_OP_reif`.

module _ (σ : Valuation) (atoms : List Atom) (z : Atom) where
  pub or-truth : beq (atom_truth σ (not_atom z)) (forms.all_true σ (map not_atom atoms)) ≡ same (atom_truth σ z) (some_true (forms.truths σ atoms))
  or-truth =
      rw (atom_truth-not_atom σ z, none-truths σ atoms, none-some (forms.truths σ atoms))
      (beq-both_not (atom_truth σ z) (some_true (forms.truths σ atoms)))

  pub and-truth : beq (atom_truth σ z) (forms.all_true σ atoms) ≡ same (atom_truth σ z) (all_true (forms.truths σ atoms))
  and-truth = rw (all-truths σ atoms) (beq-same (atom_truth σ z) (all_true (forms.truths σ atoms)))

  pub xor-truth : beq (forms.is_odd (forms.true_count σ (atoms ++ z ∷ []))) false ≡ same (atom_truth σ z) (count_true (forms.truths σ atoms) % 2 == 1)
  xor-truth =
      beq-false (forms.is_odd (forms.true_count σ (atoms ++ z ∷ [])))
      ∙ (ap not (odd-last σ atoms z) ∙ (not-not (same (atom_truth σ z) (forms.is_odd (forms.true_count σ atoms))) ∙ ap (same (atom_truth σ z)) (odd-truths σ atoms)))
    where
      not-not : (x : Bool) → not (not x) ≡ x
      not-not true = refl
      not-not false = refl
