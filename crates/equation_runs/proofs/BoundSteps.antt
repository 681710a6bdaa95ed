-- One atom more, or one list more, among those whose variables or literals are taken.
use Rattle.std.proofs.Common.{◌≡◌, List, [], ◌∷◌, ◌++◌, append_assoc, ℤ, pos, refl, sym, ap, ◌∙◌}
use Rattle.order_ints.specs.declared.atom.Atom.{Atom}
use Rattle.order_ints.specs.declared.atom.Atom.TheVariants.{True, False, Of}
use Rattle.order_ints.specs.declared.order_int.OrdInt.{OrdInt}
use Rattle.equation_runs.specs.FreeAtoms.{vars_of, step_atoms, int_atoms}
use Rattle.equation_runs.specs.BoundRows.{literals}

pub vars_more : (atom : Atom) (atoms : List Atom) → vars_of (atom ∷ atoms) ≡ vars_of (atom ∷ []) ++ vars_of atoms
vars_more True atoms = refl
vars_more False atoms = refl
vars_more (Of l) atoms = refl

pub vars_both : (xs ys : List Atom) → vars_of (xs ++ ys) ≡ vars_of xs ++ vars_of ys
vars_both [] ys = refl
vars_both (True ∷ xs) ys = ap (λ (vs : List ℤ). pos 0 ∷ pos 0 ∷ vs) (vars_both xs ys)
vars_both (False ∷ xs) ys = ap (λ (vs : List ℤ). pos 0 ∷ pos 0 ∷ vs) (vars_both xs ys)
vars_both (Of l ∷ xs) ys = ap (λ (vs : List ℤ). pos l.var ∷ vs) (vars_both xs ys)

-- one integer more
pub ints-more : (old new whole : List ℤ) (left rest : List OrdInt) (a : OrdInt) → left ≡ a ∷ rest → new ≡ old ++ vars_of (step_atoms a.steps)
    → old ++ vars_of (int_atoms left) ≡ whole → new ++ vars_of (int_atoms rest) ≡ whole
ints-more old new whole left rest a is put e =
    ap (λ (vs : List ℤ). vs ++ vars_of (int_atoms rest)) put ∙ append_assoc old (vars_of (step_atoms a.steps)) (vars_of (int_atoms rest))
    ∙ ap (λ (vs : List ℤ). old ++ vs) (sym (vars_both (step_atoms a.steps) (int_atoms rest)))
    ∙ ap (λ (xs : List OrdInt). old ++ vars_of (int_atoms xs)) (sym is) ∙ e

pub literals_more : (atom : Atom) (atoms : List Atom) → literals (atom ∷ atoms) ≡ literals (atom ∷ []) ++ literals atoms
literals_more True atoms = refl
literals_more False atoms = refl
literals_more (Of l) atoms = refl
