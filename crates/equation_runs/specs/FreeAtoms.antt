-- Atoms of which each is a literal, and no two are of one variable.
use Rattle.std.specs.Prelude.{◌==◌, Bool, List, [], ◌∷◌, ◌++◌, map, length, ℕ, ℤ, pos}
use Rattle.order_ints.specs.declared.atom.Atom.{Atom}
use Rattle.order_ints.specs.declared.atom.Atom.TheVariants.{True, False, Of}
use Rattle.order_ints.specs.declared.order_int.OrdInt.{OrdInt}
use Rattle.core_forms.specs.Sums.{ascending}

-- the variables of literals; a constant stands for two that are one
abbrev pub vars_of : List Atom → List ℤ
vars_of [] = []
vars_of (True ∷ atoms) = pos 0 ∷ pos 0 ∷ vars_of atoms
vars_of (False ∷ atoms) = pos 0 ∷ pos 0 ∷ vars_of atoms
vars_of (Of l ∷ atoms) = pos l.var ∷ vars_of atoms

-- there are as many different ones as there are
abbrev pub are_different : List ℤ → Bool
are_different vars = length (ascending vars) == length vars

abbrev pub are_free : List Atom → Bool
are_free atoms = are_different (vars_of atoms)

-- the atoms of an integer's steps, and of those of integers
abbrev pub step_atoms : List (Atom × ℕ) → List Atom
step_atoms steps = map (λ s. s.0) steps

abbrev pub int_atoms : List OrdInt → List Atom
int_atoms [] = []
int_atoms (a ∷ ints) = step_atoms a.steps ++ int_atoms ints
