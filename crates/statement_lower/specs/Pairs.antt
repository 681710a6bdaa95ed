-- Whether all members differ: a fresh atom for each two members says that they are equal, and all members differ where
-- none of the atoms is true.
use Rattle.std.specs.Prelude.{ℕ, ◌+◌, List, [], ◌∷◌, ◌++◌, map}
use Rattle.order_ints.specs.declared.atom.Atom.{Atom}
use Rattle.order_ints.specs.declared.order_int.OrdInt.{OrdInt}
use Rattle.order_ints.specs.Truth.{not_atom}
use Rattle.core_forms.specs.declared.form.Core.{Core}
use Rattle.core_forms.specs.declared.form.Core.TheVariants as core
use Rattle.statement_lower.specs.declared.made.MadeCores.{MadeCores}
use Rattle.statement_lower.specs.Fresh.{fresh_atom}

-- one member beside each later one: the variables behind the fresh atoms, the atoms, and the cores
abbrev pub each_vars : ℕ → List OrdInt → ℕ
each_vars vars [] = vars
each_vars vars (b ∷ ints) = each_vars (vars + 1) ints

abbrev pub each_atoms : ℕ → List OrdInt → List Atom
each_atoms vars [] = []
each_atoms vars (b ∷ ints) = fresh_atom vars ∷ each_atoms (vars + 1) ints

abbrev pub each_equal : ℕ → OrdInt → List OrdInt → List Core
each_equal vars a [] = []
each_equal vars a (b ∷ ints) = core.EqR (fresh_atom vars) a b ∷ each_equal (vars + 1) a ints

-- each two members, the first by the first and then the second by the second
abbrev pub pairs_vars : ℕ → List OrdInt → ℕ
pairs_vars vars [] = vars
pairs_vars vars (a ∷ ints) = pairs_vars (each_vars vars ints) ints

abbrev pub pairs_atoms : ℕ → List OrdInt → List Atom
pairs_atoms vars [] = []
pairs_atoms vars (a ∷ ints) = each_atoms vars ints ++ pairs_atoms (each_vars vars ints) ints

abbrev pub pairs_equal : ℕ → List OrdInt → List Core
pairs_equal vars [] = []
pairs_equal vars (a ∷ ints) = each_equal vars a ints ++ pairs_equal (each_vars vars ints) ints

-- z is the truth of all members being different
abbrev pub difference_made : ℕ → List OrdInt → Atom → MadeCores
difference_made vars ints z = record {
  vars = pairs_vars vars ints;
  cores = pairs_equal vars ints ++ core.Conj z (map not_atom (pairs_atoms vars ints)) ∷ [];
}
