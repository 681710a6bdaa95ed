-- The variables that occur in a core, one after another.
use Rattle.std.specs.Prelude.{◌≡◌, ℕ, List, [], ◌∷◌, ◌++◌, Contains}
use Rattle.order_ints.specs.declared.atom.Atom.{Atom}
use Rattle.order_ints.specs.declared.atom.Atom.TheVariants.{True, False, Of}
use Rattle.order_ints.specs.declared.order_int.OrdInt.{OrdInt}
use Rattle.order_ints.specs.Truth.{Valuation}
use Rattle.order_ints.specs.View.{label_of}
use Rattle.core_forms.specs.declared.form.Core.{Core}
use Rattle.core_forms.specs.Contents.{ints_of, atoms_of}

abbrev pub atom_vars : Atom → List ℕ
atom_vars True = []
atom_vars False = []
atom_vars (Of l) = l.var ∷ []

abbrev pub atoms_vars : List Atom → List ℕ
atoms_vars [] = []
atoms_vars (a ∷ atoms) = atom_vars a ++ atoms_vars atoms

abbrev pub steps_vars : List (Atom × ℕ) → List ℕ
steps_vars [] = []
steps_vars (s ∷ steps) = atom_vars s.0 ++ steps_vars steps

abbrev pub int_vars : OrdInt → List ℕ
int_vars a = steps_vars a.steps

abbrev pub ints_vars : List OrdInt → List ℕ
ints_vars [] = []
ints_vars (a ∷ ints) = int_vars a ++ ints_vars ints

-- the variables of a core: those of its atoms, and those of its integers
abbrev pub core_vars : Core → List ℕ
core_vars core = atoms_vars (atoms_of core) ++ ints_vars (ints_of core)

-- each of these variables is one of those
abbrev pub AreAmong : List ℕ → List ℕ → Type 0
AreAmong vars others = (v : ℕ) → Contains vars v → Contains others v

-- two valuations give the listed variables the same truth values
abbrev pub SameOn : List ℕ → Valuation → Valuation → Type 0
SameOn vars σ τ = (v : ℕ) → Contains vars v → σ v ≡ τ v

-- a variable is that of the label of a listed one
abbrev pub IsLabelVar : List Atom → List ℕ → ℕ → Type 0
IsLabelVar view vars w = (v : ℕ) × Contains vars v × Contains (atom_vars (label_of view v)) w

-- two views give each listed variable the same label
abbrev pub HaveSameLabels : List ℕ → List Atom → List Atom → Type 0
HaveSameLabels vars view next = (v : ℕ) → Contains vars v → label_of view v ≡ label_of next v
