-- What holds of each atom of a core.
use Rattle.std.specs.Prelude.{ℕ, List, [], ◌∷◌}
use Rattle.order_ints.specs.declared.atom.Atom.{Atom}
use Rattle.order_ints.specs.declared.order_int.OrdInt.{OrdInt}
use Rattle.core_forms.specs.declared.form.Core.{Core}
use Rattle.core_forms.specs.Contents.{ints_of, atoms_of}

-- it holds of each atom of a list, of an integer's steps, of each integer of a list
abbrev pub EachOf : (Atom → Type 0) → List Atom → Type 0
EachOf P [] = Unit {0}
EachOf P (a ∷ atoms) = P a × EachOf P atoms

abbrev pub EachStep : (Atom → Type 0) → List (Atom × ℕ) → Type 0
EachStep P [] = Unit {0}
EachStep P (s ∷ steps) = P s.0 × EachStep P steps

abbrev pub EachInt : (Atom → Type 0) → List OrdInt → Type 0
EachInt P [] = Unit {0}
EachInt P (a ∷ ints) = EachStep P a.steps × EachInt P ints

-- it holds of each atom of a core
abbrev pub EachAtom : (Atom → Type 0) → Core → Type 0
EachAtom P core = EachOf P (atoms_of core) × EachInt P (ints_of core)
