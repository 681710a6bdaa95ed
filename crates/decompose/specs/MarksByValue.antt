-- Marks in the order of their values, and those of one value taken together.
use Rattle.std.specs.Prelude.{List, [], ◌∷◌, length, drop, ℤ, map, if◌then◌else◌}
use Rattle.std.specs.Ordering.{int_eq}
use Rattle.order_ints.specs.declared.atom.Atom.{Atom}
use Rattle.core_forms.specs.Sums.{ascending}
use Rattle.decompose.specs.DifferingParts.{marked}

-- the values of marks
abbrev pub marked_values : List (ℤ × Atom) → List ℤ
marked_values marks = map (λ (mark : ℤ × Atom). mark.0) marks

-- the atoms of the marks in front that have the value
abbrev pub leading : ℤ → List (ℤ × Atom) → List Atom
leading v [] = []
leading v (m ∷ marks) = if int_eq v m.0 then m.1 ∷ leading v marks else []

-- for each of the values in turn, the atoms of its marks in front; the next value goes on behind these
abbrev pub grouped : List ℤ → List (ℤ × Atom) → List (List Atom)
grouped [] marks = []
grouped (v ∷ vs) marks = leading v marks ∷ grouped vs (drop (length (leading v marks)) marks)

-- the atoms of each value's marks, the values upwards
abbrev pub groups_of : List (ℤ × Atom) → List (List Atom)
groups_of marks = map (λ v. marked v marks) (ascending (marked_values marks))
