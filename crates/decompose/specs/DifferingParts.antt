-- The parts of different members: for each value of a member a fresh variable, its mark, which says that the member has
-- the value and that its condition is true.
use Rattle.std.specs.Prelude.{ℕ, ◌+◌, ◌==◌, Bool, true, ◌&&◌, List, [], ◌∷◌, ◌++◌, map, length}
use Rattle.std.specs.Prelude.{ℤ, pos, ◌+ℤ◌, if◌then◌else◌}
use Rattle.std.specs.Ordering.{int_eq}
use Rattle.order_ints.specs.Label.{variable}
use Rattle.order_ints.specs.declared.atom.Atom.{Atom}
use Rattle.order_ints.specs.declared.order_int.OrdInt.{OrdInt}
use Rattle.order_ints.specs.Truth.{not_atom}
use Rattle.order_ints.specs.OrderLevels.{values_of, at_of}
use Rattle.order_ints.specs.Same.{is_true}
use Rattle.core_forms.specs.declared.form.Core.{Core}
use Rattle.core_forms.specs.declared.form.Core.TheVariants.{Ladder, Clause, Conj, Amo}
use Rattle.core_forms.specs.Sums.{ascending}
use Rattle.part_base.specs.declared.parts.Parts.{Parts}

-- the values of each member upwards, one member after another
abbrev pub all_values : List OrdInt → List ℤ
all_values [] = []
all_values (a ∷ ints) = values_of a ++ all_values ints

-- the listed values with their marks, which are the variables from one on
abbrev pub marks_from : ℕ → List ℤ → List (ℤ × Atom)
marks_from var [] = []
marks_from var (v ∷ vs) = (v, variable var) ∷ marks_from (var + 1) vs

-- the marks of one value
abbrev pub marked : ℤ → List (ℤ × Atom) → List Atom
marked v [] = []
marked v (m ∷ marks) = if int_eq v m.0 then m.1 ∷ marked v marks else marked v marks

-- a mark is true exactly where the member has its value and the condition is true
abbrev pub mark_core : ℕ → OrdInt → Atom → ℤ → Core
mark_core var a c v = Conj (variable var) (at_of a v ∷ not_atom (at_of a (v +ℤ pos 1)) ∷ c ∷ [])

-- that of each listed value of a member
abbrev pub mark_cores : ℕ → OrdInt → Atom → List ℤ → List Core
mark_cores var a c [] = []
mark_cores var a c (v ∷ vs) = mark_core var a c v ∷ mark_cores (var + 1) a c vs

-- and of each member with its condition
abbrev pub all_mark_cores : ℕ → List OrdInt → List Atom → List Core
all_mark_cores var [] cs = []
all_mark_cores var (a ∷ ints) [] = []
all_mark_cores var (a ∷ ints) (c ∷ cs) =
    mark_cores var a c (values_of a) ++ all_mark_cores (var + length (values_of a)) ints cs

-- all conditions are true, whatever the valuation
abbrev pub are_true : List Atom → Bool
are_true [] = true
are_true (c ∷ cs) = is_true c && are_true cs

-- that each value is some member's, where it must be: all conditions are true, and there are as many values as members
abbrev pub reached_cores : List OrdInt → List Atom → List ℤ → List (ℤ × Atom) → List Core
reached_cores ints cs vs marks =
    if are_true cs && (length vs == length ints) then map (λ v. Clause (marked v marks)) vs else []

abbrev pub differing_cores : List OrdInt → List Atom → ℕ → List ℤ → List (ℤ × Atom) → List Core
differing_cores ints cs next vs marks =
    map (λ a. Ladder a) ints
    ++ (all_mark_cores next ints cs
    ++ (map (λ v. Amo (marked v marks)) vs
    ++ reached_cores ints cs vs marks))

-- each member is ordered; the marks; each value is at most one member's; and where it must be, each value is some
-- member's
abbrev pub differing_parts : ℕ → List OrdInt → List Atom → Parts
differing_parts next ints cs = record {
  cores = differing_cores ints cs next (ascending (all_values ints)) (marks_from next (all_values ints));
  fresh = length (all_values ints);
}
