-- The rule Order: the equations that the order of each integer's steps states.
use Rattle.std.specs.Prelude.{ℕ, List, [], ◌∷◌, ◌++◌}
use Rattle.order_ints.specs.declared.atom.Atom.{Atom}
use Rattle.order_ints.specs.declared.atom.Atom.TheVariants.{True, False}
use Rattle.order_ints.specs.declared.order_int.OrdInt.{OrdInt}
use Rattle.order_ints.specs.Truth.{not_atom}
use Rattle.core_forms.specs.declared.form.Core.{Core}
use Rattle.order_ints.specs.Same.{is_true, is_false, same_atom}
use Rattle.core_forms.specs.Contents.{ints_of}
use Rattle.rule_base.specs.Pairs.{only_if}

-- of the atoms of a step and of the next one above it: where the upper one is True the lower one is; where the lower
-- one is False the upper one is; and where one is the negation of the other the lower one is True
abbrev pub neighbour_equations : Atom → Atom → List (Atom × Atom)
neighbour_equations lower upper =
    only_if (is_true upper) ((lower, True) ∷ [])
    ++ only_if (is_false lower) ((upper, False) ∷ [])
    ++ only_if (same_atom upper (not_atom lower)) ((lower, True) ∷ [])

-- so for each two neighbours, from a step's atom upwards
abbrev pub equations_above : Atom → List (Atom × ℕ) → List (Atom × Atom)
equations_above lower [] = []
equations_above lower (s ∷ steps) = neighbour_equations lower s.0 ++ equations_above s.0 steps

abbrev pub step_equations : List (Atom × ℕ) → List (Atom × Atom)
step_equations [] = []
step_equations (s ∷ steps) = equations_above s.0 steps

-- of each integer of a list
abbrev pub int_equations : List OrdInt → List (Atom × Atom)
int_equations [] = []
int_equations (a ∷ ints) = step_equations a.steps ++ int_equations ints

-- of the last integer of a list
abbrev pub last_equations : List OrdInt → List (Atom × Atom)
last_equations [] = []
last_equations (a ∷ []) = step_equations a.steps
last_equations (a ∷ b ∷ ints) = last_equations (b ∷ ints)

-- of each integer of a core
abbrev pub order_equations : Core → List (Atom × Atom)
order_equations core = int_equations (ints_of core)
