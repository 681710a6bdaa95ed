-- Equations of a core that are told one after another, each when its turn comes, once those before it are made.
use Rattle.std.specs.Prelude.{◌≡◌, ◌⊎◌, ℕ, ◌+◌, ◌||◌, Bool, List, [], ◌∷◌, ◌++◌, length, Contains}
use Rattle.order_ints.specs.declared.atom.Atom.{Atom}
use Rattle.order_ints.specs.declared.atom.Atom.TheVariants.{True}
use Rattle.order_ints.specs.Place.{AtomBelow}
use Rattle.order_ints.specs.View.{label_of, resolve}
use Rattle.order_ints.specs.Label.{IsOwnLabel, IsLabelled}
use Rattle.core_forms.specs.declared.equation.Equation.{Equation}
use Rattle.core_forms.specs.declared.equation.Rule.TheVariants.{Order}
use Rattle.core_forms.specs.declared.form.Core.{Core}
use Rattle.core_forms.specs.Trimmed.{trimmed_core}
use Rattle.core_forms.specs.Variables.{atom_vars, core_vars, AreAmong}
use Rattle.equi_rules.specs.Instances.{is_instance_of as is_equi_instance}
use Rattle.arith_rules.specs.Instances.{is_instance_of as is_arith_instance}
use Rattle.alldiff_rules.specs.Instances.{is_instance_of as is_alldiff_instance}

-- an equation with its atoms as a view has them
abbrev pub resolved_equation : List Atom → Equation → Equation
resolved_equation view e = record { rule = e.rule; a = resolve view e.a; b = resolve view e.b }

-- an equation is made where the view has one atom for both of its atoms
abbrev pub IsMade : List Atom → Equation → Type 0
IsMade view e = resolve view e.a ≡ resolve view e.b

-- an equation is made, or it is told of the core as the view has it
abbrev pub IsMadeOrTold : (Core → Equation → Type 0) → Core → List Atom → Equation → Type 0
IsMadeOrTold told core view e = IsMade view e ⊎ told (trimmed_core view core) (resolved_equation view e)

-- the variables that equations name
abbrev pub equation_vars : Equation → List ℕ
equation_vars e = atom_vars e.a ++ atom_vars e.b

abbrev pub equations_vars : List Equation → List ℕ
equations_vars [] = []
equations_vars (e ∷ es) = equation_vars e ++ equations_vars es

-- each equation of a list is made
abbrev pub AreMade : List Atom → List Equation → Type 0
AreMade view [] = Unit {0}
AreMade view (e ∷ es) = IsMade view e × AreMade view es

-- What a store has become since a core was looked at that stood as the store had it, by these equations alone: each of
-- them is made; and where they name variables of the core alone, each other variable of the core is its own label
-- still, and the label of each one that they name is a constant, or a literal of a variable that they name.
pub record IsBehind (core : Core) (done : List Equation) (view : List Atom) : Type 0 where
  pub labelled : IsLabelled view
  pub made : AreMade view done
  pub still : AreAmong (equations_vars done) (core_vars core) → (v : ℕ) → Contains (core_vars core) v
      → (Contains (equations_vars done) v → ⊥) → IsOwnLabel view v
  pub inside : AreAmong (equations_vars done) (core_vars core) → (v : ℕ) → Contains (equations_vars done) v
      → AreAmong (atom_vars (label_of view v)) (equations_vars done)

-- Each equation of a list is made or told once those before it are made, and those that were made before the list, the
-- newest first.
abbrev pub AreToldFrom : (Core → Equation → Type 0) → Core → List Equation → List Equation → Type 0
AreToldFrom told core done [] = Unit {0}
AreToldFrom told core done (e ∷ es) =
    ((view : List Atom) → IsBehind core done view → IsMadeOrTold told core view e)
    × AreToldFrom told core (e ∷ done) es

-- the first of a list is made or told of the core as it was looked at, and each other one once those before it are made
abbrev pub AreToldInTurn : (Core → Equation → Type 0) → Core → List Equation → Type 0
AreToldInTurn told core es = AreToldFrom told core [] es

-- The same of a list of which no equation needs more than that the one before it is made: after an equation each of the
-- list is made or told in every view in which the one before it is made.
abbrev pub AreToldAfter : (Core → Equation → Type 0) → Core → Equation → List Equation → Type 0
AreToldAfter told core before [] = Unit {0}
AreToldAfter told core before (e ∷ es) =
    ((view : List Atom) → IsMade view before → IsMadeOrTold told core view e) × AreToldAfter told core e es

-- an equation that is made in every view
abbrev pub made_equation : Equation
made_equation = record { rule = Order; a = True; b = True }

-- the rules Order and Form state an equation
abbrev pub is_stated : Core → Equation → Bool
is_stated core e = is_equi_instance core e || (is_arith_instance core e || is_alldiff_instance core e)

-- the variables of each equation are from 1 and below n
abbrev pub EquationsBelow : ℕ → List Equation → Type 0
EquationsBelow n [] = Unit {0}
EquationsBelow n (e ∷ es) = (AtomBelow n e.a × AtomBelow n e.b) × EquationsBelow n es

-- What is left of a run, in a view that some equations made: these are over its variables, and what is left is told
-- once they are made.
pub record AreInTurn (told : Core → Equation → Type 0) (core : Core) (view : List Atom) (es : List Equation)
    : Type 0 where
  pub done : List Equation
  pub behind : IsBehind core done view
  pub places : EquationsBelow (length view + 1) done
  pub told_behind : AreToldFrom told core done es
