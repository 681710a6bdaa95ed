-- The equations that rules state of a core: which one is found, which ones are instances, and what they say.
use Rattle.std.specs.Prelude.{◌≡◌, Bool, not, ◌&&◌, List, Option, None, Some}
use Rattle.std.specs.Option.{option_or}
use Rattle.order_ints.specs.declared.atom.Atom.{Atom}
use Rattle.order_ints.specs.Same.{same_atom}
use Rattle.order_ints.specs.Truth.{Valuation, atom_truth}
use Rattle.core_forms.specs.declared.equation.Rule.{Rule}
use Rattle.core_forms.specs.declared.equation.Rule.TheVariants.{Order, Form, Table}
use Rattle.core_forms.specs.declared.equation.Equation.{Equation}
use Rattle.core_forms.specs.declared.form.Core.{Core}
use Rattle.core_forms.specs.Meaning.{Meets}
use Rattle.rule_base.specs.declared.sought.SoughtEquation.TheVariants.{Apart}
use Rattle.rule_base.specs.Pairs.{first_sought, is_listed}

-- a pair as an equation of a rule
abbrev pub stated_by : Rule → Option (Atom × Atom) → Option Equation
stated_by rule None = None
stated_by rule (Some p) = Some (record { rule = rule; a = p.0; b = p.1 })

-- of the pairs that each rule states, the first one of two different atoms: those of Order come first, and those of
-- Table last
abbrev pub found_by : (Rule → List (Atom × Atom)) → Option Equation
found_by pairs =
    option_or (stated_by Order (first_sought Apart (pairs Order)))
    (option_or (stated_by Form (first_sought Apart (pairs Form))) (stated_by Table (first_sought Apart (pairs Table))))

-- an equation is an instance where its two atoms are different, and its rule states it in either order
abbrev pub is_instance_by : (Rule → List (Atom × Atom)) → Equation → Bool
is_instance_by pairs e = not (same_atom e.a e.b) && is_listed e.a e.b (pairs e.rule)

-- under each valuation that meets the core, the two atoms of the equation are equally true
abbrev pub IsImplied : Core → Equation → Type 0
IsImplied core e = (σ : Valuation) → Meets σ core → atom_truth σ e.a ≡ atom_truth σ e.b
