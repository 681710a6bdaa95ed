-- One equation that is told at one core: that variable 1 is true, at the clause that has it alone.
use Rattle.std.proofs.Common.{◌≡◌, true, [], ◌∷◌, refl, sym, subst}
use Rattle.order_ints.specs.declared.atom.Atom.{Atom}
use Rattle.order_ints.specs.declared.atom.Atom.TheVariants.{True, Of}
use Rattle.core_forms.specs.declared.equation.Rule.TheVariants.{Form}
use Rattle.core_forms.specs.declared.equation.Equation.{Equation}
use Rattle.core_forms.specs.declared.form.Core.{Core}
use Rattle.core_forms.specs.declared.form.Core.TheVariants.{Clause}
use Rattle.core_rules.specs.Instances.{is_instance_at}

abbrev pub first_variable : Atom
first_variable = Of (record { var = 1; positive = true })

-- the core
abbrev pub told_core : Core
told_core = Clause (first_variable ∷ [])

-- the equation
abbrev pub told_equation : Equation
told_equation = record { rule = Form; a = first_variable; b = True }

-- the equation is the one that is told, and the core the one at which it is
abbrev pub IsToldOnce : Core → Equation → Type 0
IsToldOnce core e = (core ≡ told_core) × (e ≡ told_equation)

-- the form of the core states it
pub told_once_is_instance : (core : Core) (e : Equation) → IsToldOnce core e → is_instance_at core e ≡ true
told_once_is_instance core e told =
    subst (λ c. is_instance_at c e ≡ true) (sym told.0)
    (subst (λ f. is_instance_at told_core f ≡ true) (sym told.1) refl)
