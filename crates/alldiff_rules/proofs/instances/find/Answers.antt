use Rattle.std.proofs.Common.{sym, subst}
use Rattle.std.specs.Prelude.{◌↔◌, Option, IsNone, IfSome}
use Rattle.core_forms.specs.declared.equation.Equation.{Equation}
use Rattle.rule_base.specs.Found.{IsImplied}
use Rattle.alldiff_rules.specs.Instances.{IsInstance}
use Rattle.alldiff_rules.proofs.InstanceLaws.{found-instance, found-implied, found-none}
use Rattle.alldiff_rules.proofs.instances.find.Goals as goal

pub returns-clause-instance : goal.returns-clause-instance
returns-clause-instance g c =
    subst (λ (o : Option Equation). IfSome o (IsInstance c.args.core.now)) (sym c.equation.ensures) (found-instance c.args.core.now c.in_ok-by_form.field-0 c.in_ok-by_form.ensures)

pub returns-clause-implied : goal.returns-clause-implied
returns-clause-implied g c =
    subst (λ (o : Option Equation). IfSome o (IsImplied c.args.core.now)) (sym c.equation.ensures) (found-implied c.args.core.now c.requires c.in_ok-by_form.field-0 c.in_ok-by_form.ensures)

pub returns-clause-none : goal.returns-clause-none
returns-clause-none g c =
    subst (λ (o : Option Equation). IsNone o ↔ ((e : Equation) → IsInstance c.args.core.now e → ⊥)) (sym c.equation.ensures) (found-none c.args.core.now c.in_ok-by_form.field-0 c.in_ok-by_form.ensures)
