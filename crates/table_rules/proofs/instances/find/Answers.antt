use Rattle.std.proofs.Common.{◌≡◌, true, false, ◌↔◌}
use Rattle.std.specs.Prelude.{IfSome, IsNone}
use Rattle.std.proofs.lemmas.Result.{IfOk-weaker}
use Rattle.core_forms.specs.declared.equation.Equation.{Equation}
use Rattle.rule_base.specs.Found.{IsImplied}
use Rattle.table_rules.specs.Instances.{found_at, is_instance_of}
use Rattle.table_rules.proofs.InstanceLaws.{found-some, found-implied, found-none}
use Rattle.table_rules.proofs.instances.find.Goals as goal

pub returns-clause-instance : goal.returns-clause-instance
returns-clause-instance g c =
    let core = c.args.core.now in
    IfOk-weaker c.found.result (λ o. o ≡ found_at core) (λ o. IfSome o (λ e. is_instance_of core e ≡ true)) (found-some core) c.found.ensures

pub returns-clause-implied : goal.returns-clause-implied
returns-clause-implied g c =
    let core = c.args.core.now in
    IfOk-weaker c.found.result (λ o. o ≡ found_at core) (λ o. IfSome o (λ e. IsImplied core e)) (found-implied core) c.found.ensures

pub returns-clause-none : goal.returns-clause-none
returns-clause-none g c =
    let core = c.args.core.now in
    IfOk-weaker c.found.result (λ o. o ≡ found_at core) (λ o. IsNone o ↔ ((e : Equation) → is_instance_of core e ≡ false)) (found-none core) c.found.ensures
