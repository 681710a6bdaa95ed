use Rattle.std.proofs.Common.{refl, sym, ◌∙◌}
use Rattle.rule_base.specs.declared.sought.SoughtEquation.TheVariants.{Pair}
use Rattle.rule_base.specs.Pairs.{first_sought}
use Rattle.rule_base.proofs.FoundLaws.{instance-same, instance-tested}
use Rattle.equi_rules.specs.Instances.{equations_of}
use Rattle.equi_rules.proofs.instances.is_instance.Goals as goal

pub returns-then-eq : goal.returns-then-eq
returns-then-eq c = instance-same (equations_of c.args.core.now) c.args.e.now (sym c.eq.ensures.test ∙ c.if-eq.true)

pub returns-then-rule_at_last : goal.returns-then-rule_at_last
returns-then-rule_at_last c =
    let e = c.args.e.now in
    let pairs = equations_of c.args.core.now in
    sym (c.rule_at_last.ensures c.if-rule_at_last.true)
    ∙ instance-tested pairs e (first_sought (Pair e.a e.b) (pairs e.rule)) (sym c.eq.ensures.test ∙ c.if-eq.false) refl

pub returns : goal.returns
returns c =
    c.is_some.ensures
    ∙ instance-tested (equations_of c.args.core.now) c.args.e.now c.by_rule.result (sym c.eq.ensures.test ∙ c.if-eq.false) c.by_rule.ensures
