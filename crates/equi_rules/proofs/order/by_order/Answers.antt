use Rattle.std.proofs.Common.{sym, ap, ◌∙◌, rules}
use Rattle.rule_base.specs.Pairs.{first_sought}
use Rattle.equi_rules.specs.OrderRows.{step_equations}
use Rattle.equi_rules.proofs.OrderFound.{ints-stop, ints-next}
use Rattle.equi_rules.proofs.order.by_order.Goals as goal

pub returns-then-is_some : goal.returns-then-is_some
returns-then-is_some c =
    ints-stop c.args.sought c.loop-a.a-iterator c.next.new.self c.in-Some.a.now c.among_steps-pair.result (search rules)
    (c.among_steps-pair.ensures ∙ ap (λ s. first_sought c.args.sought (step_equations s)) c.as_slice.ensures) (sym c.is_some.ensures ∙ c.if-is_some.true)
    ∙ c.loop-a.invariant

pub loop-a-preserved : goal.loop-a-preserved
loop-a-preserved c =
    ints-next c.args.sought c.loop-a.a-iterator c.next.new.self c.in-Some.a.now c.among_steps-pair.result (search rules)
    (c.among_steps-pair.ensures ∙ ap (λ s. first_sought c.args.sought (step_equations s)) c.as_slice.ensures) (sym c.is_some.ensures ∙ c.if-is_some.false)
    ∙ c.loop-a.invariant
