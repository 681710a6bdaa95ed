use Rattle.std.proofs.Common.{sym, ap, ◌∙◌}
use Rattle.rule_base.specs.Pairs.{first_sought}
use Rattle.equi_rules.specs.OrderRows.{step_equations}
use Rattle.equi_rules.proofs.LastFound.{last-is}
use Rattle.equi_rules.proofs.order.by_last.Goals as goal

pub returns-in-Some : goal.returns-in-Some
returns-in-Some c =
    c.among_steps.ensures
    ∙ ap (λ s. first_sought c.args.sought (step_equations s)) c.as_slice.ensures
    ∙ ap (first_sought c.args.sought) (sym (last-is c.args.ints.now _ c.in-Some.last.now c.in-Some.ensures.cases.0))
