use Rattle.std.proofs.Common.{rules, ◌∙◌}
use Rattle.std.proofs.lemmas.Fn.{filter_same}
use Rattle.order_ints.specs.declared.order_int.OrdInt.{OrdInt}
use Rattle.statement_lower.specs.Linear.{has_steps}
use Rattle.statement_lower.proofs.SummandSteps.{steps-tell, filter-steps}
use Rattle.statement_lower.proofs.summands.keep_with_steps.Goals as goal

pub returns : goal.returns
returns c =
    filter_same _ (λ (a : OrdInt). has_steps a.steps) _ (λ x b f' h. search (rules, steps-tell x.steps)) _ _ c.retain.ensures.filtered
    ∙ filter-steps c.args.ints.now.items
