use Rattle.std.proofs.Common.{ap, sym, ◌∙◌}
use Rattle.core_forms.specs.Totals.{before_last}
use Rattle.core_forms.proofs.AddedUp.{before_last-behind}
use Rattle.core_forms.proofs.edges.before_last.Goals as goal

pub returns-in-Some : goal.returns-in-Some
returns-in-Some c =
    sym (ap before_last c.in-Some.ensures.cases.0 ∙ before_last-behind c.in-Some.before.now c.in-Some.field-0-0.now)
