use Rattle.std.proofs.Common.{ap, ◌∙◌, Option}
use Rattle.rule_base.specs.declared.sought.SoughtEquation.TheVariants.{Apart}
use Rattle.rule_base.specs.Pairs.{first_sought}
use Rattle.alldiff_rules.specs.declared.table.Places.{Places}
use Rattle.alldiff_rules.specs.Twins.{shown_equations}
use Rattle.alldiff_rules.proofs.TwinLaws.{shown-finds, none-finds}
use Rattle.alldiff_rules.proofs.twins.apart_at.Goals as goal

pub returns-in-Some : goal.returns-in-Some
returns-in-Some c =
    shown-finds c.args.ints.now c.args.conditions.now c.args.choices.now c.requires.choices c.args.place c.in-Some.choice.atom c.in-Some.choice.low c.in-Some.choice.weight c.in-Some.ensures.value c.apart_from_each.result
    (c.apart_from_each.ensures ∙ ap (λ (o : Option Places). first_sought Apart (shown_equations c.args.ints.now c.in-Some.choice.atom c.args.place o)) c.found_choice-shown.ensures)

pub returns-in-None : goal.returns-in-None
returns-in-None c = none-finds c.args.ints.now c.args.conditions.now c.args.choices.now c.requires.choices c.args.place c.in-None.ensures.value
