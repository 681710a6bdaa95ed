use Rattle.std.proofs.Common.{sym, ap, ◌∙◌}
use Rattle.core_forms.specs.declared.equation.Rule.TheVariants.{Form}
use Rattle.rule_base.specs.Found.{stated_by}
use Rattle.equi_rules.proofs.PlainLaws.{plain-found}
use Rattle.equi_rules.proofs.instances.found_plain.Goals as goal

pub returns-in_err-a : goal.returns-in_err-a
returns-in_err-a c =
    c.from_residual.ensures ∙ ap (stated_by Form) (sym c.in_err-a.was) ∙ plain-found c.args.core.now c.by_plain_form.result c.requires c.by_plain_form.ensures
