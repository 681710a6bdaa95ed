use Rattle.std.proofs.Common.{List, sym, ap, ◌∙◌}
use Rattle.order_ints.specs.declared.order_int.OrdInt.{OrdInt}
use Rattle.core_forms.specs.declared.equation.Rule.TheVariants.{Order}
use Rattle.rule_base.specs.declared.sought.SoughtEquation.TheVariants.{Apart}
use Rattle.rule_base.specs.Pairs.{first_sought}
use Rattle.rule_base.specs.Found.{stated_by}
use Rattle.equi_rules.specs.OrderRows.{last_equations}
use Rattle.equi_rules.proofs.LastFound.{last-found}
use Rattle.equi_rules.proofs.instances.found_last.Goals as goal

pub returns-in_err-a-in-Sum : goal.returns-in_err-a-in-Sum
returns-in_err-a-in-Sum c =
    c.from_residual.ensures
    ∙ ap (stated_by Order) (sym c.in_err-a-in-Sum.was)
    ∙ last-found c.args.core.now _ _ c.by_last.result c.in-Sum.is c.requires
    (c.by_last.ensures ∙ ap (λ (xs : List OrdInt). first_sought Apart (last_equations xs)) c.as_slice.ensures)

pub returns-in_ok-a-in-Sum : goal.returns-in_ok-a-in-Sum
returns-in_ok-a-in-Sum c =
    ap (stated_by Order) (sym c.in_ok-a-in-Sum.was)
    ∙ last-found c.args.core.now _ _ c.by_last.result c.in-Sum.is c.requires
    (c.by_last.ensures ∙ ap (λ (xs : List OrdInt). first_sought Apart (last_equations xs)) c.as_slice.ensures)
