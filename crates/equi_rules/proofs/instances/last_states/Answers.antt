use Rattle.std.proofs.Common.{List, sym, ap, ◌∙◌}
use Rattle.std.specs.Option.{is_some}
use Rattle.order_ints.specs.declared.order_int.OrdInt.{OrdInt}
use Rattle.core_forms.specs.declared.form.Core.{Core}
use Rattle.rule_base.specs.Pairs.{first_sought}
use Rattle.equi_rules.specs.OrderRows.{last_equations, order_equations}
use Rattle.equi_rules.proofs.LastFound.{last-stated}
use Rattle.equi_rules.proofs.instances.last_states.Goals as goal

pub returns-in-Sum : goal.returns-in-Sum
returns-in-Sum c = λ yes.
    ap (λ (core : Core). is_some (first_sought c.args.sought (order_equations core))) c.in-Sum.is
    ∙ last-stated c.args.sought c.in-Sum.ints c.by_last.result
    (c.by_last.ensures ∙ ap (λ (xs : List OrdInt). first_sought c.args.sought (last_equations xs)) c.as_slice.ensures) (sym c.is_some.ensures ∙ yes)
