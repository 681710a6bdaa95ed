use Rattle.std.proofs.Common.{List, sym, ap, ◌∙◌}
use Rattle.order_ints.specs.declared.order_int.OrdInt.{OrdInt}
use Rattle.rule_base.specs.Pairs.{first_sought}
use Rattle.arith_rules.specs.SumRows.{lows_of, highs_of, last_share}
use Rattle.arith_rules.proofs.LastMember.{last-stated}
use Rattle.arith_rules.proofs.sums.last_states.Goals as goal

pub returns : goal.returns
returns c = λ yes.
    last-stated c.args.sought c.args.k.now c.args.ints.now c.by_last-pair.result
    (c.by_last-pair.ensures ∙ ap (λ (ys : List OrdInt). first_sought c.args.sought (last_share c.args.k.now (lows_of ys) (highs_of ys) ys)) c.as_slice.ensures)
    (sym c.is_some.ensures ∙ yes)
