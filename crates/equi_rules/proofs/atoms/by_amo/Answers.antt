use Rattle.std.proofs.Common.{◌+◌, sym, ◌∙◌, arith}
use Rattle.equi_rules.proofs.Places.{amo-none, amo-front, amo-behind}
use Rattle.equi_rules.proofs.atoms.by_amo.Goals as goal

pub returns-in_err-place : goal.returns-in_err-place
returns-in_err-place c =
    c.from_residual.ensures ∙ amo-none c.args.sought c.args.atoms.now (sym c.first_true.ensures.place ∙ c.in_err-place.was)

pub returns-then-is_some : goal.returns-then-is_some
returns-then-is_some c =
    amo-front c.args.sought c.args.atoms.now c.split_at.result.0.now c.in_ok-place.place c.each-pair.result (sym c.first_true.ensures.place ∙ c.in_ok-place.was)
    c.split_at.ensures.front c.each-pair.ensures (sym c.is_some.ensures ∙ c.if-is_some.true)

pub returns : goal.returns
returns c =
    amo-behind c.args.sought c.args.atoms.now c.split_at.result.0.now c.split_at-2.result.1.now c.in_ok-place.place (c.in_ok-place.place + 1) c.each-pair.result c.each.result (omega arith)
    (sym c.first_true.ensures.place ∙ c.in_ok-place.was) c.split_at.ensures.front c.split_at-2.ensures.back
    c.each-pair.ensures (sym c.is_some.ensures ∙ c.if-is_some.false) c.each.ensures
