use Rattle.std.proofs.Common.{[], ◌∷◌, pos, ◌+ℤ◌, sym, ◌∙◌}
use Rattle.order_ints.specs.Truth.{not_atom}
use Rattle.order_ints.specs.OrderRange.{low_of}
use Rattle.order_ints.specs.OrderLevels.{at_of}
use Rattle.rule_base.specs.Constant.{is_constant}
use Rattle.rule_base.specs.Pairs.{only_if}
use Rattle.rule_base.proofs.PairLaws.{front-found, back-found}
use Rattle.equi_rules.proofs.comparison.by_leq_constant.Goals as goal

pub returns-then-is_some : goal.returns-then-is_some
returns-then-is_some c =
    let first = only_if (is_constant c.args.a.now) ((c.args.r, at_of c.args.b.now (low_of c.args.a.now)) ∷ []) in
    let second = only_if (is_constant c.args.b.now) ((c.args.r, not_atom (at_of c.args.a.now (low_of c.args.b.now +ℤ pos 1))) ∷ []) in
    front-found c.args.sought first second c.at_constant-first.result c.at_constant-first.ensures (sym c.is_some.ensures ∙ c.if-is_some.true)

pub returns : goal.returns
returns c =
    let first = only_if (is_constant c.args.a.now) ((c.args.r, at_of c.args.b.now (low_of c.args.a.now)) ∷ []) in
    let second = only_if (is_constant c.args.b.now) ((c.args.r, not_atom (at_of c.args.a.now (low_of c.args.b.now +ℤ pos 1))) ∷ []) in
    back-found c.args.sought first second c.at_constant-first.result c.not_above_constant.result c.at_constant-first.ensures (sym c.is_some.ensures ∙ c.if-is_some.false) c.not_above_constant.ensures
