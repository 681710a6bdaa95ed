use Rattle.std.proofs.Common.{Bool, sym, ap, ◌∙◌}
use Rattle.order_ints.specs.Same.{is_true}
use Rattle.order_ints.specs.OrderLevels.{levels_of}
use Rattle.rule_base.specs.Pairs.{first_sought}
use Rattle.rule_base.proofs.PairLaws.{front-found, back-found}
use Rattle.alldiff_rules.specs.Walks.{constant_equations, level_equations}
use Rattle.alldiff_rules.proofs.members.by_member.Goals as goal

pub returns-then-is_some : goal.returns-then-is_some
returns-then-is_some c =
    let a = c.args.a.now in
    front-found c.args.sought (constant_equations c.args.tables.now c.args.place c.args.condition a) (level_equations c.args.tables.now c.args.place (is_true c.args.condition) a (levels_of a)) c.by_constant-pair.result
    c.by_constant-pair.ensures (sym c.is_some.ensures ∙ c.if-is_some.true)

pub returns : goal.returns
returns c =
    let a = c.args.a.now in
    back-found c.args.sought (constant_equations c.args.tables.now c.args.place c.args.condition a) (level_equations c.args.tables.now c.args.place (is_true c.args.condition) a (levels_of a)) c.by_constant-pair.result c.at_values.result
    c.by_constant-pair.ensures (sym c.is_some.ensures ∙ c.if-is_some.false)
    (c.at_values.ensures ∙ ap (λ (t : Bool). first_sought c.args.sought (level_equations c.args.tables.now c.args.place t a (levels_of a))) c.is_true.ensures)
