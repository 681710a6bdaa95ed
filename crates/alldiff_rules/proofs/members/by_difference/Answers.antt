use Rattle.std.proofs.Common.{sym, subst, ◌∙◌}
use Rattle.alldiff_rules.specs.Finds.{Finds}
use Rattle.alldiff_rules.specs.Rows.{IsRow}
use Rattle.alldiff_rules.specs.Twins.{IsTwinRow}
use Rattle.alldiff_rules.proofs.FindsLaws.{found-first, none-first}
use Rattle.alldiff_rules.proofs.WalkLaws.{twin-row, rows-find}
use Rattle.alldiff_rules.proofs.members.by_difference.Goals as goal

pub returns-then-is_some : goal.returns-then-is_some
returns-then-is_some c =
    let xs = c.args.ints.now in
    let cs = c.args.conditions.now in
    found-first c.args.sought (IsTwinRow xs cs) (IsRow xs cs) (twin-row xs cs) c.in_ok-twins.twins (sym c.is_some.ensures ∙ c.if-is_some.true) c.in_ok-twins.ensures

pub returns : goal.returns
returns c =
    let xs = c.args.ints.now in
    let cs = c.args.conditions.now in
    subst (Finds c.args.sought (IsRow xs cs)) (sym c.or.ensures)
    (rows-find c.args.sought c.requires.sought xs cs c.requires.lengths c.requires.sound c.in_ok-tables.tables c.in_ok-tables.ensures
    (none-first c.args.sought (IsTwinRow xs cs) c.in_ok-twins.twins (sym c.is_some.ensures ∙ c.if-is_some.false) c.in_ok-twins.ensures)
    c.when-few.result c.by_members.result c.when-few.ensures c.by_members.ensures)
