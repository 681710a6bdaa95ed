use Rattle.alldiff_rules.proofs.TwinLaws.{told-shared, told-none}
use Rattle.alldiff_rules.proofs.twins.is_twin.Goals as goal

pub returns-in-Some : goal.returns-in-Some
returns-in-Some c =
    told-shared c.args.ints.now c.args.conditions.now c.args.table.now c.args.atom c.args.place c.in-Some.choice.low c.in-Some.choice.weight c.is_shared.result c.in-Some.ensures.value c.is_shared.ensures

pub returns-in-None : goal.returns-in-None
returns-in-None c = told-none c.args.ints.now c.args.conditions.now c.args.table.now c.args.atom c.args.place c.in-None.ensures.value
