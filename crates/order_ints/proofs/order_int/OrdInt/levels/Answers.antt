use Rattle.std.proofs.Common.{rules, FitsSigned}
use mir.Syntax.{w128}
use Rattle.std.proofs.lemmas.Int.{to_z-of_z}
use Rattle.order_ints.proofs.Everywhere.{levels_small}
use Rattle.order_ints.proofs.order_int.OrdInt.levels.Goals as goal

pub returns-clause-range : goal.returns-clause-range
returns-clause-range c =
    let fits : FitsSigned w128 c.args.self.now.base = search rules in
    rw (to_z-of_z w128 c.args.self.now.base fits, c.as_slice.ensures) (levels_small c.args.self.now c.requires)
