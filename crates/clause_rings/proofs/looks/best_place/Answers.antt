use Rattle.std.proofs.Common.{arith}
use Rattle.clause_rings.proofs.Literals.{in_range-at}
use Rattle.clause_rings.proofs.looks.best_place.Goals as goal

pub rank-highest-requires : goal.rank-highest-requires
rank-highest-requires c = in_range-at c.args.trail.now.vars c.args.lits.now c.args.from c.at.result c.requires.in_range (omega arith) c.at.ensures

pub rank-this-requires : goal.rank-this-requires
rank-this-requires c = in_range-at c.args.trail.now.vars c.args.lits.now c.loop-k.k c.at-in-loop-k.result c.requires.in_range (omega arith) c.at-in-loop-k.ensures
