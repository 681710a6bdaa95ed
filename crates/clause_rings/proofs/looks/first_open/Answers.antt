use Rattle.std.proofs.Common.{arith}
use Rattle.clause_rings.proofs.Literals.{in_range-at}
use Rattle.clause_rings.proofs.looks.first_open.Goals as goal

pub is_false-requires : goal.is_false-requires
is_false-requires c = in_range-at c.args.trail.now.vars c.args.lits.now c.loop-k.k c.at.result c.requires.in_range (omega arith) c.at.ensures
