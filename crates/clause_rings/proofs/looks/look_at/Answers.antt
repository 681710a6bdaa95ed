use Rattle.std.proofs.Common.{arith, ◌-◌}
use Rattle.clause_rings.proofs.Literals.{in_range-at}
use Rattle.clause_rings.proofs.looks.look_at.Goals as goal

pub truth-truth-requires : goal.truth-truth-requires
truth-truth-requires c = in_range-at c.args.trail.now.vars c.args.lits.now (1 - c.args.place) c.at-other.result c.requires.in_range (omega arith) c.at-other.ensures
