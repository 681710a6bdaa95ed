use Rattle.std.proofs.Common.{arith}
use Rattle.clause_rings.proofs.Two.{set-two}
use Rattle.clause_rings.proofs.moves.block.Goals as goal

pub returns : goal.returns
returns c = set-two c.args.blockers.now.items c.args.node c.blocker_at.result c.blocker_at-2.result c.args.lits.now (omega (arith, c.requires.room)) c.blocker_at.ensures c.blocker_at-2.ensures
