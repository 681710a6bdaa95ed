use Rattle.std.proofs.Common.{arith}
use Rattle.clause_rings.proofs.Db.{db-range_at}
use Rattle.clause_rings.proofs.attach.is_alone.Goals as goal

pub is_false-requires : goal.is_false-requires
is_false-requires c = db-range_at c.args.arena.now.clauses c.args.trail.now c.args.c 1 c.lit_at.result c.requires.db c.requires.live (omega arith) c.lit_at.ensures
