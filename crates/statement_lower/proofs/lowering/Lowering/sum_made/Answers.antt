use Rattle.statement_lower.specs.Terms.{integers_of}
use Rattle.statement_lower.proofs.EntryLaws.{integers_of-in_limit}
use Rattle.statement_lower.proofs.LinearLaws.{summands-small}
use Rattle.statement_lower.proofs.lowering.Lowering.sum_made.Goals as goal

pub linear_made-requires-clause-ints : goal.linear_made-requires-clause-ints
linear_made-requires-clause-ints c =
    rw (c.into_vec-ints.ensures, c.in_ok-integers_of.ensures)
    (summands-small (integers_of c.args.self.now.entries.now c.args.members.now) (integers_of-in_limit c.args.self.now.entries.now c.args.members.now c.requires.entries c.requires.members))
