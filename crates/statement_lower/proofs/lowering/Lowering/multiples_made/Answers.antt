use Rattle.std.proofs.Common.{arith}
use Rattle.std.proofs.lemmas.List.{length-map}
use Rattle.statement_lower.specs.Terms.{integer_of, integers_of}
use Rattle.statement_lower.proofs.EntryLaws.{integers_of-in_limit}
use Rattle.statement_lower.proofs.LinearLaws.{summands-scaled, length-scaled}
use Rattle.statement_lower.proofs.lowering.Lowering.multiples_made.Goals as goal

pub linear_made-requires-clause-ints : goal.linear_made-requires-clause-ints
linear_made-requires-clause-ints c =
    let members = integers_of c.args.self.now.entries.now c.args.members.now in
    rw c.in_ok-ints.ensures
    (summands-scaled c.args.coefficients.now members c.requires.coefficients (integers_of-in_limit c.args.self.now.entries.now c.args.members.now c.requires.entries c.requires.members))

pub linear_made-requires-clause-few : goal.linear_made-requires-clause-few
linear_made-requires-clause-few c =
    let few = length-scaled c.args.coefficients.now (integers_of c.args.self.now.entries.now c.args.members.now) in
    let same = length-map c.args.members.now (integer_of c.args.self.now.entries.now) in
    rw c.in_ok-ints.ensures (omega (arith, few, same, c.requires.few))
