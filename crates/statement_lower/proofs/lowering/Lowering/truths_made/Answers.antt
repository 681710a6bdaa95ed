use Rattle.std.proofs.Common.{map, arith}
use Rattle.std.proofs.lemmas.List.{length-map}
use Rattle.order_ints.specs.OrderMade.{integer_of_atom}
use Rattle.statement_lower.specs.Terms.{atom_of, atoms_of}
use Rattle.statement_lower.proofs.LinearLaws.{small-truths, summands-scaled, length-scaled}
use Rattle.statement_lower.proofs.lowering.Lowering.truths_made.Goals as goal

pub linear_made-requires-clause-ints : goal.linear_made-requires-clause-ints
linear_made-requires-clause-ints c =
    let atoms = atoms_of c.args.self.now.entries.now c.args.members.now in
    rw c.in_ok-ints.ensures (summands-scaled c.args.coefficients.now (map integer_of_atom atoms) c.requires.coefficients (small-truths atoms))

pub linear_made-requires-clause-few : goal.linear_made-requires-clause-few
linear_made-requires-clause-few c =
    let atoms = atoms_of c.args.self.now.entries.now c.args.members.now in
    let few = length-scaled c.args.coefficients.now (map integer_of_atom atoms) in
    let bits = length-map atoms integer_of_atom in
    let same = length-map c.args.members.now (atom_of c.args.self.now.entries.now) in
    rw c.in_ok-ints.ensures (omega (arith, few, bits, same, c.requires.few))
