use Rattle.std.proofs.Common.{arith}
use Rattle.order_ints.specs.declared.atom.Atom.TheVariants.{True}
use Rattle.order_ints.proofs.Walks.{atom_at-step}
use Rattle.order_ints.proofs.order_int.walk.Walk.atom.Goals as goal

pub returns : goal.returns
returns c =
    let s = c.args.self.now in
    rw c.as_slice.ensures (atom_at-step s.int.now s.place (True, 0) (omega arith) s.stands.1)
