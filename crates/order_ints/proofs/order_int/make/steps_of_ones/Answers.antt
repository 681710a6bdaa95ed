use Rattle.std.proofs.Common.{ap}
use Rattle.order_ints.proofs.Fresh.{atom_is, unit_steps-turn}
use Rattle.order_ints.specs.declared.atom.Atom.{Atom}
use Rattle.order_ints.proofs.order_int.make.steps_of_ones.Goals as goal

pub loop-k-preserved : goal.loop-k-preserved
loop-k-preserved c =
    unit_steps-turn _ _ _ _ c.args.first_var c.loop-k.k c.args.count c.loop-k-test.true c.in_ok-push.ensures.items
    (ap (λ (a : Atom). (a, 1)) (atom_is c.of.result _ c.of.ensures.var c.of.ensures.sign)) c.loop-k.invariant
