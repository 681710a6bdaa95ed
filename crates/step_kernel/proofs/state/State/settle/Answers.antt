use Rattle.std.proofs.Common.{List, subst}
use Rattle.std.specs.Prelude.{IfOk, IfSome}
use Rattle.order_ints.specs.declared.atom.Atom.{Atom}
use Rattle.step_kernel.specs.StableMarks.{AreStableMarks, IsEdgeAt}
use Rattle.step_kernel.proofs.SettledStates.{settles-state}
use Rattle.step_kernel.proofs.state.State.settle.Goals as goal

pub invariant_of-self : goal.invariant_of-self
invariant_of-self c =
    let marks : AreStableMarks c.self.inside.store.view c.settle_at.new.cores.items c.settle_at.new.stable =
    subst (λ (view : List Atom). AreStableMarks view c.settle_at.new.cores.items c.settle_at.new.stable) c.view.ensures.view c.settle_at.ensures.marks in
    settles-state c.self.inside.store c.self.inside.cores.items c.settle_at.new.cores.items c.self.inside.clauses c.self.inside.bottom c.settle_at.new.stable c.args.id
    c.self.inside.first c.self.inside.stable c.self.invariant marks c.settle_at.result
    (subst (λ (view : List Atom). IfOk c.settle_at.result (λ a. IfSome a (λ edge. IsEdgeAt view c.self.inside.cores.items c.settle_at.new.cores.items c.settle_at.new.stable c.args.id edge))) c.view.ensures.view c.settle_at.ensures.settled)
    c.settle_at.ensures.none c.settle_at.ensures.stays
