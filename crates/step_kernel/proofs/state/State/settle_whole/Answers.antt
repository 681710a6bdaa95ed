use Rattle.std.proofs.Common.{refl, sym, ap, ◌∙◌, subst, rules}
use Rattle.core_forms.specs.declared.edges.Known.TheVariants.{ButLast}
use Rattle.core_forms.specs.Edges.{settled_core, IsKnown}
use Rattle.core_forms.specs.Plain.{IsPlain}
use Rattle.core_forms.proofs.EdgeLaws.{settled-stable, settled-whole, inside-known}
use Rattle.order_ints.proofs.Labels.{resolves_once}
use Rattle.step_kernel.specs.Settled.{IsSettled}
use Rattle.step_kernel.proofs.Holes.{the}
use Rattle.step_kernel.proofs.SettledStates.{settled-there}
use Rattle.step_kernel.proofs.state.State.settle_whole.Goals as goal

pub is_whole-requires : goal.is_whole-requires
is_whole-requires c core there =
    let h : IsSettled c.args.self.now c.settle.new.self c.args.id c.in-Some.edge = search rules in
    let same = ap (the core) (sym (settled-there c.args.self.now c.settle.new.self c.args.id c.in-Some.edge h) ∙ there) in
    subst (IsKnown ButLast) same
    (inside-known c.args.self.now.view (settled_core c.args.self.now.view h.core) (settled-stable c.args.self.now.view h.core h.inside))

pub returns-then-is_whole-clause-settled : goal.returns-then-is_whole-clause-settled
returns-then-is_whole-clause-settled c =
    let h : IsSettled c.args.self.now c.settle.new.self c.args.id c.in-Some.edge = search rules in
    let there = settled-there c.args.self.now c.settle.new.self c.args.id c.in-Some.edge h in
    let plain : IsPlain (settled_core c.args.self.now.view h.core) = c.is_whole.ensures c.if-is_whole.true (settled_core c.args.self.now.view h.core) there in
    record {
      settled = h;
      stable = settled-whole c.args.self.now.view h.core (λ a. resolves_once c.args.self.now.view a c.settle.ensures.kernel.labelled) h.inside plain;
      own = c.if-not-has_own_edge.ensures.own refl h.core h.there;
    }
