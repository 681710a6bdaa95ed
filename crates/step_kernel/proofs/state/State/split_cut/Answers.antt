use Rattle.std.proofs.Common.{◌≡◌, ◌-◌, ◌+◌, ◌≤◌, ◌++◌, ◌∷◌, List, set, inl, inr, ⊎_elim, length, map, sym, ap, ◌∙◌, subst, arith, Option, Some, None}
use Rattle.std.specs.Prelude.{IfOk, IfSome}
use Rattle.std.specs.declared.result.Result.TheVariants.{Ok}
use Rattle.std.proofs.lemmas.List.{length-map}
use Rattle.std.proofs.lemmas.Option.{none-some}
use Rattle.order_ints.specs.declared.atom.Atom.{Atom}
use Rattle.core_forms.specs.declared.form.Core.{Core}
use Rattle.core_forms.specs.Edges.{settled_core}
use Rattle.core_parts.specs.Parts.{parts_at}
use Rattle.equation_store.specs.Store.{Store}
use Rattle.part_base.specs.Cuts.{CanCome, rest_of}
use Rattle.step_kernel.specs.Cursor.{gone_first, kernel_of, IsState}
use Rattle.step_kernel.specs.Kernel.{Kernel, IsKernel}
use Rattle.step_kernel.specs.SplitAt.{most_inside}
use Rattle.step_kernel.specs.StableMarks.{AreStableMarks, IsEdgeAt}
use Rattle.step_kernel.specs.Steps.{without, divided}
use Rattle.step_kernel.proofs.Holes.{the}
use Rattle.step_kernel.proofs.SettledStates.{settles-state}
use Rattle.step_kernel.proofs.CutSplits.{IsOpened, gone-cut, opened, kept, kept-state, cut-room, cut-divided, cut-step, cut-made, cut-stable}
use Rattle.step_kernel.proofs.state.State.split_cut.Goals as goal
use Rattle.step_kernel.proofs.state.State.split_cut.Goals.{After-mark}

pub rest_of-requires-clause-comes : goal.rest_of-requires-clause-comes
rest_of-requires-clause-comes c =
    let o : IsOpened c.args.self.now c.args.id c.requires.cut.core (settled_core c.args.self.now.view c.requires.cut.core) c.settle_at.new.cores.items c.settle_at.new.stable =
    opened c.args.self.now c.requires.kernel c.args.id c.args.cut c.requires.cut c.self.inside.store c.self.inside.cores.items c.self.inside.clauses c.self.inside.bottom
    c.view.result.now c.reserve.new.self.items c.settle_at.new.cores.items c.settle_at.new.stable c.in-Some.edge
    c.self.view_is c.view.ensures.view c.reserve.ensures.items (rw c.in-Some.is at c.in_ok-edge.ensures.settled) in
    let same : Some c.in-Some-take_core.core ≡ Some (settled_core c.args.self.now.view c.requires.cut.core) =
    sym c.in-Some-take_core.is ∙ c.take_core.ensures.core ∙ o.taken in
    subst (CanCome c.args.cut.coming) (sym (ap (the c.in-Some-take_core.core) same)) c.requires.cut.is.comes

pub rest_of-requires-clause-room : goal.rest_of-requires-clause-room
rest_of-requires-clause-room c =
    omega (arith, cut-room c.args.self.now c.requires.kernel c.args.id c.args.cut c.requires.cut, ap (λ (k : Kernel). length k.view) c.self.view_is)

pub take_out-self-inside-requires-clause-known : goal.take_out-self-inside-requires-clause-known
take_out-self-inside-requires-clause-known c =
    let o : IsOpened c.args.self.now c.args.id c.requires.cut.core (settled_core c.args.self.now.view c.requires.cut.core) c.settle_at.new.cores.items c.settle_at.new.stable =
    opened c.args.self.now c.requires.kernel c.args.id c.args.cut c.requires.cut c.self.inside.store c.self.inside.cores.items c.self.inside.clauses c.self.inside.bottom
    c.view.result.now c.reserve.new.self.items c.settle_at.new.cores.items c.settle_at.new.stable c.in-Some.edge
    c.self.view_is c.view.ensures.view c.reserve.ensures.items (rw c.in-Some.is at c.in_ok-edge.ensures.settled) in
    let items : c.put_parts.new.cores.items ≡ set c.self.inside.cores.items (c.args.id - 1) None ++ (c.in_ok-front.front.items ++ Some c.in-Ok.rest ∷ c.in_ok-back.back.items) =
    c.put_parts.ensures
    ∙ ap (λ (cs : List (Option Core)). cs ++ (c.in_ok-front.front.items ++ Some c.in-Ok.rest ∷ c.in_ok-back.back.items))
    (c.take_core.ensures.cores ∙ o.gone ∙ ap (λ (k : Kernel). set k.cores (c.args.id - 1) None) (sym c.self.view_is)) in
    subst (λ (cs : List (Option Core)). c.self.inside.first ≤ gone_first cs) (sym items)
    (gone-cut c.self.inside.cores.items (c.in_ok-front.front.items ++ Some c.in-Ok.rest ∷ c.in_ok-back.back.items) (c.args.id - 1) c.self.inside.first c.self.invariant.cursor)

taken : (c : After-mark) → c.in-Some-take_core.core ≡ settled_core c.args.self.now.view c.requires.cut.core
taken c =
    let o : IsOpened c.args.self.now c.args.id c.requires.cut.core (settled_core c.args.self.now.view c.requires.cut.core) c.settle_at.new.cores.items c.settle_at.new.stable =
    opened c.args.self.now c.requires.kernel c.args.id c.args.cut c.requires.cut c.self.inside.store c.self.inside.cores.items c.self.inside.clauses c.self.inside.bottom
    c.view.result.now c.reserve.new.self.items c.settle_at.new.cores.items c.settle_at.new.stable c.in-Some.edge
    c.self.view_is c.view.ensures.view c.reserve.ensures.items (rw c.in-Some.is at c.in_ok-edge.ensures.settled) in
    let same : Some c.in-Some-take_core.core ≡ Some (settled_core c.args.self.now.view c.requires.cut.core) =
    sym c.in-Some-take_core.is ∙ c.take_core.ensures.core ∙ o.taken in
    ap (the c.in-Some-take_core.core) same

made : (c : After-mark) → kernel_of c.rest_of.new.store c.take_out-self-inside.new.cores.items c.self.inside.clauses c.self.inside.bottom
    ≡ divided c.args.self.now c.args.id (parts_at (length c.args.self.now.view + 1) (settled_core c.args.self.now.view c.requires.cut.core))
made c =
    let o : IsOpened c.args.self.now c.args.id c.requires.cut.core (settled_core c.args.self.now.view c.requires.cut.core) c.settle_at.new.cores.items c.settle_at.new.stable =
    opened c.args.self.now c.requires.kernel c.args.id c.args.cut c.requires.cut c.self.inside.store c.self.inside.cores.items c.self.inside.clauses c.self.inside.bottom
    c.view.result.now c.reserve.new.self.items c.settle_at.new.cores.items c.settle_at.new.stable c.in-Some.edge
    c.self.view_is c.view.ensures.view c.reserve.ensures.items (rw c.in-Some.is at c.in_ok-edge.ensures.settled) in
    let left : c.in-Ok.rest ≡ rest_of c.args.cut (settled_core c.args.self.now.view c.requires.cut.core) =
    c.in-Ok.ensures.rest ∙ ap (λ (core : Core). rest_of c.args.cut core) (taken c) in
    let items : c.put_parts.new.cores.items ≡ set c.self.inside.cores.items (c.args.id - 1) None ++ (c.in_ok-front.front.items ++ Some c.in-Ok.rest ∷ c.in_ok-back.back.items) =
    c.put_parts.ensures
    ∙ ap (λ (cs : List (Option Core)). cs ++ (c.in_ok-front.front.items ++ Some c.in-Ok.rest ∷ c.in_ok-back.back.items))
    (c.take_core.ensures.cores ∙ o.gone ∙ ap (λ (k : Kernel). set k.cores (c.args.id - 1) None) (sym c.self.view_is)) in
    cut-made c.args.self.now c.requires.kernel c.args.id c.args.cut c.requires.cut
    c.self.inside.store c.rest_of.new.store c.self.inside.cores.items c.in_ok-front.front.items c.in_ok-back.back.items c.take_out-self-inside.new.cores.items
    c.self.inside.clauses c.self.inside.bottom c.in-Ok.rest
    c.self.view_is c.in-Ok.ensures.view left
    (c.in_ok-front.ensures ∙ ap (map Some) c.into_vec.ensures) (c.in_ok-back.ensures ∙ ap (map Some) c.into_vec-2.ensures)
    (c.take_out-self-inside.ensures.cores ∙ ap (λ (cs : List (Option Core)). without cs c.args.id) items)

pub returns-in-Ok-clause-step : goal.returns-in-Ok-clause-step
returns-in-Ok-clause-step c =
    cut-step c.args.self.now c.requires.kernel c.args.id c.args.cut c.requires.cut c.requires.running ∙ ap Ok (sym (made c))

stable : (c : After-mark) → AreStableMarks c.rest_of.new.store.view c.take_out-self-inside.new.cores.items c.mark.new.self
stable c =
    let o : IsOpened c.args.self.now c.args.id c.requires.cut.core (settled_core c.args.self.now.view c.requires.cut.core) c.settle_at.new.cores.items c.settle_at.new.stable =
    opened c.args.self.now c.requires.kernel c.args.id c.args.cut c.requires.cut c.self.inside.store c.self.inside.cores.items c.self.inside.clauses c.self.inside.bottom
    c.view.result.now c.reserve.new.self.items c.settle_at.new.cores.items c.settle_at.new.stable c.in-Some.edge
    c.self.view_is c.view.ensures.view c.reserve.ensures.items (rw c.in-Some.is at c.in_ok-edge.ensures.settled) in
    let before : AreStableMarks c.args.self.now.view c.settle_at.new.cores.items c.settle_at.new.stable =
    subst (λ (view : List Atom). AreStableMarks view c.settle_at.new.cores.items c.settle_at.new.stable)
    (c.view.ensures.view ∙ ap (λ (k : Kernel). k.view) c.self.view_is) c.settle_at.ensures.marks in
    let place : c.len-in-Ok.result + c.len-in-Ok-2.result ≡ length c.args.self.now.cores + length c.args.cut.front =
    omega (
      arith,
      c.len-in-Ok.ensures,
      c.len-in-Ok-2.ensures,
      c.take_core.ensures.len,
      c.settle_at.ensures.len,
      c.reserve.ensures.len,
      ap length (c.in_ok-front.ensures ∙ ap (map Some) c.into_vec.ensures),
      length-map {B = Option Core} c.args.cut.front Some,
      ap (λ (k : Kernel). length k.cores) c.self.view_is,
    ) in
    let most : c.in-Ok.most ≡ most_inside (length c.args.self.now.view) c.args.cut.fresh (settled_core c.args.self.now.view c.requires.cut.core) =
    c.in-Ok.ensures.most ∙ ap (λ (k : Kernel). most_inside (length k.view) c.args.cut.fresh c.in-Some-take_core.core) c.self.view_is
    ∙ ap (most_inside (length c.args.self.now.view) c.args.cut.fresh) (taken c) in
    subst (λ (k : Kernel). AreStableMarks k.view k.cores c.mark.new.self) (sym (made c))
    (cut-stable c.args.self.now c.requires.kernel c.args.id c.args.cut c.requires.cut c.settle_at.new.stable c.mark.new.self (o.marked before)
    (λ other m. ⊎_elim (λ h. inl h) (λ e. inr (e ∙ place)) (c.mark.ensures.more other m))
    c.mark.ensures.top.0 o.below (omega (arith, most, c.mark.ensures.top.1)))

pub invariant_of-self-in-Ok : goal.invariant_of-self-in-Ok
invariant_of-self-in-Ok c = record {
  kernel = subst IsKernel (sym (made c)) (cut-divided c.args.self.now c.requires.kernel c.args.id c.args.cut c.requires.cut);
  cursor = c.take_out-self-inside.ensures.gone;
  stable = stable c;
}

pub invariant_of-self-in_default-take_core : goal.invariant_of-self-in_default-take_core
invariant_of-self-in_default-take_core c =
    let o : IsOpened c.args.self.now c.args.id c.requires.cut.core (settled_core c.args.self.now.view c.requires.cut.core) c.settle_at.new.cores.items c.settle_at.new.stable =
    opened c.args.self.now c.requires.kernel c.args.id c.args.cut c.requires.cut c.self.inside.store c.self.inside.cores.items c.self.inside.clauses c.self.inside.bottom
    c.view.result.now c.reserve.new.self.items c.settle_at.new.cores.items c.settle_at.new.stable c.in-Some.edge
    c.self.view_is c.view.ensures.view c.reserve.ensures.items (rw c.in-Some.is at c.in_ok-edge.ensures.settled) in
    let gone : c.take_core.result ≡ None = c.in_default-take_core.is in
    absurd (none-some (settled_core c.args.self.now.view c.requires.cut.core) (sym gone ∙ c.take_core.ensures.core ∙ o.taken))

-- where memory was wanting, all stands as before
pub returns-in-Err-clause-stays : goal.returns-in-Err-clause-stays
returns-in-Err-clause-stays c =
    let edge : IsEdgeAt c.self.inside.store.view c.reserve.new.self.items c.settle_at.new.cores.items c.settle_at.new.stable c.args.id c.in-Some.edge =
    subst (λ (view : List Atom). IsEdgeAt view c.reserve.new.self.items c.settle_at.new.cores.items c.settle_at.new.stable c.args.id c.in-Some.edge) c.view.ensures.view
    (rw c.in-Some.is at c.in_ok-edge.ensures.settled) in
    let same : kernel_of c.self.inside.store c.reserve.new.self.items c.self.inside.clauses c.self.inside.bottom ≡ c.args.self.now =
    ap (λ (cs : List (Option Core)). kernel_of c.self.inside.store cs c.self.inside.clauses c.self.inside.bottom) c.reserve.ensures.items ∙ c.self.view_is in
    ap (λ (s : Store). kernel_of s c.unsettle_at.new.cores.items c.self.inside.clauses c.self.inside.bottom) c.in-Err.ensures.stays
    ∙ kept c.args.self.now c.args.id c.in-Some.edge c.self.inside.store c.reserve.new.self.items c.settle_at.new.cores.items c.take_core.new.cores.items c.put_core.new.cores.items c.unsettle_at.new.cores.items
    c.self.inside.clauses c.self.inside.bottom c.in-Some-take_core.core c.in-Err.core c.settle_at.new.stable same edge (sym c.take_core.ensures.core ∙ c.in-Some-take_core.is) c.take_core.ensures.cores
    c.in-Err.ensures.back c.put_core.ensures.cores c.unsettle_at.ensures.there

pub invariant_of-self-in-Err-1 : goal.invariant_of-self-in-Err-1
invariant_of-self-in-Err-1 c =
    let edge : IsEdgeAt c.self.inside.store.view c.reserve.new.self.items c.settle_at.new.cores.items c.settle_at.new.stable c.args.id c.in-Some.edge =
    subst (λ (view : List Atom). IsEdgeAt view c.reserve.new.self.items c.settle_at.new.cores.items c.settle_at.new.stable c.args.id c.in-Some.edge) c.view.ensures.view
    (rw c.in-Some.is at c.in_ok-edge.ensures.settled) in
    let same : kernel_of c.self.inside.store c.reserve.new.self.items c.self.inside.clauses c.self.inside.bottom ≡ c.args.self.now =
    ap (λ (cs : List (Option Core)). kernel_of c.self.inside.store cs c.self.inside.clauses c.self.inside.bottom) c.reserve.ensures.items ∙ c.self.view_is in
    let marks : AreStableMarks c.self.inside.store.view c.settle_at.new.cores.items c.settle_at.new.stable =
    subst (λ (view : List Atom). AreStableMarks view c.settle_at.new.cores.items c.settle_at.new.stable) c.view.ensures.view c.settle_at.ensures.marks in
    let before : IsState (kernel_of c.self.inside.store c.reserve.new.self.items c.self.inside.clauses c.self.inside.bottom) c.self.inside.first c.self.inside.stable =
    subst (λ (cs : List (Option Core)). IsState (kernel_of c.self.inside.store cs c.self.inside.clauses c.self.inside.bottom) c.self.inside.first c.self.inside.stable)
    (sym c.reserve.ensures.items) c.self.invariant in
    let told : IfOk c.settle_at.result (λ a. IfSome a (λ edge. IsEdgeAt c.self.inside.store.view c.reserve.new.self.items c.settle_at.new.cores.items c.settle_at.new.stable c.args.id edge)) =
    subst (λ (view : List Atom). IfOk c.settle_at.result (λ a. IfSome a (λ edge. IsEdgeAt view c.reserve.new.self.items c.settle_at.new.cores.items c.settle_at.new.stable c.args.id edge)))
    c.view.ensures.view c.settle_at.ensures.settled in
    let settled : IsState (kernel_of c.self.inside.store c.settle_at.new.cores.items c.self.inside.clauses c.self.inside.bottom) c.self.inside.first c.settle_at.new.stable =
    settles-state c.self.inside.store c.reserve.new.self.items c.settle_at.new.cores.items c.self.inside.clauses c.self.inside.bottom c.settle_at.new.stable c.args.id
    c.self.inside.first c.self.inside.stable before marks c.settle_at.result told c.settle_at.ensures.none c.settle_at.ensures.stays in
    subst (λ (s : Store). IsState (kernel_of s c.unsettle_at.new.cores.items c.self.inside.clauses c.self.inside.bottom) c.self.inside.first c.settle_at.new.stable) (sym c.in-Err.ensures.stays)
    (kept-state c.args.self.now c.args.id c.in-Some.edge c.self.inside.store c.reserve.new.self.items c.settle_at.new.cores.items c.take_core.new.cores.items c.put_core.new.cores.items c.unsettle_at.new.cores.items
    c.self.inside.clauses c.self.inside.bottom c.in-Some-take_core.core c.in-Err.core c.settle_at.new.stable same edge (sym c.take_core.ensures.core ∙ c.in-Some-take_core.is) c.take_core.ensures.cores
    c.in-Err.ensures.back c.put_core.ensures.cores c.unsettle_at.ensures.there c.self.inside.first c.requires.kernel settled)
