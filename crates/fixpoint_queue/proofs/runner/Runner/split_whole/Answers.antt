use Rattle.std.proofs.Common.{◌≡◌, ℕ, List, [], ◌∷◌, ◌++◌, length, sym, ap, ◌∙◌, subst, arith, rules}
use Rattle.core_occurrences.specs.Lists.{OccurrenceLists}
use Rattle.ledger_text.specs.declared.line.Line.TheVariants.{Split}
use Rattle.step_kernel.specs.Kernel.{Kernel, IsKernel}
use Rattle.step_kernel.specs.Steps.{divided}
use Rattle.fixpoint_queue.specs.Saturation.{Saturation}
use Rattle.fixpoint_queue.specs.Handed.{IsRest, AreComing, HaveCome}
use Rattle.fixpoint_queue.specs.IdQueue.{Ids}
use Rattle.fixpoint_queue.specs.Split.{IsSplit}
use Rattle.fixpoint_queue.specs.Standing.{AreAllVars}
use Rattle.fixpoint_queue.specs.Waits.{IsSaturation}
use Rattle.fixpoint_queue.specs.Wider.{HasRoom}
use Rattle.fixpoint_queue.proofs.Splittings.{AreListed, HasSplit, divided-is, kernel-split, fresh-bound, listed-whole, coming, has-split}
use Rattle.fixpoint_queue.proofs.Widened.{saturation-wider}
use Rattle.fixpoint_queue.proofs.runner.Runner.split_whole.Given
use Rattle.fixpoint_queue.proofs.runner.Runner.split_whole.Goals as goal
use Rattle.fixpoint_queue.proofs.runner.Runner.split_whole.Goals.{After-as_slice-3}

pub make_room-requires-clause-vars : goal.make_room-requires-clause-vars
make_room-requires-clause-vars g c = omega (arith, fresh-bound c.self.inside.state c.args.id c.in_ok-parts.parts c.self.invariant.kernel c.in_ok-parts.ensures.parts)

pub invariant_of-self : goal.invariant_of-self
invariant_of-self g c =
    saturation-wider g.F.Oracle.told c.self.inside.state c.self.inside.work.occurs c.make_room.new.self.occurs c.self.inside.work.queue c.make_room.new.self.queue c.self.inside.work.marks c.make_room.new.self.marks c.self.invariant c.make_room.ensures.wider

pub invariant_of-self-in_err-reserve : goal.invariant_of-self-in_err-reserve
invariant_of-self-in_err-reserve g c =
    saturation-wider g.F.Oracle.told c.self.inside.state c.self.inside.work.occurs c.make_room.new.self.occurs c.self.inside.work.queue c.make_room.new.self.queue c.self.inside.work.marks c.make_room.new.self.marks c.self.invariant c.make_room.ensures.wider

pub invariant_of-self-in_err-split_into : goal.invariant_of-self-in_err-split_into
invariant_of-self-in_err-split_into g c =
    saturation-wider g.F.Oracle.told c.split_into.new.self c.self.inside.work.occurs c.make_room.new.self.occurs c.self.inside.work.queue c.make_room.new.self.queue c.self.inside.work.marks c.make_room.new.self.marks
    (subst (λ (k : Kernel). IsSaturation g.F.Oracle.told k c.self.inside.work.occurs c.self.inside.work.queue c.self.inside.work.marks) (sym c.in_err-split_into.ensures.stays) c.self.invariant)
    c.make_room.ensures.wider

-- ---- what stands before the parts come

is-divided : (g : Given.Over) (c : After-as_slice-3 g) → c.split_into.new.self ≡ divided c.self.inside.state c.args.id c.in_ok-parts.parts
is-divided g c =
    divided-is c.self.inside.state c.split_into.new.self c.args.id c.in_ok-parts.parts (ap (λ (r : Saturation). r.kernel.bottom) c.self.view_is ∙ c.requires.running) c.in_ok-parts.ensures.parts c.in_ok-split_into.ensures.step

kernel : (g : Given.Over) (c : After-as_slice-3 g) → IsKernel c.split_into.new.self
kernel g c = kernel-split c.self.inside.state c.split_into.new.self c.args.id c.self.invariant.kernel c.in_ok-split_into.ensures.step

has-room : (g : Given.Over) (c : After-as_slice-3 g) → HasRoom c.self.inside.state c.in_ok-parts.parts.fresh (length c.in_ok-rest.rest.come.items) c.as_slice-3.result.now c.make_room.new.self.occurs c.make_room.new.self.queue c.make_room.new.self.marks
has-room g c =
    let few : c.len-more.result ≡ length c.in_ok-rest.rest.come.items = omega (arith, c.len-more.ensures, c.in_ok-rest.rest.come.ok.0) in
    subst (λ (n : ℕ). HasRoom c.self.inside.state c.in_ok-parts.parts.fresh n c.as_slice-3.result.now c.make_room.new.self.occurs c.make_room.new.self.queue c.make_room.new.self.marks) few
    (subst (λ (l : List (List ℕ)). HasRoom c.self.inside.state c.in_ok-parts.parts.fresh c.len-more.result l c.make_room.new.self.occurs c.make_room.new.self.queue c.make_room.new.self.marks)
    (c.as_slice-2.ensures.value ∙ sym c.as_slice-3.ensures.value) c.in_ok-make_room.ensures.room)

are-listed : (g : Given.Over) (c : After-as_slice-3 g) → AreListed c.self.inside.state c.args.id c.in_ok-parts.parts c.in_ok-rest.rest.place 0 c.in_ok-rest.rest.come.items c.as_slice-3.result.now
are-listed g c =
    let vars : AreAllVars c.as_slice-3.result.now c.in_ok-parts.parts.cores = subst (λ (l : List (List ℕ)). AreAllVars l c.in_ok-parts.parts.cores) (sym c.as_slice-3.ensures.value) c.in_ok-parts.ensures.lists in
    let rest : IsRest c.self.inside.state c.args.id c.as_slice-3.result.now c.in_ok-rest.rest.place c.in_ok-rest.rest.come.items =
    subst (λ (l : List (List ℕ)). IsRest c.self.inside.state c.args.id l c.in_ok-rest.rest.place c.in_ok-rest.rest.come.items) (c.as_slice.ensures.value ∙ sym c.as_slice-3.ensures.value) c.in_ok-rest.ensures in
    listed-whole c.self.inside.state c.args.id c.in_ok-parts.parts c.in_ok-rest.rest.place c.in_ok-rest.rest.come.items c.as_slice-3.result.now (subst IsKernel (is-divided g c) (kernel g c)) vars rest

pub enter_parts-requires : goal.enter_parts-requires
enter_parts-requires g c =
    let d = (goal.at.enter_parts-requires g c).After-as_slice-3 in
    subst (λ (n : ℕ). AreComing c.split_into.new.self n c.args.id c.in_ok-rest.rest.place 0 c.in_ok-rest.rest.come.items c.as_slice-3.result.now c.leave_queue.new.self.occurs c.leave_queue.new.self.queue) (sym c.ids-before.ensures.ids)
    (subst
    (λ (o : OccurrenceLists). AreComing c.split_into.new.self (length c.self.inside.state.cores) c.args.id c.in_ok-rest.rest.place 0 c.in_ok-rest.rest.come.items c.as_slice-3.result.now o c.leave_queue.new.self.queue)
    (sym c.leave_queue.ensures.occurs)
    (coming g.F.Oracle.told c.self.inside.state c.split_into.new.self c.args.id c.in_ok-parts.parts c.as_slice-3.result.now c.in_ok-rest.rest.place 0 c.in_ok-rest.rest.come.items
    c.self.inside.work.occurs c.make_room.new.self.occurs c.self.inside.work.queue c.make_room.new.self.queue c.leave_queue.new.self.queue c.self.inside.work.marks c.make_room.new.self.marks c.leave_queue.new.self.marks
    c.self.invariant c.make_room.ensures.wider (has-room g d) c.in_ok-parts.ensures.parts (are-listed g d) (is-divided g d)
    c.leave_queue.ensures.queued c.leave_queue.ensures.places c.leave_queue.ensures.ids c.leave_queue.ensures.marks (kernel g d)))

-- ---- and after that

split : (g : Given.Over) (c : After-as_slice-3 g) (next : OccurrenceLists) (queue : Ids) → HaveCome c.split_into.new.self c.ids-before.result (length c.as_slice-3.result.now) next c.leave_queue.new.self.queue queue
    → HasSplit g.F.Oracle.told c.self.inside.state c.split_into.new.self next c.self.inside.work.queue queue c.leave_queue.new.self.marks
split g c next queue come =
    has-split g.F.Oracle.told c.self.inside.state c.split_into.new.self c.args.id c.in_ok-parts.parts c.as_slice-3.result.now c.in_ok-rest.rest.place 0 c.in_ok-rest.rest.come.items
    c.self.inside.work.occurs c.make_room.new.self.occurs c.self.inside.work.queue c.make_room.new.self.queue c.leave_queue.new.self.queue c.self.inside.work.marks c.make_room.new.self.marks c.leave_queue.new.self.marks
    c.self.invariant c.make_room.ensures.wider (has-room g c) c.in_ok-parts.ensures.parts (are-listed g c) (is-divided g c)
    c.leave_queue.ensures.queued c.leave_queue.ensures.places c.leave_queue.ensures.ids c.leave_queue.ensures.marks (kernel g c) next queue
    (subst (λ (n : ℕ). HaveCome c.split_into.new.self n (length c.as_slice-3.result.now) next c.leave_queue.new.self.queue queue) c.ids-before.ensures.ids come)

pub invariant_of-self-2 : goal.invariant_of-self-2
invariant_of-self-2 g c =
    subst (IsSaturation g.F.Oracle.told c.split_into.new.self c.enter_parts.new.self.occurs c.enter_parts.new.self.queue) (sym c.enter_parts.ensures.marks)
    (split g (goal.at.invariant_of-self-2 g c).After-as_slice-3 c.enter_parts.new.self.occurs c.enter_parts.new.self.queue c.enter_parts.ensures.come).saturation

pub returns-clause-split : goal.returns-clause-split
returns-clause-split g c =
    let done = split g (goal.at.returns-clause-split g c).After-as_slice-3 c.enter_parts.new.self.occurs c.enter_parts.new.self.queue c.enter_parts.ensures.come in
    let line : c.push.new.self.items ≡ c.self.inside.ledger.items ++ Split c.args.id ∷ [] = search rules in
    subst (λ (r : Saturation). IsSplit r (record { kernel = c.split_into.new.self; ledger = c.push.new.self.items; queued = c.enter_parts.new.self.queue.queued }) c.args.id) c.self.view_is
    (record { stepped = c.in_ok-split_into.ensures.step; line = line; queued = done.queued; grows = done.grows })
