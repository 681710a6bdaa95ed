use Rattle.std.proofs.Common.{◌≡◌, ℕ, ◌+◌, ◌≤◌, ◌^◌, List, [], ◌∷◌, ◌++◌, length, sym, ap, ◌∙◌, subst, arith, rules}
use Rattle.ledger_text.specs.declared.line.Line.TheVariants.{Split}
use Rattle.std.specs.Prelude.{Contains}
use Rattle.core_occurrences.specs.Lists.{OccurrenceLists, cores_at}
use Rattle.part_base.specs.declared.parts.Parts.{Parts}
use Rattle.core_parts.specs.Parts.{parts_at}
use Rattle.step_kernel.specs.Kernel.{Kernel, IsKernel}
use Rattle.step_kernel.specs.SplitAt.{ArePartsAt, IsCutAt}
use Rattle.step_kernel.specs.Steps.{divided}
use Rattle.fixpoint_queue.specs.Saturation.{Saturation}
use Rattle.fixpoint_queue.specs.Handed.{AreComing, HaveCome}
use Rattle.fixpoint_queue.specs.IdQueue.{Ids}
use Rattle.fixpoint_queue.specs.Split.{IsSplit, AreCutLists, AreFrom}
use Rattle.fixpoint_queue.specs.Waits.{IsSaturation}
use Rattle.fixpoint_queue.specs.Wider.{HasRoom}
use Rattle.fixpoint_queue.proofs.Cuttings.{cut-core, cut-bound, cut-fresh, cut-parts, from-increasing, from-inside, rest-inside, parts-listed}
use Rattle.fixpoint_queue.proofs.Splittings.{AreListed, HasSplit, divided-is, kernel-split, coming, has-split}
use Rattle.fixpoint_queue.proofs.Widened.{saturation-wider}
use Rattle.fixpoint_queue.proofs.runner.Runner.split_cut.Given
use Rattle.fixpoint_queue.proofs.runner.Runner.split_cut.Goals as goal
use Rattle.fixpoint_queue.proofs.runner.Runner.split_cut.Goals.{After-lists_of_cut, After-as_slice-2, After-as_slice-3}

-- ---- how the core is cut, and room for its parts

is-cut : (g : Given.Over) (c : After-lists_of_cut g) → IsCutAt c.self.inside.state c.args.id c.args.cut
is-cut g c = subst (λ (r : Saturation). IsCutAt r.kernel c.args.id c.args.cut) (sym c.self.view_is) c.requires.cut

few : (g : Given.Over) (c : After-lists_of_cut g) → length c.self.inside.state.view + c.args.cut.fresh ≤ 2 ^ 27
few g c = cut-bound c.self.inside.state c.args.id c.args.cut c.self.invariant.kernel (is-cut g c)

pub variables_from-requires : goal.variables_from-requires
variables_from-requires g c = omega (arith, few g (goal.at.variables_from-requires g c).After-lists_of_cut, c.vars.ensures.vars)

pub make_room-requires-clause-vars : goal.make_room-requires-clause-vars
make_room-requires-clause-vars g c = omega (arith, few g (goal.at.make_room-requires-clause-vars g c).After-lists_of_cut)

fresh : (g : Given.Over) (c : After-as_slice-2 g) → AreFrom (length c.self.inside.state.view + 1) c.args.cut.fresh c.as_slice-2.result.now
fresh g c =
    subst (λ (n : ℕ). AreFrom (n + 1) c.args.cut.fresh c.as_slice-2.result.now) c.vars.ensures.vars
    (subst (AreFrom (c.vars.result + 1) c.args.cut.fresh) (sym c.as_slice-2.ensures.value) c.in_ok-come.ensures)

pub are_bare-requires : goal.are_bare-requires
are_bare-requires g c = λ v there.
    let b = from-inside (length c.self.inside.state.view + 1) c.args.cut.fresh c.as_slice-2.result.now (fresh g (goal.at.are_bare-requires g c).After-as_slice-2) v there in
    (omega (arith, b.0), omega (arith, b.1, c.in_ok-make_room.ensures.room.vars))

pub invariant_of-self : goal.invariant_of-self
invariant_of-self g c =
    saturation-wider g.F.Oracle.told c.self.inside.state c.self.inside.work.occurs c.make_room.new.self.occurs c.self.inside.work.queue c.make_room.new.self.queue c.self.inside.work.marks c.make_room.new.self.marks c.self.invariant c.make_room.ensures.wider

pub invariant_of-self-then-not-are_bare : goal.invariant_of-self-then-not-are_bare
invariant_of-self-then-not-are_bare g c =
    saturation-wider g.F.Oracle.told c.self.inside.state c.self.inside.work.occurs c.make_room.new.self.occurs c.self.inside.work.queue c.make_room.new.self.queue c.self.inside.work.marks c.make_room.new.self.marks c.self.invariant c.make_room.ensures.wider

pub invariant_of-self-in_err-reserve : goal.invariant_of-self-in_err-reserve
invariant_of-self-in_err-reserve g c =
    saturation-wider g.F.Oracle.told c.self.inside.state c.self.inside.work.occurs c.make_room.new.self.occurs c.self.inside.work.queue c.make_room.new.self.queue c.self.inside.work.marks c.make_room.new.self.marks c.self.invariant c.make_room.ensures.wider

pub invariant_of-self-in_err-split_cut : goal.invariant_of-self-in_err-split_cut
invariant_of-self-in_err-split_cut g c =
    saturation-wider g.F.Oracle.told c.split_cut.new.self c.self.inside.work.occurs c.make_room.new.self.occurs c.self.inside.work.queue c.make_room.new.self.queue c.self.inside.work.marks c.make_room.new.self.marks
    (subst (λ (k : Kernel). IsSaturation g.F.Oracle.told k c.self.inside.work.occurs c.self.inside.work.queue c.self.inside.work.marks) (sym c.in_err-split_cut.ensures.stays) c.self.invariant)
    c.make_room.ensures.wider

-- ---- what stands before the parts come

cut : (g : Given.Over) (c : After-as_slice-3 g) → IsCutAt c.self.inside.state c.args.id c.args.cut
cut g c = subst (λ (r : Saturation). IsCutAt r.kernel c.args.id c.args.cut) (sym c.self.view_is) c.requires.cut

parts : (g : Given.Over) (c : After-as_slice-3 g) → Parts
parts g c = parts_at (length c.self.inside.state.view + 1) (cut-core c.self.inside.state c.args.id c.args.cut (cut g c))

at : (g : Given.Over) (c : After-as_slice-3 g) → ArePartsAt c.self.inside.state c.args.id (parts g c)
unfolding parts cut
at g c = cut-parts c.self.inside.state c.args.id c.args.cut (cut g c)

is-divided : (g : Given.Over) (c : After-as_slice-3 g) → c.split_cut.new.self ≡ divided c.self.inside.state c.args.id (parts g c)
is-divided g c =
    divided-is c.self.inside.state c.split_cut.new.self c.args.id (parts g c) (ap (λ (r : Saturation). r.kernel.bottom) c.self.view_is ∙ c.requires.running) (at g c) c.in_ok-split_cut.ensures.step

kernel : (g : Given.Over) (c : After-as_slice-3 g) → IsKernel c.split_cut.new.self
kernel g c = kernel-split c.self.inside.state c.split_cut.new.self c.args.id c.self.invariant.kernel c.in_ok-split_cut.ensures.step

from : (g : Given.Over) (c : After-as_slice-3 g) → AreFrom (length c.self.inside.state.view + 1) c.args.cut.fresh c.in_ok-come.come.items
from g c =
    subst (λ (n : ℕ). AreFrom (n + 1) c.args.cut.fresh c.in_ok-come.come.items) c.vars.ensures.vars
    c.in_ok-come.ensures

lists : (g : Given.Over) (c : After-as_slice-3 g) → AreCutLists c.as_slice-3.result.now c.args.cut
lists g c = subst (λ (l : List (List ℕ)). AreCutLists l c.args.cut) (sym c.as_slice-3.ensures.value) c.in_ok-lists.ensures

has-room : (g : Given.Over) (c : After-as_slice-3 g) → HasRoom c.self.inside.state (parts g c).fresh (length c.in_ok-come.come.items) c.as_slice-3.result.now c.make_room.new.self.occurs c.make_room.new.self.queue c.make_room.new.self.marks
unfolding parts cut
has-room g c =
    subst (λ (n : ℕ). HasRoom c.self.inside.state n (length c.in_ok-come.come.items) c.as_slice-3.result.now c.make_room.new.self.occurs c.make_room.new.self.queue c.make_room.new.self.marks) (cut-fresh c.self.inside.state c.args.id c.args.cut (cut g c))
    (subst (λ (n : ℕ). HasRoom c.self.inside.state c.args.cut.fresh n c.as_slice-3.result.now c.make_room.new.self.occurs c.make_room.new.self.queue c.make_room.new.self.marks) (sym (from g c).many)
    (subst (λ (l : List (List ℕ)). HasRoom c.self.inside.state c.args.cut.fresh c.args.cut.fresh l c.make_room.new.self.occurs c.make_room.new.self.queue c.make_room.new.self.marks)
    (c.as_slice.ensures.value ∙ sym c.as_slice-3.ensures.value) c.in_ok-make_room.ensures.room))

are-listed : (g : Given.Over) (c : After-as_slice-3 g) → AreListed c.self.inside.state c.args.id (parts g c) (length c.args.cut.front) (length c.self.inside.state.cores + length c.args.cut.front + 1) c.in_ok-come.come.items c.as_slice-3.result.now
unfolding parts cut
are-listed g c = parts-listed c.self.inside.state c.args.id c.args.cut c.as_slice-3.result.now c.in_ok-come.come.items (cut g c) (lists g c) (from g c)

pub enter_around-requires-clause-coming : goal.enter_around-requires-clause-coming
enter_around-requires-clause-coming g c =
    let d = (goal.at.enter_around-requires-clause-coming g c).After-as_slice-3 in
    subst (λ (p : ℕ). AreComing c.split_cut.new.self c.ids-before.result c.args.id p (c.ids-before.result + p + 1) c.in_ok-come.come.items c.as_slice-3.result.now c.leave_queue.new.self.occurs c.leave_queue.new.self.queue) (sym c.len-place.ensures)
    (subst (λ (n : ℕ). AreComing c.split_cut.new.self n c.args.id (length c.args.cut.front) (n + length c.args.cut.front + 1) c.in_ok-come.come.items c.as_slice-3.result.now c.leave_queue.new.self.occurs c.leave_queue.new.self.queue) (sym c.ids-before.ensures.ids)
    (subst
    (λ (o : OccurrenceLists). AreComing c.split_cut.new.self (length c.self.inside.state.cores) c.args.id (length c.args.cut.front) (length c.self.inside.state.cores + length c.args.cut.front + 1) c.in_ok-come.come.items c.as_slice-3.result.now o c.leave_queue.new.self.queue)
    (sym c.leave_queue.ensures.occurs)
    (coming g.F.Oracle.told c.self.inside.state c.split_cut.new.self c.args.id (parts g d) c.as_slice-3.result.now (length c.args.cut.front) (length c.self.inside.state.cores + length c.args.cut.front + 1) c.in_ok-come.come.items
    c.self.inside.work.occurs c.make_room.new.self.occurs c.self.inside.work.queue c.make_room.new.self.queue c.leave_queue.new.self.queue c.self.inside.work.marks c.make_room.new.self.marks c.leave_queue.new.self.marks
    c.self.invariant c.make_room.ensures.wider (has-room g d) (at g d) (are-listed g d) (is-divided g d)
    c.leave_queue.ensures.queued c.leave_queue.ensures.places c.leave_queue.ensures.ids c.leave_queue.ensures.marks (kernel g d))))

pub enter_around-requires-clause-inside : goal.enter_around-requires-clause-inside
enter_around-requires-clause-inside g c =
    let d = (goal.at.enter_around-requires-clause-inside g c).After-as_slice-3 in
    omega (arith, c.len-place.ensures, rest-inside c.self.inside.state c.args.id c.args.cut c.as_slice-3.result.now c.in_ok-come.come.items (cut g d) (lists g d) (from g d))

pub enter_around-requires-clause-increasing : goal.enter_around-requires-clause-increasing
enter_around-requires-clause-increasing g c =
    from-increasing (length c.self.inside.state.view + 1) c.args.cut.fresh c.in_ok-come.come.items (from g (goal.at.enter_around-requires-clause-increasing g c).After-as_slice-3)

pub enter_around-requires-clause-bare : goal.enter_around-requires-clause-bare
enter_around-requires-clause-bare g c =
    subst (λ (o : OccurrenceLists). (v : ℕ) → Contains c.in_ok-come.come.items v → cores_at o v ≡ []) (sym c.leave_queue.ensures.occurs)
    (subst (λ (l : List ℕ). (v : ℕ) → Contains l v → cores_at c.make_room.new.self.occurs v ≡ []) c.as_slice-2.ensures.value (c.are_bare.ensures.0 c.if-not-are_bare.false))

-- ---- and after that

split : (g : Given.Over) (c : After-as_slice-3 g) (next : OccurrenceLists) (queue : Ids) → HaveCome c.split_cut.new.self c.ids-before.result (length c.as_slice-3.result.now) next c.leave_queue.new.self.queue queue
    → HasSplit g.F.Oracle.told c.self.inside.state c.split_cut.new.self next c.self.inside.work.queue queue c.leave_queue.new.self.marks
split g c next queue come =
    has-split g.F.Oracle.told c.self.inside.state c.split_cut.new.self c.args.id (parts g c) c.as_slice-3.result.now (length c.args.cut.front) (length c.self.inside.state.cores + length c.args.cut.front + 1) c.in_ok-come.come.items
    c.self.inside.work.occurs c.make_room.new.self.occurs c.self.inside.work.queue c.make_room.new.self.queue c.leave_queue.new.self.queue c.self.inside.work.marks c.make_room.new.self.marks c.leave_queue.new.self.marks
    c.self.invariant c.make_room.ensures.wider (has-room g c) (at g c) (are-listed g c) (is-divided g c)
    c.leave_queue.ensures.queued c.leave_queue.ensures.places c.leave_queue.ensures.ids c.leave_queue.ensures.marks (kernel g c) next queue
    (subst (λ (n : ℕ). HaveCome c.split_cut.new.self n (length c.as_slice-3.result.now) next c.leave_queue.new.self.queue queue) c.ids-before.ensures.ids come)

pub invariant_of-self-2 : goal.invariant_of-self-2
invariant_of-self-2 g c =
    subst (IsSaturation g.F.Oracle.told c.split_cut.new.self c.enter_around.new.self.occurs c.enter_around.new.self.queue) (sym c.enter_around.ensures.marks)
    (split g (goal.at.invariant_of-self-2 g c).After-as_slice-3 c.enter_around.new.self.occurs c.enter_around.new.self.queue c.enter_around.ensures.come).saturation

pub returns-clause-split : goal.returns-clause-split
returns-clause-split g c = λ _.
    let done = split g (goal.at.returns-clause-split g c).After-as_slice-3 c.enter_around.new.self.occurs c.enter_around.new.self.queue c.enter_around.ensures.come in
    let line : c.push.new.self.items ≡ c.self.inside.ledger.items ++ Split c.args.id ∷ [] = search rules in
    subst (λ (r : Saturation). IsSplit r (record { kernel = c.split_cut.new.self; ledger = c.push.new.self.items; queued = c.enter_around.new.self.queue.queued }) c.args.id) c.self.view_is
    (record { stepped = c.in_ok-split_cut.ensures.step; line = line; queued = done.queued; grows = done.grows })
