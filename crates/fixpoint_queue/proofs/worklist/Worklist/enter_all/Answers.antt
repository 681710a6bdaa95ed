use Rattle.std.proofs.Common.{◌≡◌, ℕ, ◌+◌, ◌≤◌, ◌==◌, length, get_or, take, ◌∙◌, refl, subst, arith, Some, None}
use Rattle.std.specs.Prelude.{Contains, if◌then◌else◌}
use Rattle.core_forms.specs.declared.form.Core.{Core}
use Rattle.core_occurrences.specs.Lists.{added}
use Rattle.fixpoint_queue.specs.IdQueue.{IsPut}
use Rattle.step_kernel.proofs.LeastCompound.{core_at-next}
use Rattle.fixpoint_queue.specs.Standing.{AreVars}
use Rattle.fixpoint_queue.proofs.Entries.{all-of, core-bounds, none-behind, some-inside, length-taken, entered-none, entered-one, room-one, listed-at, counted-at}
use Rattle.fixpoint_queue.proofs.worklist.Worklist.enter_all.Goals as goal
use Rattle.fixpoint_queue.proofs.worklist.Worklist.enter_all.Goals.{After-as_slice}

pub loop-vars-init : goal.loop-vars-init
loop-vars-init c = record {
  id = omega arith;
  entered = entered-none c.args.held c.args.state.now.cores c.args.before c.args.self.now.occurs c.args.self.now.queue c.requires.stand c.requires.occurrences c.requires.queued;
  marks = refl;
  room = c.requires.room;
}

pub overflow_add-id : goal.overflow_add-id
overflow_add-id c = omega (arith, c.loop-vars.invariant.id, c.loop-vars-test.true, c.requires.places, c.requires.queued.small)

-- the listed variables, and the core whose they are
listed : (c : After-as_slice) →
    (core : Core) × (get_or c.args.state.now.cores (c.args.before + c.loop-vars.vars-index) None ≡ Some core) × ((c.args.before + c.loop-vars.vars-index + 1 ≡ c.args.held → ⊥) → AreVars c.as_slice.result.now core)
listed c = listed-at c.args.state.now.cores c.args.before c.args.held c.args.lists.now c.requires.lists c.loop-vars.vars-index c.loop-vars-test.true c.vars-item.result c.as_slice.result.now c.vars-item.is c.as_slice.ensures

range : (c : After-as_slice) → (c.args.before + c.loop-vars.vars-index + 1 ≡ c.args.held → ⊥) → (v : ℕ) → Contains c.as_slice.result.now v → (1 ≤ v) × (v ≤ length c.loop-vars.self.occurs.lists)
range c apart v there =
    let l = listed c in
    let bounds = core-bounds c.args.state.now c.requires.kernel (c.args.before + c.loop-vars.vars-index + 1) l.0
    (core_at-next c.args.state.now.cores (c.args.before + c.loop-vars.vars-index) ∙ l.1) v (((l.2 apart).exact v).0 there) in
    (bounds.0, omega (arith, bounds.1, c.requires.vars, c.loop-vars.invariant.entered.lists))

pub enter_next-requires-clause-increasing : goal.enter_next-requires-clause-increasing
enter_next-requires-clause-increasing c = λ apart. ((listed c).2 (λ e. apart (omega (arith, e, c.loop-vars.invariant.id)))).ascending

pub enter_next-requires-clause-vars : goal.enter_next-requires-clause-vars
enter_next-requires-clause-vars c = λ apart.
    all-of (λ (v : ℕ). (1 ≤ v) × (v ≤ length c.loop-vars.self.occurs.lists)) c.as_slice.result.now (range c (λ e. apart (omega (arith, e, c.loop-vars.invariant.id))))

pub enter_next-requires-clause-fresh : goal.enter_next-requires-clause-fresh
enter_next-requires-clause-fresh c = λ apart.
    let l = listed c in
    let cores = c.args.state.now.cores in
    let n = c.args.before + c.loop-vars.vars-index in
    let inside = some-inside cores n l.0 l.1 in
    none-behind c.args.held (take n cores) c.loop-vars.self.occurs (c.loop-vars.id + 1)
    (omega (arith, length-taken cores n (omega (arith, inside)), c.loop-vars.invariant.id)) apart c.loop-vars.invariant.entered.stand

pub loop-vars-preserved : goal.loop-vars-preserved
loop-vars-preserved c =
    let cores = c.args.state.now.cores in
    let n = c.args.before + c.loop-vars.vars-index in
    let l = listed-at cores c.args.before c.args.held c.args.lists.now c.requires.lists c.loop-vars.vars-index c.loop-vars-test.true c.vars-item.result c.as_slice.result.now c.vars-item.is c.as_slice.ensures in
    let bound : (n + 1 ≡ c.args.held → ⊥) → (v : ℕ) → Contains c.as_slice.result.now v → v ≤ length c.loop-vars.self.occurs.lists =
    λ apart v there.
    let bounds = core-bounds c.args.state.now c.requires.kernel (n + 1) l.0 (core_at-next cores n ∙ l.1) v (((l.2 apart).exact v).0 there) in
    omega (arith, bounds.1, c.requires.vars, c.loop-vars.invariant.entered.lists) in
    let id : c.loop-vars.id + 1 ≡ n + 1 = omega (arith, c.loop-vars.invariant.id) in
    let counted = counted-at c.args.lists.now c.loop-vars.vars-index c.vars-item.result c.as_slice.result.now c.loop-vars-test.true c.vars-item.is c.as_slice.ensures in
    let occurs : c.enter_next.new.self.occurs ≡ (if n + 1 == c.args.held then c.loop-vars.self.occurs else added c.loop-vars.self.occurs (n + 1) c.as_slice.result.now) =
    subst (λ (j : ℕ). c.enter_next.new.self.occurs ≡ (if j == c.args.held then c.loop-vars.self.occurs else added c.loop-vars.self.occurs j c.as_slice.result.now)) id c.enter_next.ensures.occurs in
    let queue : IsPut c.loop-vars.self.queue (n + 1) c.enter_next.new.self.queue =
    subst (λ (j : ℕ). IsPut c.loop-vars.self.queue j c.enter_next.new.self.queue) id c.enter_next.ensures.queue in
    record {
      id = omega (arith, c.loop-vars.invariant.id);
      entered = entered-one c.args.held cores c.args.before c.loop-vars.vars-index c.args.self.now.occurs c.loop-vars.self.occurs c.enter_next.new.self.occurs c.args.self.now.queue c.loop-vars.self.queue c.enter_next.new.self.queue c.as_slice.result.now l.0
          l.1 l.2 bound c.loop-vars.invariant.entered occurs c.enter_next.ensures.occurrences queue c.enter_next.ensures.ids;
      marks = c.enter_next.ensures.marks ∙ c.loop-vars.invariant.marks;
      room = omega (
        arith,
        counted,
        c.loop-vars.invariant.room,
        room-one c.args.held cores c.args.before c.loop-vars.vars-index c.args.self.now.occurs c.loop-vars.self.occurs c.enter_next.new.self.occurs c.args.self.now.queue c.loop-vars.self.queue c.enter_next.new.self.queue c.as_slice.result.now l.0
            l.1 l.2 bound c.loop-vars.invariant.entered occurs c.enter_next.ensures.occurrences queue c.enter_next.ensures.ids,
      );
    }
