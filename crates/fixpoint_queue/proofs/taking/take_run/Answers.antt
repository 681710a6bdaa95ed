use Rattle.std.proofs.Common.{◌≡◌, ℕ, inr, ◌+◌, ◌<◌, ◌≤◌, false, length, drop, get_or, refl, sym, ◌∙◌, subst, arith, Some}
use Rattle.std.specs.Prelude.{vec_len, vec_capacity}
use Rattle.index_ring.specs.Lists.{times}
use Rattle.core_forms.specs.Place.{CoreBelow}
use Rattle.order_ints.specs.Place.{AtomBelow}
use Rattle.equation_runs.specs.Turns.{made_equation, IsMadeOrTold, AreToldInTurn, EquationsBelow}
use Rattle.step_kernel.specs.Kernel.{trimmed_at}
use Rattle.step_kernel.proofs.There.{there-below}
use Rattle.fixpoint_queue.specs.Told.{IsToldInstance}
use Rattle.fixpoint_queue.specs.Waits.{IsSaturation}
use Rattle.fixpoint_queue.proofs.Behind.{turn-begins}
use Rattle.fixpoint_queue.proofs.Runs.{next-turn, first-told, below-next, unless-bottom, there-asked, taken-none, taken-then, flag-is}
use Rattle.fixpoint_queue.proofs.taking.take_run.Given.{Over}
use Rattle.fixpoint_queue.proofs.taking.take_run.Goals as goal
use Rattle.fixpoint_queue.proofs.taking.take_run.Goals.{Start}

-- what is required, which stands in a row here, by its names
record Needs (g : Over) (c : Start g) : Type 0 where
  saturation : IsSaturation g.F.Oracle.told c.args.state.now c.args.work.now.occurs c.args.work.now.queue c.args.work.now.marks
  queued : 1 ≤ times c.args.id c.args.work.now.queue.queued
  there : trimmed_at c.args.state.now c.args.id ≡ Some g.core
  below : EquationsBelow (length c.args.state.now.view + 1) c.args.run.now
  told : AreToldInTurn (IsToldInstance g.F.Oracle.told) g.core c.args.run.now
  room : vec_len c.args.ledger.now + length c.args.run.now ≤ vec_capacity c.args.ledger.now

needs : (g : Over) (c : Start g) → Needs g c
needs g c =
    let row = c.requires.1.1 in
    record {
      saturation = row.0;
      queued = row.1.0;
      there = row.1.1.0;
      below = row.1.1.1.0;
      told = row.1.1.1.1.0;
      room = row.1.1.1.1.1;
    }

pub loop-e-init : goal.loop-e-init
loop-e-init g c =
    let need = needs g (goal.at.loop-e-init g c).Start in record {
      taken = taken-none g.F.Oracle.told c.args.id g.core c.args.state.now c.args.ledger.now.items c.args.work.now need.saturation need.queued
          (there-asked c.args.state.now need.saturation.kernel c.args.id g.core need.there);
      turn = inr (turn-begins (IsToldInstance g.F.Oracle.told) c.args.state.now need.saturation.kernel c.args.id g.core need.there c.args.run.now need.told);
      below = need.below;
      room = omega (arith, need.room);
      lines = omega arith;
      capacity = refl;
    }

-- the clauses of the call in a row, behind what is known of its lifetimes
pub take_next-taken-requires : goal.take_next-taken-requires
take_next-taken-requires g c = λ _ lives.
    let need = needs g (goal.at.take_next-taken-requires g c).Start in
    let is = c.loop-e.invariant in
    let running : c.loop-e.state.bottom ≡ false = sym c.bottom.ensures.bottom ∙ c.if-bottom.false in
    let e = get_or c.args.run.now c.loop-e.e-index made_equation in
    let next = below-next (length c.args.state.now.view + 1) c.args.run.now c.loop-e.e-index c.loop-e-test.true is.below in
    let core : CoreBelow (length c.loop-e.state.view + 1) g.core =
    subst (λ (n : ℕ). CoreBelow (n + 1) g.core) (sym is.taken.vars) (there-below c.args.state.now c.args.id g.core need.saturation.kernel need.there) in
    let first : AtomBelow (length c.loop-e.state.view + 1) e.a = subst (λ (n : ℕ). AtomBelow (n + 1) e.a) (sym is.taken.vars) next.0.0 in
    let second : AtomBelow (length c.loop-e.state.view + 1) e.b = subst (λ (n : ℕ). AtomBelow (n + 1) e.b) (sym is.taken.vars) next.0.1 in
    let told : IsMadeOrTold (IsToldInstance g.F.Oracle.told) g.core c.loop-e.state.view e =
    first-told (IsToldInstance g.F.Oracle.told) g.core c.loop-e.state.view e (drop (c.loop-e.e-index + 1) c.args.run.now)
    (next-turn (IsToldInstance g.F.Oracle.told) g.core c.loop-e.state.view c.args.run.now c.loop-e.e-index c.loop-e-test.true
    (unless-bottom c.loop-e.state.bottom running is.turn)) in
    let room : vec_len c.loop-e.ledger < vec_capacity c.loop-e.ledger = omega (arith, is.room, c.loop-e-test.true) in
    (lives.0, (lives.1, (is.taken.saturation, (running, (is.taken.queued, (is.taken.there, (core, (first, (second, (told, room))))))))))

pub loop-e-preserved : goal.loop-e-preserved
loop-e-preserved g c =
    let running : c.loop-e.state.bottom ≡ false = sym c.bottom.ensures.bottom ∙ c.if-bottom.false in
    let turn = next-turn (IsToldInstance g.F.Oracle.told) g.core c.loop-e.state.view c.args.run.now c.loop-e.e-index c.loop-e-test.true
    (unless-bottom c.loop-e.state.bottom running c.loop-e.invariant.turn) in
    record {
      taken = flag-is (sym c.either-some.ensures) (taken-then g.F.Oracle.told c.args.id g.core c.args.state.now c.loop-e.state c.take_next-taken.new.state
          c.args.ledger.now.items c.loop-e.ledger.items c.take_next-taken.new.ledger.items c.args.work.now c.loop-e.work c.take_next-taken.new.work c.loop-e.some c.take_next-taken.result
          c.loop-e.invariant.taken c.take_next-taken.ensures.taken);
      turn = c.take_next-taken.ensures.turn (drop (c.loop-e.e-index + 1) c.args.run.now) turn;
      below = (below-next (length c.args.state.now.view + 1) c.args.run.now c.loop-e.e-index c.loop-e-test.true c.loop-e.invariant.below).1;
      room = omega (arith, c.loop-e.invariant.room, c.take_next-taken.ensures.lines, c.take_next-taken.ensures.room);
      lines = omega (arith, c.loop-e.invariant.lines, c.take_next-taken.ensures.lines);
      capacity = c.take_next-taken.ensures.room ∙ c.loop-e.invariant.capacity;
    }
