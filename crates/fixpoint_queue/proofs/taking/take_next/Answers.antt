use Rattle.std.proofs.Common.{◌≡◌, inr, ℕ, ◌+◌, ◌≤◌, true, false, length, sym, ap, ◌∙◌, subst, Some}
use Rattle.std.proofs.lemmas.Bool.{false≢true}
use Rattle.order_ints.specs.Place.{AtomBelow}
use Rattle.core_forms.specs.Place.{CoreBelow}
use Rattle.core_forms.specs.Trimmed.{trimmed_core}
use Rattle.equation_runs.specs.Turns.{resolved_equation, IsMadeOrTold}
use Rattle.index_ring.specs.Lists.{times}
use Rattle.step_kernel.specs.Kernel.{trimmed_at}
use Rattle.step_kernel.specs.Steps.{equated}
use Rattle.fixpoint_queue.specs.Taken.{HasTaken}
use Rattle.fixpoint_queue.specs.Told.{IsToldInstance}
use Rattle.fixpoint_queue.specs.Waits.{IsSaturation}
use Rattle.fixpoint_queue.proofs.Behind.{turn-made, turn-equated}
use Rattle.fixpoint_queue.proofs.Runs.{is-made, not-made, told-of, taken-none, taken-one}
use Rattle.fixpoint_queue.proofs.taking.take_next.Given.{Over}
use Rattle.fixpoint_queue.proofs.taking.take_next.Goals as goal
use Rattle.fixpoint_queue.proofs.taking.take_next.Goals.{Start}

-- what is required, which stands in a row here, by its names
record Needs (g : Over) (c : Start g) : Type 0 where
  saturation : IsSaturation g.F.Oracle.told c.args.state.now c.args.work.now.occurs c.args.work.now.queue c.args.work.now.marks
  running : c.args.state.now.bottom ≡ false
  queued : 1 ≤ times c.args.id c.args.work.now.queue.queued
  there : trimmed_at c.args.state.now c.args.id ≡ Some (trimmed_core c.args.state.now.view g.core)
  core : CoreBelow (length c.args.state.now.view + 1) g.core
  first : AtomBelow (length c.args.state.now.view + 1) c.args.e.now.a
  second : AtomBelow (length c.args.state.now.view + 1) c.args.e.now.b
  told : IsMadeOrTold (IsToldInstance g.F.Oracle.told) g.core c.args.state.now.view c.args.e.now

needs : (g : Over) (c : Start g) → Needs g c
needs g c =
    let row = c.requires.1.1 in
    record {
      saturation = row.0;
      running = row.1.0;
      queued = row.1.1.0;
      there = row.1.1.1.0;
      core = row.1.1.1.1.0;
      first = row.1.1.1.1.1.0;
      second = row.1.1.1.1.1.1.0;
      told = row.1.1.1.1.1.1.1.0;
    }

pub take_equation-requires-clause-instance : goal.take_equation-requires-clause-instance
take_equation-requires-clause-instance g c =
    let need = needs g (goal.at.take_equation-requires-clause-instance g c).Start in
    let view = c.args.state.now.view in
    let core = trimmed_core view g.core in
    let tells = told-of (IsToldInstance g.F.Oracle.told) g.core view c.args.e.now need.told (not-made view c.args.e.now c.resolved-e.result c.resolved-e.ensures (λ one. false≢true (sym c.if-eq.false ∙ c.eq.ensures.equal.1 one))) in
    (core, ap (trimmed_at c.args.state.now) c.from.ensures ∙ need.there, (subst (IsToldInstance g.F.Oracle.told core) (sym c.resolved-e.ensures) tells).1)

pub returns-then-eq-clause-taken : goal.returns-then-eq-clause-taken
returns-then-eq-clause-taken g c =
    let need = needs g (goal.at.returns-then-eq-clause-taken g c).Start in
    taken-none g.F.Oracle.told c.args.id g.core c.args.state.now c.args.ledger.now.items c.args.work.now need.saturation need.queued need.there

pub returns-then-eq-clause-turn : goal.returns-then-eq-clause-turn
returns-then-eq-clause-turn g c = λ es turn.
    let need = needs g (goal.at.returns-then-eq-clause-turn g c).Start in
    let made = is-made c.args.state.now.view c.args.e.now c.resolved-e.result c.resolved-e.ensures (c.eq.ensures.equal.0 c.if-eq.true) in
    inr (turn-made (IsToldInstance g.F.Oracle.told) g.core c.args.e.now es c.args.state.now.view need.core need.first need.second made turn)

pub returns-clause-taken : goal.returns-clause-taken
returns-clause-taken g c =
    let need = needs g (goal.at.returns-clause-taken g c).Start in
    let k = c.args.state.now in
    let core = trimmed_core k.view g.core in
    let told = told-of (IsToldInstance g.F.Oracle.told) g.core k.view c.args.e.now need.told (not-made k.view c.args.e.now c.resolved-e.result c.resolved-e.ensures (λ one. false≢true (sym c.if-eq.false ∙ c.eq.ensures.equal.1 one))) in
    let tells : IsToldInstance g.F.Oracle.told core c.resolved-e.result = subst (IsToldInstance g.F.Oracle.told core) (sym c.resolved-e.ensures) told in
    subst
    (λ (i : ℕ). HasTaken g.F.Oracle.told i g.core k c.args.ledger.now.items c.args.work.now
    c.take_equation.new.state c.take_equation.new.ledger.items c.take_equation.new.work true)
    c.from.ensures
    (taken-one g.F.Oracle.told c.from.result g.core k c.args.work.now c.take_equation.new.work c.take_equation.ensures.occurs c.take_equation.ensures.marks need.saturation need.core
    (ap (trimmed_at k) c.from.ensures ∙ need.there) need.running (subst (λ (i : ℕ). 1 ≤ times i c.args.work.now.queue.queued) (sym c.from.ensures) need.queued)
    c.resolved-e.result tells c.take_equation.ensures.woken c.take_equation.new.state c.take_equation.ensures.equated
    c.take_equation.ensures.step c.args.ledger.now.items c.take_equation.new.ledger.items c.take_equation.ensures.ledger)

pub returns-clause-turn : goal.returns-clause-turn
returns-clause-turn g c = λ es turn.
    let need = needs g (goal.at.returns-clause-turn g c).Start in
    let k = c.args.state.now in
    let is : c.take_equation.new.state ≡ equated k (resolved_equation k.view c.args.e.now) = c.take_equation.ensures.equated ∙ ap (equated k) c.resolved-e.ensures in
    turn-equated (IsToldInstance g.F.Oracle.told) g.core c.args.e.now es k need.saturation.kernel need.core need.first need.second
    (not-made k.view c.args.e.now c.resolved-e.result c.resolved-e.ensures (λ one. false≢true (sym c.if-eq.false ∙ c.eq.ensures.equal.1 one)))
    c.take_equation.new.state is (returns-clause-taken g c).vars turn
