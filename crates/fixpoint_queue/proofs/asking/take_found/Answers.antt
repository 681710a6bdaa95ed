use Rattle.std.proofs.Common.{◌≡◌, ℕ, ◌+◌, ◌≤◌, true, false, List, [], ◌∷◌, ◌++◌, length, sym, ap, ◌∙◌, subst, arith, rules, Ok, Some}
use Rattle.std.specs.Prelude.{vec_len, vec_capacity}
use Rattle.core_forms.specs.declared.equation.Equation.{Equation}
use Rattle.core_rules.specs.declared.found.FoundRun.{FoundRun}
use Rattle.index_ring.specs.Lists.{times}
use Rattle.equation_runs.specs.Turns.{EquationsBelow, AreToldInTurn}
use Rattle.ledger_text.specs.declared.line.Line.{Line}
use Rattle.ledger_text.specs.declared.line.Line.TheVariants.{Equate}
use Rattle.step_kernel.specs.Kernel.{Kernel, trimmed_at}
use Rattle.step_kernel.specs.Steps.{step}
use Rattle.step_kernel.proofs.There.{there-below}
use Rattle.fixpoint_queue.specs.declared.worklist.Worklist.{Worklist}
use Rattle.fixpoint_queue.specs.Taken.{HasTaken}
use Rattle.fixpoint_queue.specs.Told.{IsToldInstance, IsTold}
use Rattle.fixpoint_queue.specs.Waits.{IsSaturation}
use Rattle.fixpoint_queue.proofs.Runs.{idle-there, idle-running, idle-equation, lines-same, flag-is, asked-counted, asked-less}
use Rattle.fixpoint_queue.proofs.asking.take_found.Given.{Over}
use Rattle.fixpoint_queue.proofs.asking.take_found.Goals as goal
use Rattle.fixpoint_queue.proofs.asking.take_found.Goals.{Start, After-take_equation}

-- what is required, which stands in a row here, by its names
record Needs (g : Over) (k : Kernel) (work : Worklist) (id : ℕ) (found : FoundRun) : Type 0 where
  saturation : IsSaturation g.F.Oracle.told k work.occurs work.queue work.marks
  running : k.bottom ≡ false
  first : 1 ≤ times id work.queue.queued
  there : trimmed_at k id ≡ Some g.core
  told : IsTold g.F.Oracle.told g.core found

needs : (g : Over) (c : Start g) → Needs g c.args.state.now c.args.work.now c.args.id c.args.found.now
needs g c =
    let row = c.requires.1.1 in
    record {
      saturation = row.0;
      running = row.1.0;
      first = row.1.1.0;
      there = row.1.1.1.0;
      told = row.1.1.1.1;
    }

-- the clauses of the call in a row, behind what is known of its lifetimes
pub take_run-some-requires : goal.take_run-some-requires
take_run-some-requires g c = λ _ lives.
    let need = needs g (goal.at.take_run-some-requires g c).Start in
    let k = c.args.state.now in
    let below : EquationsBelow (length k.view + 1) c.as_slice.result.now =
    subst (λ (es : List Equation). EquationsBelow (length k.view + 1) es) (sym c.as_slice.ensures.value)
    (need.told.below (length k.view + 1) (there-below k c.args.id g.core need.saturation.kernel need.there)) in
    let told : AreToldInTurn (IsToldInstance g.F.Oracle.told) g.core c.as_slice.result.now =
    subst (λ (es : List Equation). AreToldInTurn (IsToldInstance g.F.Oracle.told) g.core es) (sym c.as_slice.ensures.value) need.told.run in
    let room : vec_len c.reserve.new.self + length c.as_slice.result.now ≤ vec_capacity c.reserve.new.self =
    omega (arith, c.in_ok-reserve.ensures.ok, c.len.ensures, c.as_slice.ensures.len) in
    (lives.0, (lives.1, (need.saturation, (need.first, (need.there, (below, (told, room)))))))

-- ---- where something of the run was taken

pub returns-then-some-clause-saturation : goal.returns-then-some-clause-saturation
returns-then-some-clause-saturation g c = c.take_run-some.ensures.taken.saturation

pub returns-then-some-clause-adds : goal.returns-then-some-clause-adds
returns-then-some-clause-adds g c = (lines-same c.in_ok-reserve.ensures.items c.take_run-some.ensures.taken).adds

pub returns-then-some-clause-counted : goal.returns-then-some-clause-counted
returns-then-some-clause-counted g c =
    let need = needs g (goal.at.returns-then-some-clause-counted g c).Start in
    asked-counted g.F.Oracle.told c.args.id g.core c.args.state.now c.take_run-some.new.state c.args.ledger.now.items c.take_run-some.new.ledger.items c.args.work.now c.take_run-some.new.work
    (flag-is c.if-some.true (lines-same c.in_ok-reserve.ensures.items c.take_run-some.ensures.taken)) need.running

pub returns-then-some-clause-less : goal.returns-then-some-clause-less
returns-then-some-clause-less g c =
    asked-less g.F.Oracle.told c.args.id g.core c.args.state.now c.take_run-some.new.state c.args.ledger.now.items c.take_run-some.new.ledger.items c.args.work.now c.take_run-some.new.work
    (flag-is c.if-some.true (lines-same c.in_ok-reserve.ensures.items c.take_run-some.ensures.taken))

-- ---- where nothing was

pub take_equation-requires-clause-running : goal.take_equation-requires-clause-running
take_equation-requires-clause-running g c =
    let need = needs g (goal.at.take_equation-requires-clause-running g c).Start in
    idle-running g.F.Oracle.told c.args.id g.core c.args.state.now c.take_run-some.new.state c.args.ledger.now.items c.take_run-some.new.ledger.items c.args.work.now c.take_run-some.new.work
    c.take_run-some.result (lines-same c.in_ok-reserve.ensures.items c.take_run-some.ensures.taken) c.if-some.false need.there need.running

pub take_equation-requires-clause-instance : goal.take_equation-requires-clause-instance
take_equation-requires-clause-instance g c =
    let need = needs g (goal.at.take_equation-requires-clause-instance g c).Start in
    let same : c.from.result ≡ c.args.id = search rules in
    let there = idle-there g.F.Oracle.told c.args.id g.core c.args.state.now c.take_run-some.new.state c.args.ledger.now.items c.take_run-some.new.ledger.items c.args.work.now c.take_run-some.new.work
    c.take_run-some.result (lines-same c.in_ok-reserve.ensures.items c.take_run-some.ensures.taken) c.if-some.false need.there in
    (g.core, ap (trimmed_at c.take_run-some.new.state) same ∙ there, need.told.equation.1)

-- the step and the line of the equation, by the number of its core
step-of : (k new : Kernel) (i id : ℕ) (e : Equation) → i ≡ id → step k (Equate i e) ≡ Ok new → step k (Equate id e) ≡ Ok new
step-of k new i id e same stepped = subst (λ (j : ℕ). step k (Equate j e) ≡ Ok new) same stepped

line-of : (mid behind : List Line) (i id : ℕ) (e : Equation) → i ≡ id → behind ≡ mid ++ Equate i e ∷ [] → behind ≡ mid ++ Equate id e ∷ []
line-of mid behind i id e same added = added ∙ ap (λ (j : ℕ). mid ++ Equate j e ∷ []) same

one-taken : (g : Over) (c : After-take_equation g) → Needs g c.args.state.now c.args.work.now c.args.id c.args.found.now
    → HasTaken g.F.Oracle.told c.args.id g.core c.args.state.now c.args.ledger.now.items c.args.work.now c.take_equation.new.state c.take_equation.new.ledger.items c.take_equation.new.work true
one-taken g c need =
    let same : c.from.result ≡ c.args.id = search rules in
    idle-equation g.F.Oracle.told c.args.id g.core c.args.state.now c.take_run-some.new.state c.args.ledger.now.items c.take_run-some.new.ledger.items c.args.work.now c.take_run-some.new.work
    c.take_run-some.result (lines-same c.in_ok-reserve.ensures.items c.take_run-some.ensures.taken) c.if-some.false need.there need.running c.args.found.now.equation need.told.equation c.take_equation.new.work c.take_equation.ensures.occurs c.take_equation.ensures.marks c.take_equation.ensures.woken
    c.take_equation.new.state c.take_equation.ensures.equated (step-of c.take_run-some.new.state c.take_equation.new.state c.from.result c.args.id c.args.found.now.equation same c.take_equation.ensures.step)
    c.take_equation.new.ledger.items (line-of c.take_run-some.new.ledger.items c.take_equation.new.ledger.items c.from.result c.args.id c.args.found.now.equation same c.take_equation.ensures.ledger)

pub returns-clause-saturation : goal.returns-clause-saturation
returns-clause-saturation g c = (one-taken g c (needs g (goal.at.returns-clause-saturation g c).Start)).saturation

pub returns-clause-adds : goal.returns-clause-adds
returns-clause-adds g c = (one-taken g c (needs g (goal.at.returns-clause-adds g c).Start)).adds

pub returns-clause-counted : goal.returns-clause-counted
returns-clause-counted g c =
    let need = needs g (goal.at.returns-clause-counted g c).Start in
    asked-counted g.F.Oracle.told c.args.id g.core c.args.state.now c.take_equation.new.state c.args.ledger.now.items c.take_equation.new.ledger.items c.args.work.now c.take_equation.new.work
    (one-taken g c need) need.running

pub returns-clause-less : goal.returns-clause-less
returns-clause-less g c =
    asked-less g.F.Oracle.told c.args.id g.core c.args.state.now c.take_equation.new.state c.args.ledger.now.items c.take_equation.new.ledger.items c.args.work.now c.take_equation.new.work
    (one-taken g c (needs g (goal.at.returns-clause-less g c).Start))
