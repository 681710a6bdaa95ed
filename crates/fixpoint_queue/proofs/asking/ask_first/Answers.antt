use Rattle.std.proofs.Common.{◌≡◌, ℕ, ◌+◌, ◌-◌, ◌≤◌, ◌<◌, false, length, sym, ap, ◌∙◌, subst, Option, Some, None}
use Rattle.std.specs.Prelude.{slice_set}
use Rattle.std.proofs.lemmas.Option.{none-some}
use Rattle.std.proofs.lemmas.Result.{on_ok_weaker, on_err_weaker}
use Rattle.core_forms.specs.declared.form.Core.{Core}
use Rattle.core_parts.specs.Parts.{is_compound_of}
use Rattle.step_kernel.specs.Kernel.{Kernel, trimmed_at}
use Rattle.fixpoint_queue.specs.declared.asking.Answer.{Answer}
use Rattle.fixpoint_queue.specs.Pairs.{IsCounted}
use Rattle.fixpoint_queue.specs.Told.{IsTold, IsAnswer}
use Rattle.fixpoint_queue.specs.Waits.{IsSaturation, left_to_ask, left_to_do}
use Rattle.fixpoint_queue.proofs.AskedCores.{saturation-quiet, less-quiet}
use Rattle.fixpoint_queue.proofs.Counted.{counted-silent}
use Rattle.fixpoint_queue.proofs.asking.ask_first.Invariants.{core-of}
use Rattle.fixpoint_queue.proofs.asking.ask_first.Goals as goal

-- the core that is named for a call
named : (o : Option Core) (core : Core) → o ≡ Some core → core ≡ core-of o
named None core e = absurd (none-some core e)
named (Some x) core e = cc

-- the clauses of the call in a row, behind what is known of its lifetimes
pub take_found-requires : goal.take_found-requires
take_found-requires g c = λ _ lives.
    let new = c.ask_pending.new.state in
    let old = c.args.state.now in
    let same : new ≡ old = c.ask_pending.ensures.stays in
    let answer = subst (λ (a : Answer). (core : Core) × (trimmed_at old c.args.id ≡ Some core) × IsAnswer g.F.Oracle.told core a) c.in-Told.is c.in_ok-found.ensures.answer in
    let at : trimmed_at new c.args.id ≡ Some answer.0 = ap (λ (k : Kernel). trimmed_at k c.args.id) same ∙ answer.1 in
    let one : answer.0 ≡ core-of (trimmed_at new c.args.id) = named (trimmed_at new c.args.id) answer.0 at in
    let saturation : IsSaturation g.F.Oracle.told new c.args.work.now.occurs c.args.work.now.queue c.args.work.now.marks =
    subst (λ (k : Kernel). IsSaturation g.F.Oracle.told k c.args.work.now.occurs c.args.work.now.queue c.args.work.now.marks) (sym same) c.requires.saturation in
    let running : new.bottom ≡ false = ap (λ (k : Kernel). k.bottom) same ∙ c.requires.running in
    let there : trimmed_at new c.args.id ≡ Some (core-of (trimmed_at new c.args.id)) = at ∙ ap (λ (core : Core). Some core) one in
    let told : IsTold g.F.Oracle.told (core-of (trimmed_at new c.args.id)) c.in-Told.found = subst (λ (core : Core). IsTold g.F.Oracle.told core c.in-Told.found) one answer.2 in
    (lives.0, (lives.1, (saturation, (running, (c.requires.first, (there, told))))))

pub returns-in-Told-clause-counted : goal.returns-in-Told-clause-counted
returns-in-Told-clause-counted g c =
    on_ok_weaker {P = (counter now : ℕ) → now ≤ counter + 3
    → IsCounted c.ask_pending.new.state c.args.ledger.now.items c.take_found.new.ledger.items (length c.args.work.now.queue.queued) counter now (left_to_ask c.take_found.new.state c.take_found.new.work.queue)}
    c.take_found.result
    (λ each.
    subst
    (λ (k : Kernel). IsCounted k c.args.ledger.now.items c.take_found.new.ledger.items (length c.args.work.now.queue.queued) c.args.steps.now c.ask_pending.new.steps (left_to_ask c.take_found.new.state c.take_found.new.work.queue))
    c.ask_pending.ensures.stays (each c.args.steps.now c.ask_pending.new.steps c.ask_pending.ensures.most))
    c.take_found.ensures.counted

pub returns-in-Told-clause-refused : goal.returns-in-Told-clause-refused
returns-in-Told-clause-refused g c =
    on_err_weaker {P = (counter now : ℕ) → now ≤ counter + 3
    → IsCounted c.ask_pending.new.state c.args.ledger.now.items c.take_found.new.ledger.items (length c.args.work.now.queue.queued) counter now 0}
    c.take_found.result
    (λ each.
    subst (λ (k : Kernel). IsCounted k c.args.ledger.now.items c.take_found.new.ledger.items (length c.args.work.now.queue.queued) c.args.steps.now c.ask_pending.new.steps 0) c.ask_pending.ensures.stays
    (each c.args.steps.now c.ask_pending.new.steps c.ask_pending.ensures.most))
    c.take_found.ensures.refused

pub returns-in-Silent-clause-saturation : goal.returns-in-Silent-clause-saturation
returns-in-Silent-clause-saturation g c =
    let answer = subst (λ (a : Answer). (core : Core) × (trimmed_at c.args.state.now c.args.id ≡ Some core) × IsAnswer g.F.Oracle.told core a) c.in-Silent.is c.in_ok-found.ensures.answer in
    let marks : c.set.new.self ≡ slice_set c.args.work.now.marks (c.args.id - 1) (is_compound_of answer.0) = c.set.ensures ∙ ap (slice_set c.args.work.now.marks (c.args.id - 1)) answer.2.compound in
    subst (λ (k : Kernel). IsSaturation g.F.Oracle.told k c.args.work.now.occurs c.take.new.self c.set.new.self) (sym c.ask_pending.ensures.stays)
    (subst (IsSaturation g.F.Oracle.told c.args.state.now c.args.work.now.occurs c.take.new.self) (sym marks)
    (saturation-quiet g.F.Oracle.told c.args.state.now c.args.work.now.occurs c.args.work.now.queue c.take.new.self c.args.work.now.marks c.requires.saturation c.args.id answer.0 answer.1 answer.2.none
    c.take.ensures.queued c.take.ensures.places c.take.ensures.ids))

pub returns-in-Silent-clause-less : goal.returns-in-Silent-clause-less
returns-in-Silent-clause-less g c =
    let answer = subst (λ (a : Answer). (core : Core) × (trimmed_at c.args.state.now c.args.id ≡ Some core) × IsAnswer g.F.Oracle.told core a) c.in-Silent.is c.in_ok-found.ensures.answer in
    subst (λ (k : Kernel). left_to_do k c.take.new.self < left_to_do c.args.state.now c.args.work.now.queue) (sym c.ask_pending.ensures.stays)
    (less-quiet g.F.Oracle.told c.args.state.now c.args.work.now.occurs c.args.work.now.queue c.take.new.self c.args.work.now.marks c.requires.saturation c.args.id answer.0 answer.1 answer.2.none
    c.take.ensures.queued c.take.ensures.places c.take.ensures.ids c.requires.running c.requires.first)

pub returns-in-Silent-clause-counted : goal.returns-in-Silent-clause-counted
returns-in-Silent-clause-counted g c =
    subst (λ (k : Kernel). IsCounted c.args.state.now c.args.ledger.now.items c.args.ledger.now.items (length c.args.work.now.queue.queued) c.args.steps.now c.ask_pending.new.steps (left_to_ask k c.take.new.self)) (sym c.ask_pending.ensures.stays)
    (counted-silent c.args.state.now c.args.ledger.now.items c.args.id c.args.steps.now c.ask_pending.new.steps c.args.work.now.queue c.take.new.self c.requires.running c.requires.first c.take.ensures.queued c.ask_pending.ensures.most)
