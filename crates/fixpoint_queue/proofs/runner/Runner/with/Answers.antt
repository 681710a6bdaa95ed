use Rattle.std.proofs.Common.{◌≡◌, ℕ, Bool, false, List, [], ◌++◌, length, replicate, ap, ◌∙◌, arith}
use Rattle.std.proofs.lemmas.List.{append-nil, length-replicate}
use Rattle.core_occurrences.specs.Lists.{OccurrenceLists, grown}
use Rattle.fixpoint_queue.proofs.runner.Runner.with.Given
use Rattle.fixpoint_queue.proofs.Started.{pending-start}
use Rattle.fixpoint_queue.proofs.StartedSaturation.{none-stands, exactly-queued, saturation-started}
use Rattle.fixpoint_queue.proofs.runner.Runner.with.Goals as goal

pub enter_state-requires-clause-none : goal.enter_state-requires-clause-none
enter_state-requires-clause-none g c =
    pending-start c.args.state.cores c.grow.new.self c.in_ok-queue.queue (none-stands c.vars.result c.ids-ids.result c.grow.new.self
    (c.in_ok-grow.ensures.lists ∙ ap (λ (o : OccurrenceLists). grown o 0 c.ids-ids.result 0) c.in_ok-occurs.ensures.lists))
    c.in_ok-grow.ensures.occurrences c.in_ok-queue.ensures.queued c.in_ok-queue.ensures.ids

wide : (g : Given.Over) (c : goal.After-new g) → length c.grow.new.self.lists ≡ c.vars.result
wide g c =
    ap (λ (o : OccurrenceLists). length o.lists) c.in_ok-grow.ensures.lists ∙ ap length (append-nil c.in_ok-occurs.occurs.lists)
    ∙ ap (λ (o : OccurrenceLists). length o.lists) c.in_ok-occurs.ensures.lists ∙ length-replicate {A = List ℕ} c.vars.result []

pub invariant_of-result : goal.invariant_of-result
invariant_of-result g c = saturation-started g.F.Oracle.told c.args.state c.enter_state.new.self.occurs c.enter_state.new.self.queue c.in_ok-enter_state.ensures.pending c.enter_state.new.self.marks c.ids-ids.result
    (c.in_ok-enter_state.ensures.marks ∙ c.in_ok-grow-2.ensures.marks ∙ ap (λ (l : List Bool). l ++ replicate c.ids-ids.result false) c.new-marks.ensures) c.ids-ids.ensures.ids c.ids-ids.ensures.kernel
    (omega (arith, c.vars.ensures.vars, c.in_ok-enter_state.ensures.lists, wide g c))
    (omega (arith, c.ids-ids.ensures.ids, c.in_ok-enter_state.ensures.ids, ap (λ (o : OccurrenceLists). o.ids) c.in_ok-grow.ensures.lists, ap (λ (o : OccurrenceLists). o.ids) c.in_ok-occurs.ensures.lists))
    (omega (arith, c.ids-ids.ensures.ids, c.in_ok-enter_state.ensures.places, c.in_ok-queue.ensures.places))

pub returns-clause-queued : goal.returns-clause-queued
returns-clause-queued g c = exactly-queued g.F.Oracle.told c.args.state c.enter_state.new.self.occurs c.enter_state.new.self.queue c.in_ok-enter_state.ensures.pending
