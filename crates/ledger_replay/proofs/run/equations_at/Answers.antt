use Rattle.std.proofs.Common.{◌≡◌, sym, ap, ◌∙◌, Some}
use Rattle.step_kernel.specs.Kernel.{Kernel, trimmed_at}
use Rattle.step_kernel.proofs.There.{there-formed}
use Rattle.ledger_replay.proofs.Turns.{due_made, not-some}
use Rattle.ledger_replay.proofs.run.equations_at.Goals as goal

pub equations_of-requires-clause-formed : goal.equations_of-requires-clause-formed
equations_of-requires-clause-formed c =
    there-formed c.settle.new.self c.args.id c.in-Some-2.core c.in_ok-core.ensures.kernel (sym c.in_ok-core.ensures.trimmed ∙ c.in-Some-2.is)

pub returns-in-Some-2-clause-due : goal.returns-in-Some-2-clause-due
returns-in-Some-2-clause-due c =
    let k = c.args.state.now in
    let same : c.settle.new.self ≡ k = c.in_ok-edge.ensures.none (not-some c.in_ok-edge.field-0 c.in_default.not-Some) in
    let there : trimmed_at k c.args.id ≡ Some c.in-Some-2.core =
    ap (λ (t : Kernel). trimmed_at t c.args.id) (sym same) ∙ sym c.in_ok-core.ensures.trimmed ∙ c.in-Some-2.is in
    due_made k c.settle.ensures.kernel c.args.id (λ run. run.items) c.in-Some-2.core c.requires.running there c.equations_of.result
    c.equations_of.ensures.told c.equations_of.ensures.below
