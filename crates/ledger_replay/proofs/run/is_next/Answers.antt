use Rattle.std.proofs.Common.{◌≡◌, ◌<◌, length, get_or, sym, ◌∙◌, rules}
use Rattle.std.proofs.lemmas.Bool.{false≢true}
use Rattle.std.proofs.lemmas.List.{get_or_default}
use Rattle.equation_runs.specs.Turns.{resolved_equation, made_equation}
use Rattle.ledger_replay.proofs.Turns.{next_due}
use Rattle.ledger_replay.proofs.run.is_next.Goals as goal

pub returns-clause-next : goal.returns-clause-next
returns-clause-next c = λ yes.
    let low : c.args.place < length c.args.run.now = search rules in
    let given : c.args.e.now ≡ resolved_equation c.view-view.result.now (get_or c.args.run.now c.args.place made_equation) =
    rw (get_or_default c.args.run.now c.args.place _ made_equation low) at (c.stands_as.ensures.0 yes) in
    next_due c.args.state.now c.view-view.ensures.kernel c.args.id c.args.run.now c.args.place made_equation c.view-view.result.now c.args.e.now low c.requires
    c.view-view.ensures.view given (λ same. false≢true (sym c.if-eq.false ∙ c.eq.ensures.equal.1 same))
