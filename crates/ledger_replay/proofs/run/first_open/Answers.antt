use Rattle.std.proofs.Common.{◌≡◌, ◌<◌, true, length, get_or, rules}
use Rattle.std.proofs.lemmas.List.{get_or_default}
use Rattle.equation_runs.specs.Turns.{IsMade, made_equation}
use Rattle.ledger_replay.proofs.Turns.{due_behind}
use Rattle.ledger_replay.proofs.run.first_open.Goals as goal

pub loop-i-preserved : goal.loop-i-preserved
loop-i-preserved c =
    let low : c.loop-i.i < length c.args.run.now = search rules in
    let yes : c.is_made.result ≡ true = search rules in
    let made : IsMade c.view-view.result.now (get_or c.args.run.now c.loop-i.i made_equation) =
    rw (get_or_default c.args.run.now c.loop-i.i _ made_equation low) at (c.is_made.ensures.0 yes) in
    due_behind c.args.state.now c.view-view.ensures.kernel c.args.id c.args.run.now c.loop-i.i made_equation c.view-view.result.now low c.loop-i.invariant
    c.view-view.ensures.view made
