use Rattle.text_modes.specs.Seen.{shelf_shown, sink_shown, seen}
use Rattle.check_modes.proofs.Ends.{checks}
use Rattle.check_modes.specs.CheckMode.{answers}
use Rattle.check_modes.proofs.AnswerEnds.{one}
use Rattle.check_modes.proofs.answers.check.Goals as goal

pub returns : goal.returns
returns g c =
    checks answers one c.args.input.now c.args.second.now c.run_check.result
    (seen (shelf_shown g.S.Shelf.left g.S.Shelf.faults) (sink_shown g.O.Sink.taken g.O.Sink.flushed g.O.Sink.faults) c.args.shelf.now c.run_check.new.shelf c.args.out.now c.run_check.new.out) c.run_check.ensures
