use Rattle.text_modes.specs.Seen.{sink_shown}
use Rattle.text_modes.specs.NoText.{unread}
use Rattle.queens_mode.proofs.Ends.{mode}
use Rattle.queens_mode.proofs.mode.queens.Goals as goal

pub returns : goal.returns
returns g c = λ shelf.
    mode c.args.options c.args.size c.run_none.result
    (unread shelf (sink_shown g.O.Sink.taken g.O.Sink.flushed g.O.Sink.faults c.args.out.now) (sink_shown g.O.Sink.taken g.O.Sink.flushed g.O.Sink.faults c.run_none.new.out)) (c.run_none.ensures shelf)
