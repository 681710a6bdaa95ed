use Rattle.text_modes.specs.Seen.{shelf_shown, sink_shown, seen}
use Rattle.resume_mode.proofs.Ends.{mode}
use Rattle.resume_mode.proofs.mode.resume.Goals as goal

pub returns : goal.returns
returns g c =
    mode c.args.how.now.options c.args.input.now c.args.second.now
    (seen (shelf_shown g.S.Shelf.left g.S.Shelf.faults) (sink_shown g.O.Sink.taken g.O.Sink.flushed g.O.Sink.faults) c.args.shelf.now c.run_two.new.shelf c.args.out.now c.run_two.new.out) c.run_two.result c.run_two.ensures
