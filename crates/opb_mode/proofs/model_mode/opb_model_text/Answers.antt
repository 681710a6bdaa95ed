use Rattle.text_modes.specs.Seen.{shelf_shown, sink_shown, seen}
use Rattle.opb_mode.proofs.Ends.{model_mode}
use Rattle.opb_mode.proofs.model_mode.opb_model_text.Goals as goal

pub returns : goal.returns
returns g c =
    model_mode c.args.input.now c.run_one.result
    (seen (shelf_shown g.S.Shelf.left g.S.Shelf.faults) (sink_shown g.O.Sink.taken g.O.Sink.flushed g.O.Sink.faults) c.args.shelf.now c.run_one.new.shelf c.args.out.now c.run_one.new.out) c.run_one.ensures
