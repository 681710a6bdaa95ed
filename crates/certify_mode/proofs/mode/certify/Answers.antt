use Rattle.text_modes.specs.Seen.{shelf_shown, sink_shown, seen}
use Rattle.certify_mode.proofs.Ends.{mode}
use Rattle.certify_mode.proofs.mode.certify.Goals as goal

pub returns : goal.returns
returns g c =
    mode c.finding_laws.ensures.either c.finding_laws.ensures.once c.args.input.now c.args.second.now c.run_two.result
    (seen (shelf_shown g.S.Shelf.left g.S.Shelf.faults) (sink_shown g.O.Sink.taken g.O.Sink.flushed g.O.Sink.faults) c.args.shelf.now c.run_two.new.shelf c.args.out.now c.run_two.new.out) c.run_two.ensures
