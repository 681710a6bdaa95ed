use Rattle.text_modes.specs.Seen.{seen, shelf_shown, sink_shown}
use Rattle.bee_cli.proofs.Obeyings.{queens_obeyed}
use Rattle.bee_cli.proofs.running.obey.Goals as goal

pub returns-in-Queens-clause-obeys : goal.returns-in-Queens-clause-obeys
returns-in-Queens-clause-obeys g c =
    let shown = shelf_shown g.S.Shelf.left g.S.Shelf.faults in
    rw c.in-Queens.is
    (queens_obeyed c.in-Queens.options c.in-Queens.size c.queens.result c.model_status-in-Queens.result
    (seen shown (sink_shown g.O.Sink.taken g.O.Sink.flushed g.O.Sink.faults) c.args.shelf.now c.args.shelf.now c.args.out.now c.queens.new.out)
    (c.queens.ensures (shown c.args.shelf.now)) c.model_status-in-Queens.ensures.status)

pub solve-requires-clause-heard : goal.solve-requires-clause-heard
solve-requires-clause-heard g c = c.requires.heard

pub queens-requires-clause-heard : goal.queens-requires-clause-heard
queens-requires-clause-heard g c = c.requires.heard

pub opb-requires-clause-heard : goal.opb-requires-clause-heard
opb-requires-clause-heard g c = c.requires.heard

pub resume-requires-clause-heard : goal.resume-requires-clause-heard
resume-requires-clause-heard g c = c.requires.heard
