use Rattle.std.proofs.Common.{refl}
use Rattle.text_modes.specs.Seen.{shelf_shown, sink_shown, seen}
use Rattle.text_modes.proofs.TwoEnds.{first_ended, second_failed, written_ended}
use Rattle.text_modes.proofs.two_texts.run_two.Goals as goal

pub returns-in-Err : goal.returns-in-Err
returns-in-Err g c =
    let shows = seen (shelf_shown g.S.Shelf.left g.S.Shelf.faults) (sink_shown g.O.Sink.taken g.O.Sink.flushed g.O.Sink.faults)
    c.args.shelf.now c.read_first.new.shelf c.args.out.now c.args.out.now in
    let m = g.M.TwoTexts in
    first_ended (m.most c.args.mode.now) (m.holds c.args.mode.now) (m.has_fault c.args.mode.now) (m.gives c.args.mode.now) c.args.input.now c.args.second.now shows c.in-Err.ensures.took refl
    c.in-Err.end c.in-Err.ensures.read

pub returns-in-Err-Failed : goal.returns-in-Err-Failed
returns-in-Err-Failed g c =
    let shows = seen (shelf_shown g.S.Shelf.left g.S.Shelf.faults) (sink_shown g.O.Sink.taken g.O.Sink.flushed g.O.Sink.faults)
    c.args.shelf.now c.read_whole.new.shelf c.args.out.now c.args.out.now in
    let between = shelf_shown g.S.Shelf.left g.S.Shelf.faults c.read_first.new.shelf in
    let m = g.M.TwoTexts in
    second_failed (m.most c.args.mode.now) (m.holds c.args.mode.now) (m.has_fault c.args.mode.now) (m.gives c.args.mode.now) c.args.input.now c.args.second.now shows c.in-Ok.held between
    c.in-Ok.ensures.read c.in-Ok.ensures.took (record { front = c.in-Err-Failed.ensures.took; others_stay = c.in-Err-Failed.ensures.others_stay })
    (rw c.in-Err-Failed.field-0-is at c.in-Err-Failed.ensures.counts_faults) (c.in-Ok.ensures.no_count_falls c.args.second.now) refl

pub returns : goal.returns
returns g c =
    let shows = seen (shelf_shown g.S.Shelf.left g.S.Shelf.faults) (sink_shown g.O.Sink.taken g.O.Sink.flushed g.O.Sink.faults)
    c.args.shelf.now c.read_whole.new.shelf c.args.out.now c.write_made.new.out in
    let between = shelf_shown g.S.Shelf.left g.S.Shelf.faults c.read_first.new.shelf in
    let m = g.M.TwoTexts in
    written_ended (m.most c.args.mode.now) (m.holds c.args.mode.now) (m.has_fault c.args.mode.now) (m.gives c.args.mode.now) c.args.input.now c.args.second.now shows c.in-Ok.held between
    c.in-Ok.ensures.read c.in-Ok.ensures.took
    (record { front = c.in-Ok-read_whole.ensures.took; others_stay = c.in-Ok-read_whole.ensures.others_stay }) c.in-Ok-read_whole.text.items c.in-Ok-read_whole.ensures.whole
    c.in-Ok-read_whole.ensures.counts_nothing_else c.write_made.result (rw c.as_slice.ensures.value at c.write_made.ensures)
