use Rattle.std.proofs.Common.{◌≡◌, ℤ, rules, w64, to_z, of_z, subst}
use Rattle.bound_mode.specs.BoundMode.{BoundMode}
use Rattle.text_modes.specs.Seen.{shelf_shown, sink_shown, seen}
use Rattle.bound_mode.proofs.Ends.{mode}
use Rattle.bound_mode.proofs.mode.bound.Goals as goal

pub returns : goal.returns
returns g c =
    let e : to_z w64 (of_z w64 c.args.number) ≡ c.args.number = search rules in
    let shown = seen (shelf_shown g.S.Shelf.left g.S.Shelf.faults) (sink_shown g.O.Sink.taken g.O.Sink.flushed g.O.Sink.faults) c.args.shelf.now c.run_one.new.shelf c.args.out.now c.run_one.new.out in
    subst (λ (m : ℤ). BoundMode m c.args.input.now c.run_one.result shown) e (mode (to_z w64 (of_z w64 c.args.number)) c.args.input.now c.run_one.result shown c.run_one.ensures)
