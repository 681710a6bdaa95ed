use Rattle.std.proofs.Common.{arith, ◌∙◌}
use Rattle.std.proofs.lemmas.List.{take_rest}
use Rattle.bee_outside.proofs.ByteLaws.{grown_more}
use Rattle.bee_outside.proofs.writing.write_all.Goals as goal

pub loop-done-preserved : goal.loop-done-preserved
loop-done-preserved g c = record {
  within = omega (arith, c.in-Ok.ensures.fits);
  no_fault = (rw c.in-Ok.is at c.put.ensures.counts_faults) ∙ c.loop-done.invariant.no_fault;
  written = grown_more c.args.text.now (g.O.Sink.taken c.args.sink.now) (g.O.Sink.taken c.loop-done.sink) (g.O.Sink.taken c.put.new.self) c.loop-done.done c.in-Ok.taken c.loop-done.invariant.written (rw (take_rest c.args.text.now c.loop-done.done) at c.in-Ok.ensures.takes);
}
