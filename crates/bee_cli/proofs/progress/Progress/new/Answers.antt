use Rattle.std.proofs.Common.{ap}
use Rattle.bee_cli.proofs.Tellings.{telling-none}
use Rattle.bee_cli.proofs.progress.Progress.new.Goals as goal

pub invariant_of-result : goal.invariant_of-result
invariant_of-result g c = record {
  telling = ∣ telling-none (g.E.Sink.taken c.of.result.value) (g.E.Sink.taken c.args.err.now) (ap g.E.Sink.taken c.of.ensures) ∣₁;
}
