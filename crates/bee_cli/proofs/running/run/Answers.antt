use Rattle.std.proofs.Common.{◌≡◌, subst}
use Rattle.bee_cli.specs.EndLines.{IsReported}
use Rattle.bee_cli.proofs.running.run.Goals as goal

pub returns-clause-usage : goal.returns-clause-usage
returns-clause-usage g c = rw c.as_slice.ensures.value at c.follow-status.ensures.usage

pub returns-clause-obeys : goal.returns-clause-obeys
returns-clause-obeys g c = rw c.as_slice.ensures.value at c.follow-status.ensures.obeys

pub returns-clause-quiet : goal.returns-clause-quiet
returns-clause-quiet g c none =
    let same : c.follow-status.new.err ≡ c.args.err.now = (rw c.as_slice.ensures.value at c.follow-status.ensures.quiet) none in
    subst (λ e. IsReported c.follow-status.result (g.E.Sink.taken e) (g.E.Sink.taken c.report.new.err)) same c.report.ensures
