use Rattle.bee_cli.specs.Telling.{IsTelling}
use Rattle.bee_cli.proofs.Tellings.{telling-later, telling-on}
use Rattle.bee_cli.proofs.progress.ProgressWatcher.learned.Goals as goal

pub invariant_of-self : goal.invariant_of-self
invariant_of-self g c =
    let self = c.args.self.now in
    let taken = g.E.Sink.taken in
    record {
      telling =
          telling-on (IsTelling self.speaks self.learned (taken self.before.value) (taken self.err.now)) (IsTelling self.speaks c.one_more-self.result (taken self.before.value) (taken self.err.now))
          (telling-later self.speaks self.learned c.one_more-self.result (taken self.before.value) (taken self.err.now) c.one_more-self.ensures) self.telling;
    }
