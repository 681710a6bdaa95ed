use Rattle.std.proofs.Common.{false}
use Rattle.bee_cli.specs.Telling.{IsTelling}
use Rattle.bee_cli.proofs.Tellings.{telling-ends, telling-on}
use Rattle.bee_cli.proofs.progress.Progress.tell.Goals as goal

pub say-requires-clause-piece : goal.say-requires-clause-piece
say-requires-clause-piece g c = rw c.as_slice.ensures.value (rw c.in-Ok.is at c.requires.piece)

pub invariant_of-self : goal.invariant_of-self
invariant_of-self g c =
    let self = c.args.self.now in
    let taken = g.E.Sink.taken in
    record {
      telling =
          telling-on (IsTelling self.speaks self.learned (taken self.before.value) (taken self.err.now)) (IsTelling false self.learned (taken self.before.value) (taken self.err.now))
          (λ h. telling-ends self.learned (taken self.before.value) (taken self.err.now) (rw c.requires.speaks at h)) self.telling;
    }
