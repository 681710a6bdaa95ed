use Rattle.std.proofs.Common.{true, false}
use Rattle.bee_cli.specs.Telling.{IsTelling}
use Rattle.bee_cli.proofs.Tellings.{telling-more, telling-on}
use Rattle.bee_cli.proofs.progress.Progress.say.Goals as goal

pub invariant_of-self : goal.invariant_of-self
invariant_of-self g c =
    let self = c.args.self.now in
    let taken = g.E.Sink.taken in
    record {
      telling =
          telling-on (IsTelling self.speaks self.learned (taken self.before.value) (taken self.err.now)) (IsTelling false self.learned (taken self.before.value) (taken c.write_all.new.sink))
          (λ h. telling-more false self.learned (taken self.before.value) (taken self.err.now) (taken c.write_all.new.sink) c.args.piece.now (rw c.requires.speaks at h) c.requires.piece c.in-Err.ensures.fault_took_front)
          self.telling;
    }

pub invariant_of-self-in_default : goal.invariant_of-self-in_default
invariant_of-self-in_default g c =
    let self = c.args.self.now in
    let taken = g.E.Sink.taken in
    record {
      telling =
          telling-on (IsTelling self.speaks self.learned (taken self.before.value) (taken self.err.now)) (IsTelling self.speaks self.learned (taken self.before.value) (taken c.write_all.new.sink))
          (λ h. rw c.requires.speaks
          (telling-more true self.learned (taken self.before.value) (taken self.err.now) (taken c.write_all.new.sink) c.args.piece.now (rw c.requires.speaks at h) c.requires.piece c.in_default.ensures.written))
          self.telling;
    }
