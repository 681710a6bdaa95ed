use Rattle.std.proofs.Common.{ℕ, ap, sym, subst}
use Rattle.literal_trail.specs.Trail.{Trail}
use Rattle.learning_solver.specs.Restarting.{IsInTime}
use Rattle.learning_solver.proofs.search.Search.learn.Goals as goal

pub returns-in-Ok-None-clause-in_time : goal.returns-in-Ok-None-clause-in_time
returns-in-Ok-None-clause-in_time c =
    let P : ℕ → Type 0 = IsInTime c.args.restarts.now c.learn_one.new.restarts in
    subst P (sym (ap (λ (t : Trail). t.level) c.thin_out.ensures.forgets.trail)) c.learn_one.ensures.in_time
