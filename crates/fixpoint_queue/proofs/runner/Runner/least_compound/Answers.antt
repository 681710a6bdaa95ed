use Rattle.std.proofs.Common.{◌≡◌, [], ap, ◌∙◌}
use Rattle.index_ring.specs.Lists.{times}
use Rattle.step_kernel.specs.Least.{least_compound_of}
use Rattle.fixpoint_queue.specs.Saturation.{Saturation}
use Rattle.fixpoint_queue.proofs.LeastMarks.{least-marked}
use Rattle.fixpoint_queue.proofs.runner.Runner.least_compound.Goals as goal

pub returns : goal.returns
returns g c =
    let none : c.self.inside.work.queue.queued ≡ [] = ap (λ (r : Saturation). r.queued) c.self.view_is ∙ c.requires in
    c.least.ensures
    ∙ least-marked c.self.inside.state c.self.inside.work.marks (λ id. c.self.invariant.marked id (ap (times id) none))
    ∙ ap (λ (r : Saturation). least_compound_of r.kernel) c.self.view_is
