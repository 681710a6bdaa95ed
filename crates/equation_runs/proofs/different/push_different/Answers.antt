use Rattle.std.proofs.Common.{length, ◌++◌, ◌∙◌}
use Rattle.equation_runs.specs.DifferentRuns.{members_pairs}
use Rattle.equation_runs.proofs.DifferentSteps.{told}
use Rattle.equation_runs.proofs.different.push_different.Goals as goal

pub returns : goal.returns
returns c =
    c.in_ok-push_members.ensures
    ∙ (λ i. c.args.run.now.items ++ told (members_pairs (λ v. c.in_ok-taken.ensures.held v i) (λ v. c.in_ok-taken.ensures.shared v i) c.args.ints.now c.args.conditions.now (length c.args.ints.now)))
