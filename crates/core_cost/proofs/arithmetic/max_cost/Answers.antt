use Rattle.std.proofs.Common.{arith}
use Rattle.std.proofs.lemmas.List.{at_drop_all}
use Rattle.core_cost.specs.Arithmetic.{cost_of_members}
use Rattle.core_cost.proofs.arithmetic.max_cost.Goals as goal

pub returns : goal.returns
returns c =
    let done = at_drop_all cost_of_members c.args.members.now c.loop-steps.steps-index (omega arith) in omega arith
