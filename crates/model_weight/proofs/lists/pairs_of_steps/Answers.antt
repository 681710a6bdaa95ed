use Rattle.std.proofs.Common.{arith}
use Rattle.model_weight.specs.Shapes.{steps_in}
use Rattle.model_weight.proofs.StepLists.{zip-finished}
use Rattle.model_weight.proofs.lists.pairs_of_steps.Goals as goal

pub returns : goal.returns
returns c =
    let ds = c.args.decls.now in
    zip-finished (steps_in ds) (steps_in ds) c.args.left.now c.args.right.now c.loop-i.i c.loop-i.pairs.items _ (omega arith) c.loop-i.invariant
