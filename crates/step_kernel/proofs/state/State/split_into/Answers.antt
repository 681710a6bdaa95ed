use Rattle.std.proofs.Common.{sym, subst}
use Rattle.part_base.specs.declared.parts.Parts.{Parts}
use Rattle.step_kernel.specs.Kernel.{IsKernel}
use Rattle.step_kernel.specs.Steps.{divided}
use Rattle.step_kernel.proofs.There.{there-divided}
use Rattle.step_kernel.proofs.state.State.split_into.Goals as goal

pub divide-requires-clause-kernel : goal.divide-requires-clause-kernel
divide-requires-clause-kernel c =
    let are = c.requires.parts in
    subst (λ (p : Parts). IsKernel (divided c.args.self.now c.args.id p)) (sym are.are)
    (there-divided c.args.self.now c.args.id are.core c.requires.kernel are.there are.compound)
