use Rattle.std.proofs.Common.{◌≡◌, false, [], sym, ap, ◌∙◌, subst, map, Some}
use Rattle.order_ints.specs.Label.{own_labels}
use Rattle.step_kernel.specs.Kernel.{started, IsKernel}
use Rattle.step_kernel.specs.Cursor.{kernel_of, gone_first}
use Rattle.step_kernel.proofs.Cursors.{gone-pending}
use Rattle.step_kernel.proofs.StableLaws.{stable-none}
use Rattle.step_kernel.proofs.Started.{started-kernel, same-kernel}
use Rattle.step_kernel.proofs.state.State.start.Goals as goal
use Rattle.step_kernel.proofs.state.State.start.Goals.{After-new}

made : (c : After-new) → IsKernel (kernel_of c.in_ok-store.store c.in_ok-cores.cores.items c.new.result false)
made c =
    let is : kernel_of c.in_ok-store.store c.in_ok-cores.cores.items c.new.result false ≡ started c.args.vars c.args.cores.items =
    same-kernel c.in_ok-store.store.view (own_labels 1 c.args.vars) c.in_ok-cores.cores.items (map Some c.args.cores.items) c.new.result [] false
    c.in_ok-store.ensures.view c.in_ok-cores.ensures c.new.ensures in
    subst IsKernel (sym is) (started-kernel c.args.vars c.args.cores.items c.requires.formed c.requires.below c.requires.small)

pub invariant_of-result : goal.invariant_of-result
invariant_of-result c = record {
  kernel = made c;
  cursor = sym (ap gone_first c.in_ok-cores.ensures ∙ gone-pending c.args.cores.items);
  stable = stable-none c.in_ok-store.store.view c.in_ok-cores.cores.items c.grow.new.self (λ place m. c.new-stable.ensures place (c.grow.ensures.fewer place m));
}

pub returns-clause-kernel : goal.returns-clause-kernel
returns-clause-kernel c = made c
