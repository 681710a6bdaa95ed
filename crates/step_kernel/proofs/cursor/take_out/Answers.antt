use Rattle.std.proofs.Common.{◌-◌, ◌≤◌, List, Option, sym, subst, arith}
use Rattle.core_forms.specs.declared.form.Core.{Core}
use Rattle.step_kernel.specs.Cursor.{gone_first}
use Rattle.step_kernel.proofs.Cursors.{gone-without}
use Rattle.step_kernel.proofs.cursor.take_out.Goals as goal

pub advanced-requires : goal.advanced-requires
advanced-requires c =
    subst (λ (cs : List (Option Core)). c.args.known ≤ gone_first cs) (sym c.as_slice.ensures.value)
    (omega (arith, gone-without c.args.cores.now.items (c.args.id - 1), c.requires.known))
