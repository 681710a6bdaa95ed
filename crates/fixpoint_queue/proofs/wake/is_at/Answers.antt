use Rattle.std.proofs.Common.{◌≡◌, ◌∙◌, Some, ap, sym, subst}
use Rattle.std.specs.Prelude.{Contains}
use Rattle.core_forms.specs.declared.form.Core.{Core}
use Rattle.core_forms.specs.Variables.{core_vars}
use Rattle.core_occurrences.proofs.Occurring.{contains-from_listed}
use Rattle.step_kernel.specs.Kernel.{core_at}
use Rattle.fixpoint_queue.proofs.PairLaws.{list_any-from}
use Rattle.fixpoint_queue.proofs.Stood.{some-of}
use Rattle.fixpoint_queue.proofs.wake.is_at.Goals as goal

pub returns-in-Some : goal.returns-in-Some
returns-in-Some c =
    let cores = c.args.state.now.cores in
    let core = c.in-Some.core.now in
    let at : core_at cores c.args.id ≡ Some core = ap (core_at cores) (sym c.into-2.ensures) ∙ sym c.in-Some.ensures.core in (
      λ t. (core, at, contains-from_listed (core_vars core) c.args.var (sym c.has_variable.ensures ∙ t)),
      λ has.
          let same : core ≡ has.0 = some-of core has.0 (sym at ∙ has.1) in
          c.has_variable.ensures ∙ list_any-from c.args.var (core_vars core) (subst (λ (d : Core). Contains (core_vars d) c.args.var) (sym same) has.2),
    )
