use Rattle.std.proofs.Common.{◌<◌, ◌+◌, drop, get_or, length, sym, ◌∙◌}
use Rattle.std.proofs.lemmas.List.{at_drop_more, get_or_default}
use Rattle.order_ints.specs.declared.atom.Atom.TheVariants.{True}
use Rattle.core_forms.specs.Variables.{atom_vars, steps_vars}
use Rattle.core_forms.specs.OwnVars.{with_vars}
use Rattle.core_forms.proofs.OwnVars.{too-many, where-none}
use Rattle.core_forms.proofs.few.FewVars.put_int.Goals as goal

pub returns-in_err-put_atom-clause-full : goal.returns-in_err-put_atom-clause-full
returns-in_err-put_atom-clause-full c =
    let items = c.as_slice-step-items.result.now in
    let i = c.loop-step.step-index in
    let step = get_or items i (True, 0) in
    let full : 8 < length (with_vars (atom_vars step.0) c.loop-step.self) = rw (get_or_default items i _ (True, 0) c.loop-step-test.true) at c.in_err-put_atom.ensures.full in
    let all = sym (at_drop_more (λ xs. with_vars (steps_vars xs) c.loop-step.self) items i (True, 0) c.loop-step-test.true) ∙ c.loop-step.invariant in
    where-none c.from_residual.result
    (rw (sym c.as_slice-step-items.ensures) (too-many (atom_vars step.0) (steps_vars (drop (i + 1) items)) c.loop-step.self _ all full))
