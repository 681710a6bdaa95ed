use Rattle.std.proofs.Common.{List, ◌++◌, ℤ, sym, ap, ◌∙◌}
use Rattle.equation_runs.specs.FreeAtoms.{vars_of, are_different, step_atoms}
use Rattle.equation_runs.proofs.BoundSteps.{vars_both}
use Rattle.equation_runs.proofs.free.are_free_beside.Goals as goal

pub returns : goal.returns
returns c =
    let atoms = c.args.atoms.now in
    let steps = step_atoms c.args.c.now.steps in
    c.are_different.ensures
    ∙ ap are_different
    (c.in_ok-push_step_vars.ensures
    ∙ ap (λ (vs : List ℤ). vs ++ vars_of steps) (c.in_ok-push_vars.ensures ∙ ap (λ (vs : List ℤ). vs ++ vars_of atoms) c.new-vars.ensures.items)
    ∙ sym (vars_both atoms steps))
