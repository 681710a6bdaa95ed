use Rattle.std.proofs.Common.{ℕ, ◌<◌, [], length, sym, subst}
use Rattle.core_forms.specs.Variables.{atoms_vars}
use Rattle.core_forms.specs.OwnVars.{with_vars}
use Rattle.core_forms.proofs.OwnVars.{what-none, many-atoms}
use Rattle.core_forms.proofs.few.have_many_at_end.Goals as goal

pub returns : goal.returns
returns c h =
    let back = c.split_at.result.1.now in
    let full : 8 < length (with_vars (atoms_vars c.of.result) c.none.result) = what-none c.put_atoms.result c.is_none.result c.is_none.ensures h c.put_atoms.ensures.full in
    let many : 8 < length (with_vars (atoms_vars back) []) = subst (λ (n : ℕ). 8 < n) (λ i. length (with_vars (atoms_vars (c.of.ensures i)) (c.none.ensures i))) full in
    many-atoms c.split_at.result.0.now back c.args.atoms.now (sym c.split_at.ensures.by_index.0) many
