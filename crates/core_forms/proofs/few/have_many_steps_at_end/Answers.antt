use Rattle.std.proofs.Common.{ℕ, ◌<◌, [], length, sym, subst}
use Rattle.core_forms.specs.Variables.{ints_vars}
use Rattle.core_forms.specs.OwnVars.{with_vars}
use Rattle.core_forms.proofs.OwnVars.{what-none, many-ints}
use Rattle.core_forms.proofs.few.have_many_steps_at_end.Goals as goal

pub returns : goal.returns
returns c h =
    let back = c.split_at.result.1.now in
    let full : 8 < length (with_vars (ints_vars c.of.result) c.none.result) = what-none c.put_ints.result c.is_none.result c.is_none.ensures h c.put_ints.ensures.full in
    let many : 8 < length (with_vars (ints_vars back) []) = subst (λ (n : ℕ). 8 < n) (λ i. length (with_vars (ints_vars (c.of.ensures i)) (c.none.ensures i))) full in
    many-ints c.split_at.result.0.now back c.args.ints.now (sym c.split_at.ensures.by_index.0) many
