use Rattle.std.proofs.Common.{ℤ, ap, ◌∙◌}
use Rattle.std.specs.BTreeSet.{contains}
use Rattle.std.specs.Ordering.{int_cmp}
use mir.Syntax.{w128}
use Rattle.std.proofs.lemmas.Int.{to_z-of_z}
use Rattle.equation_runs.proofs.different.has.Goals as goal

pub returns : goal.returns
returns c = c.contains.ensures ∙ ap (λ (v : ℤ). contains int_cmp c.args.held.now v) (to_z-of_z w128 c.args.value c.ranges.value)
