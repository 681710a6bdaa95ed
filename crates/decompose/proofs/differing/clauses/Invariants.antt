use Rattle.std.proofs.Common.{◌≡◌, ◌++◌, drop, map}
use Rattle.core_forms.specs.declared.form.Core.TheVariants.{Clause}
use Rattle.decompose.proofs.differing.clauses.Given as goal

-- those so far and those of the groups that are left are all
abbrev pub invariant-loop-group : goal.invariant-loop-group
invariant-loop-group l = l.cores.items ++ map (λ group. Clause group) (drop l.group-index l.groups) ≡ map (λ group. Clause group) l.groups
