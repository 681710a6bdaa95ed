use Rattle.std.proofs.Common.{◌≡◌, ◌++◌, map}
use Rattle.std.specs.Vec.Iter.{into_iter_items}
use Rattle.core_forms.specs.declared.form.Core.TheVariants.{Amo}
use Rattle.decompose.proofs.differing.amos.Given as goal

-- those so far and those of the groups that are left are all
abbrev pub invariant-loop-group : goal.invariant-loop-group
invariant-loop-group l = l.cores.items ++ map (λ group. Amo group) (into_iter_items l.group-iterator) ≡ map (λ group. Amo group) l.fn.groups.items
