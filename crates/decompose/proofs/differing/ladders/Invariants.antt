use Rattle.std.proofs.Common.{◌≡◌, ◌++◌, map}
use Rattle.std.specs.Vec.Iter.{into_iter_items}
use Rattle.core_forms.specs.declared.form.Core.TheVariants.{Ladder}
use Rattle.decompose.proofs.differing.ladders.Given as goal

-- those so far and those of the members that are left are all
abbrev pub invariant-loop-a : goal.invariant-loop-a
invariant-loop-a l = l.cores.items ++ map (λ a. Ladder a) (into_iter_items l.a-iterator) ≡ map (λ a. Ladder a) l.fn.ints.items
