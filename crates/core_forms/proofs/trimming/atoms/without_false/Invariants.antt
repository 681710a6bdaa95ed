use Rattle.std.proofs.Common.{◌≡◌, ◌++◌, drop, map}
use Rattle.order_ints.specs.View.{resolve}
use Rattle.core_forms.specs.Trimmed.{without_false}
use Rattle.core_forms.proofs.trimming.atoms.without_false.Given as goal

-- those so far and what is left make all
abbrev pub invariant-loop-atom : goal.invariant-loop-atom
invariant-loop-atom l =
    l.kept.items ++ without_false (map (resolve l.view) (drop l.atom-index l.atoms)) ≡ without_false (map (resolve l.view) l.atoms)
