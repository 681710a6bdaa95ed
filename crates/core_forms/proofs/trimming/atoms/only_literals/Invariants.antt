use Rattle.std.proofs.Common.{◌≡◌, ◌+◌, ◌≤◌, ◌++◌, drop, map}
use Rattle.order_ints.specs.View.{resolve}
use Rattle.core_forms.specs.Trimmed.{without_constants, constant_trues}
use Rattle.core_forms.proofs.trimming.atoms.only_literals.Given as goal

-- those so far and what is left make all
abbrev pub invariant-loop-atom : goal.invariant-loop-atom
invariant-loop-atom l = record {
  kept : l.kept.items ++ without_constants (map (resolve l.view) (drop l.atom-index l.atoms)) ≡ without_constants (map (resolve l.view) l.atoms);
  trues : l.trues + constant_trues (map (resolve l.view) (drop l.atom-index l.atoms)) ≡ constant_trues (map (resolve l.view) l.atoms);
  range : l.trues ≤ l.atom-index;
}
