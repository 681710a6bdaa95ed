use Rattle.std.proofs.Common.{◌≡◌, ◌++◌, drop, map, cond, [], ◌∷◌}
use Rattle.order_ints.specs.declared.atom.Atom.TheVariants.{False}
use Rattle.order_ints.specs.View.{resolve}
use Rattle.core_forms.specs.Trimmed.{has_false, without_true, tidied_members}
use Rattle.core_forms.proofs.trimming.atoms.trimmed_members.Given as goal

-- False alone where it is among what is left, and otherwise those so far and what is left
abbrev pub invariant-loop-atom : goal.invariant-loop-atom
invariant-loop-atom l =
    cond (has_false (map (resolve l.view) (drop l.atom-index l.atoms))) (False ∷ []) (l.kept.items ++ without_true (map (resolve l.view) (drop l.atom-index l.atoms))) ≡ tidied_members (map (resolve l.view) l.atoms)
