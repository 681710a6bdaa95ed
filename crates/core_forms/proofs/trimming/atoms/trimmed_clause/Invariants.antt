use Rattle.std.proofs.Common.{◌≡◌, ◌++◌, drop, map, cond, [], ◌∷◌}
use Rattle.order_ints.specs.declared.atom.Atom.TheVariants.{True}
use Rattle.order_ints.specs.View.{resolve}
use Rattle.core_forms.specs.Trimmed.{has_true, without_false, tidied_clause}
use Rattle.core_forms.proofs.trimming.atoms.trimmed_clause.Given as goal

-- True alone where it is among what is left, and otherwise those so far and what is left
abbrev pub invariant-loop-atom : goal.invariant-loop-atom
invariant-loop-atom l =
    cond (has_true (map (resolve l.view) (drop l.atom-index l.atoms))) (True ∷ []) (l.kept.items ++ without_false (map (resolve l.view) (drop l.atom-index l.atoms))) ≡ tidied_clause (map (resolve l.view) l.atoms)
