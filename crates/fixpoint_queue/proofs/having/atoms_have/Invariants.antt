use Rattle.std.proofs.Common.{◌≡◌}
use Rattle.std.specs.Prelude.{◌==◌}
use Rattle.std.specs.List.{list_any}
use Rattle.core_forms.specs.Contents.{atoms_of}
use Rattle.core_forms.specs.Variables.{atoms_vars}
use Rattle.fixpoint_queue.proofs.having.atoms_have.Given as goal

-- none of those so far has it
abbrev pub invariant-loop-atom : goal.invariant-loop-atom
invariant-loop-atom l = list_any (λ w. w == l.var) (atoms_vars l.atom-iterator) ≡ list_any (λ w. w == l.var) (atoms_vars (atoms_of l.core))
