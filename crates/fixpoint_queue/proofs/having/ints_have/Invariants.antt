use Rattle.std.proofs.Common.{◌≡◌}
use Rattle.std.specs.Prelude.{◌==◌}
use Rattle.std.specs.List.{list_any}
use Rattle.core_forms.specs.Contents.{ints_of}
use Rattle.core_forms.specs.Variables.{ints_vars}
use Rattle.fixpoint_queue.proofs.having.ints_have.Given as goal

-- none of those so far has it
abbrev pub invariant-loop-a : goal.invariant-loop-a
invariant-loop-a l = list_any (λ w. w == l.var) (ints_vars l.a-iterator) ≡ list_any (λ w. w == l.var) (ints_vars (ints_of l.core))
