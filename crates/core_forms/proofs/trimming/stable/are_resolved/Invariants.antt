use Rattle.std.proofs.Common.{◌≡◌, drop, map}
use Rattle.order_ints.specs.View.{resolve}
use Rattle.core_forms.proofs.trimming.stable.are_resolved.Given as goal

-- where what is left stays, all does
abbrev pub invariant-loop-atom : goal.invariant-loop-atom
invariant-loop-atom l = map (resolve l.view) (drop l.atom-index l.atoms) ≡ drop l.atom-index l.atoms → map (resolve l.view) l.atoms ≡ l.atoms
