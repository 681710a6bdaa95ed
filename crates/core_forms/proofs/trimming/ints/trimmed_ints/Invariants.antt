use Rattle.std.proofs.Common.{◌≡◌, ◌++◌, drop}
use Rattle.order_ints.specs.View.{resolve}
use Rattle.core_forms.specs.WellFormed.{AreSound}
use Rattle.core_forms.specs.Resolved.{map_ints}
use Rattle.core_forms.specs.Trimmed.{tidied_ints}
use Rattle.core_forms.proofs.trimming.ints.trimmed_ints.Given as goal

-- those so far and what is left make all
abbrev pub invariant-loop-a : goal.invariant-loop-a
invariant-loop-a l = record {
  trimmed : l.trimmed.items ++ tidied_ints (map_ints (resolve l.view) (drop l.a-index l.ints)) ≡ tidied_ints (map_ints (resolve l.view) l.ints);
  sound : AreSound (drop l.a-index l.ints);
}
