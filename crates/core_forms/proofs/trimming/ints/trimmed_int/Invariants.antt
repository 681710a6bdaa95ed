use Rattle.std.proofs.Common.{◌≡◌, ◌<◌, ◌^◌, drop, pos, ◌+ℤ◌}
use Rattle.std.specs.Prelude.{unsigned_abs}
use Rattle.order_ints.specs.View.{resolve}
use Rattle.order_ints.specs.OrderRange.{weights}
use Rattle.core_forms.specs.Resolved.{map_steps, map_int}
use Rattle.core_forms.specs.Trimmed.{raised_by, tidied_int}
use Rattle.core_forms.proofs.trimming.ints.trimmed_int.Given as goal

-- the base so far, raised by what is left
abbrev pub invariant-loop-i : goal.invariant-loop-i
invariant-loop-i l = record {
  raised : raised_by l.base (map_steps (resolve l.view) (drop l.i l.steps)) ≡ tidied_int (map_int (resolve l.view) l.a);
  low : unsigned_abs l.base < 2 ^ 100;
  high : unsigned_abs (l.base +ℤ pos (weights (drop l.i l.steps))) < 2 ^ 100;
}
