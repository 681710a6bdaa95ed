use Rattle.std.proofs.Common.{◌≡◌, drop}
use Rattle.core_forms.specs.Edges.{greatest_vars}
use Rattle.core_forms.specs.Stable.{AreStableInts}
use Rattle.core_forms.proofs.edges.greatest_stable.Given as goal

-- where what is left is stable, all is; the greatest so far and of what is left is that of all
abbrev pub invariant-loop-a : goal.invariant-loop-a
invariant-loop-a l = record {
  stable : AreStableInts l.view (drop l.a-index l.ints) → AreStableInts l.view l.ints;
  greatest : greatest_vars l.all (drop l.a-index l.ints) ≡ greatest_vars l.most l.ints;
}
