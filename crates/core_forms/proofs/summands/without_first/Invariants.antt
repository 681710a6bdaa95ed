use Rattle.std.proofs.Common.{drop}
use Rattle.core_forms.specs.Totals.{AreTotals}
use Rattle.core_forms.proofs.summands.without_first.Given as goal

-- the totals of what is left
abbrev pub invariant-loop-i : goal.invariant-loop-i
invariant-loop-i l = AreTotals (drop l.i l.ints) l.totals
