use Rattle.std.proofs.Common.{take}
use Rattle.core_forms.specs.Totals.{AreTotals}
use Rattle.core_forms.proofs.summands.totals_of.Given as goal

-- the totals of those so far
abbrev pub invariant-loop-i : goal.invariant-loop-i
invariant-loop-i l = AreTotals (take l.i l.ints) l.totals
