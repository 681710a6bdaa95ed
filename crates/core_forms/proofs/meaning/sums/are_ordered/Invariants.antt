use Rattle.std.proofs.Common.{◌≡◌, drop}
use Rattle.core_forms.specs.Values.{all_ordered}
use Rattle.core_forms.proofs.meaning.sums.are_ordered.Given as goal

-- what is left decides
abbrev pub invariant-loop-a : goal.invariant-loop-a
invariant-loop-a g l =
    all_ordered (g.T.TruthValues.valuation l.sigma) (drop l.a-index l.ints) ≡ all_ordered (g.T.TruthValues.valuation l.sigma) l.ints
