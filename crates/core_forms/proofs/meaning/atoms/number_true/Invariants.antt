use Rattle.std.proofs.Common.{◌≡◌, ◌+◌, ◌≤◌, drop}
use Rattle.core_forms.specs.Truths.{true_count}
use Rattle.core_forms.proofs.meaning.atoms.number_true.Given as goal

-- those so far and those that are left are all
abbrev pub invariant-loop-atom : goal.invariant-loop-atom
invariant-loop-atom g l = record {
  counted : l.number + true_count (g.T.TruthValues.valuation l.sigma) (drop l.atom-index l.atoms) ≡ true_count (g.T.TruthValues.valuation l.sigma) l.atoms;
  range : l.number ≤ l.atom-index;
}
