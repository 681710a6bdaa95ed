use Rattle.std.proofs.Common.{◌≡◌, drop}
use Rattle.core_forms.specs.Truths.{all_true}
use Rattle.core_forms.proofs.meaning.atoms.are_true.Given as goal

-- what is left decides
abbrev pub invariant-loop-atom : goal.invariant-loop-atom
invariant-loop-atom g l =
    all_true (g.T.TruthValues.valuation l.sigma) (drop l.atom-index l.atoms) ≡ all_true (g.T.TruthValues.valuation l.sigma) l.atoms
