use Rattle.std.proofs.Common.{◌≡◌, drop}
use Rattle.order_ints.specs.AtomClauses.{atom_clause_truth}
use Rattle.core_forms.proofs.meaning.atoms.is_some_true.Given as goal

-- what is left decides
abbrev pub invariant-loop-atom : goal.invariant-loop-atom
invariant-loop-atom g l =
    atom_clause_truth (g.T.TruthValues.valuation l.sigma) (drop l.atom-index l.atoms) ≡ atom_clause_truth (g.T.TruthValues.valuation l.sigma) l.atoms
