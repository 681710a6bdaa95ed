use Rattle.std.proofs.Common.{◌≡◌, map, take}
use Rattle.statement_lower.specs.Terms.{atom_of}
use Rattle.statement_lower.proofs.terms.atoms_of.Given as goal

abbrev pub invariant-loop-term : goal.invariant-loop-term
invariant-loop-term l = l.atoms.items ≡ map (atom_of l.entries) (take l.term-index l.terms)
