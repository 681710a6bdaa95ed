use Rattle.order_ints.specs.declared.atom.Atom.{Atom}
use Rattle.table_rules.specs.Pairs.{IsIn}
use Rattle.table_rules.specs.Words.{AreEqualWhereTold}
use Rattle.table_rules.proofs.words.keep_told_of.Given as goal

-- a pair stays so far that is equally true wherever the atom is right
abbrev pub invariant-loop-number : goal.invariant-loop-number
invariant-loop-number l = (p : Atom × Atom) → AreEqualWhereTold l.truth l.equal l.front l.back p → IsIn p l.initial.pairs.items → IsIn p l.pairs.items
