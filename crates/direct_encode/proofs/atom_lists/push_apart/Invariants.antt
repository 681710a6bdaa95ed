use Rattle.std.proofs.Common.{◌≡◌, ◌++◌, drop}
use Rattle.direct_encode.specs.AtomLists.{apart_clauses}
use Rattle.direct_encode.proofs.atom_lists.push_apart.Given as goal

-- those so far and those of the atoms that are left are all
abbrev pub invariant-loop-other : goal.invariant-loop-other
invariant-loop-other l = l.clauses.items ++ apart_clauses l.first (drop l.other-index l.others) ≡ l.initial.clauses.items ++ apart_clauses l.first l.others
