use Rattle.std.proofs.Common.{◌≡◌, ◌++◌, drop}
use Rattle.direct_encode.specs.AtomLists.{member_clauses}
use Rattle.direct_encode.proofs.atom_lists.push_members.Given as goal

-- those so far and those of the members that are left are all
abbrev pub invariant-loop-atom : goal.invariant-loop-atom
invariant-loop-atom l = l.clauses.items ++ member_clauses l.r (drop l.atom-index l.atoms) ≡ l.initial.clauses.items ++ member_clauses l.r l.atoms
