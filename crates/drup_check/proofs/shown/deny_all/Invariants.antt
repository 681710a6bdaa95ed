use Rattle.clause_rings.specs.Clauses.{IsComplete, IsDb}
use Rattle.drup_check.specs.Denying.{Denying, AreFalseBefore}
use Rattle.drup_check.proofs.shown.deny_all.Given as goal

-- the literals before the one at hand are false, and no clause is false or unit
abbrev pub invariant-loop-i : goal.invariant-loop-i
invariant-loop-i l =
    Denying l.lits l.fn.db l.db × AreFalseBefore l.lits l.db l.i × IsComplete l.db.trail.entries l.db.clauses × IsDb l.db.clauses l.db.trail
