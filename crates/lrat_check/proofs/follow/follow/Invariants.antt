use Rattle.std.proofs.Common.{◌≡◌, [], drop}
use Rattle.literal_trail.specs.Trail.{value_in, up_to}
use Rattle.lrat_check.specs.Hints.{shows}
use Rattle.lrat_check.proofs.follow.follow.Given as goal

-- what is left shows from here what all hints show from the start
abbrev pub invariant-loop-i : goal.invariant-loop-i
invariant-loop-i l = record {
  left : shows l.cnf.clauses l.added.entries (value_in l.fn.trail.entries) l.hints
      ≡ shows l.cnf.clauses l.added.entries (value_in l.trail.entries) (drop l.i l.hints);
  vars : l.trail.vars ≡ l.fn.trail.vars;
  bottom : up_to 0 l.trail.entries ≡ [];
}
