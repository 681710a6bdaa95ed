use Rattle.std.proofs.Common.{◌≡◌, [], drop}
use Rattle.literal_trail.specs.Trail.{value_in, up_to}
use Rattle.lrat_check.specs.Hints.{deny}
use Rattle.lrat_check.proofs.follow.deny.Given as goal

-- what is left is denied from here as all is from the start
abbrev pub invariant-loop-i : goal.invariant-loop-i
invariant-loop-i l = record {
  left : deny l.fn.trail.vars (value_in l.fn.trail.entries) l.lits ≡ deny l.trail.vars (value_in l.trail.entries) (drop l.i l.lits);
  vars : l.trail.vars ≡ l.fn.trail.vars;
  bottom : up_to 0 l.trail.entries ≡ [];
}
