use Rattle.std.proofs.Common.{◌≡◌, drop}
use Rattle.equi_rules.specs.AtomRows.{place_of_true}
use Rattle.equi_rules.proofs.atoms.first_true.Given as goal

-- the members so far are not True
abbrev pub invariant-loop-i : goal.invariant-loop-i
invariant-loop-i l = place_of_true l.i (drop l.i l.atoms) ≡ place_of_true 0 l.atoms
