use Rattle.std.proofs.Common.{◌≡◌, ◌++◌, drop}
use Rattle.std.specs.Prelude.{option_to_list}
use Rattle.literal_trail.specs.Trail.{value_in}
use Rattle.proof_check.specs.Standing.{open_lits}
use Rattle.lrat_check.proofs.standing.standing.Given as goal

-- the open literals are the one that was found and those that are left
abbrev pub invariant-loop-l : goal.invariant-loop-l
invariant-loop-l l =
    open_lits (value_in l.trail.entries) l.lits ≡ option_to_list l.found ++ open_lits (value_in l.trail.entries) (drop l.l-index l.lits)
