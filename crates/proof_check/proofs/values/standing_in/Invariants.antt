use Rattle.std.proofs.Common.{◌≡◌, ◌++◌, map, drop}
use Rattle.std.specs.Prelude.{option_to_list}
use Rattle.proof_check.specs.Standing.{open_lits}
use Rattle.proof_check.specs.Arena.{unpacked}
use Rattle.proof_check.specs.Assigned.{value_at}
use Rattle.proof_check.proofs.values.standing_in.Given as goal

-- the open literals are the one that was found and those that are left
abbrev pub invariant-loop-code : goal.invariant-loop-code
invariant-loop-code l =
    open_lits (value_at l.truths) (map unpacked l.codes)
    ≡ option_to_list l.found ++ open_lits (value_at l.truths) (map unpacked (drop l.code-index l.codes))
