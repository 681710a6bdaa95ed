use Rattle.std.proofs.Common.{◌≤◌, length}
use Rattle.proof_import.proofs.reasons.first_held.Given as goal

-- the place is on the trail, or behind it
abbrev pub invariant-loop-l : goal.invariant-loop-l
invariant-loop-l l = l.first ≤ length l.db.trail.entries
