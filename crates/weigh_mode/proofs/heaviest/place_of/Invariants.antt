use Rattle.std.proofs.Common.{◌≡◌, ◌+◌, length}
use Rattle.weigh_mode.specs.Kept.{place_of}
use Rattle.weigh_mode.proofs.heaviest.place_of.Given as goal

-- those that were met, and those in front of what is left, are all in front
abbrev pub invariant-loop-rest : goal.invariant-loop-rest
invariant-loop-rest l =
    (l.place + place_of l.weight l.rest ≡ place_of l.weight l.kept) × (l.place + length l.rest ≡ length l.kept)

abbrev pub decreases-loop-rest : goal.decreases-loop-rest
decreases-loop-rest l = length l.rest
