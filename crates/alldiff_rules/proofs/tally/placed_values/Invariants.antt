use Rattle.std.proofs.Common.{◌≡◌, ◌++◌, drop}
use Rattle.alldiff_rules.specs.Tally.{placed_from}
use Rattle.alldiff_rules.proofs.tally.placed_values.Given as goal

-- those so far and those of the members that are left are all
abbrev pub invariant-loop-place : goal.invariant-loop-place
invariant-loop-place l = l.entries.items ++ placed_from l.place (drop l.place l.ints) ≡ placed_from 0 l.ints
