use Rattle.std.proofs.Common.{◌≡◌, ◌++◌, drop}
use Rattle.network_encode.specs.MergeParts.{units_of}
use Rattle.network_encode.proofs.units.units.Given as goal

-- the units so far and those of the steps that are left are all of them
abbrev pub invariant-loop-i : goal.invariant-loop-i
invariant-loop-i l = l.atoms.items ++ units_of l.unit (drop l.i l.steps) ≡ units_of l.unit l.steps
