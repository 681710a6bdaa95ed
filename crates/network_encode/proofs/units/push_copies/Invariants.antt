use Rattle.std.proofs.Common.{◌≡◌, ◌-◌, ◌++◌}
use Rattle.network_encode.specs.MergeParts.{copies}
use Rattle.network_encode.proofs.units.push_copies.Given as goal

-- the copies so far and those that are left are all of them
abbrev pub invariant-loop-k : goal.invariant-loop-k
invariant-loop-k l = l.atoms.items ++ copies (l.count - l.k) l.atom ≡ l.fn.atoms.items ++ copies l.count l.atom
