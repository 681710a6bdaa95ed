use Rattle.std.proofs.Common.{◌≡◌, ◌≤◌}
use Rattle.search_laws.specs.Luby.{luby}
use Rattle.search_laws.proofs.luby.luby.Given as goal

abbrev pub invariant-loop-number : goal.invariant-loop-number
invariant-loop-number l = (1 ≤ l.number) × (l.number ≤ l.k) × (luby l.number ≡ luby l.k)

abbrev pub decreases-loop-number : goal.decreases-loop-number
decreases-loop-number l = l.number
