-- What the loops along an integer have still to add.
use Rattle.std.proofs.Common.{ℕ, Bool, List, map}
use Rattle.std.specs.Prelude.{if◌then◌else◌}
use Rattle.order_ints.specs.declared.atom.Atom.{Atom}
use Rattle.rule_base.specs.Stated.{all_equal}
use Rattle.equation_runs.specs.RunRows.{behind}

-- where the constant was met before these steps each of them has an equation, and else those behind it
abbrev pub left_behind : Bool → Atom → List (Atom × ℕ) → List (Atom × Atom)
left_behind met k steps = if met then all_equal (map (λ t. t.0) steps) k else behind k steps
