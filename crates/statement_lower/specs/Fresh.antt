-- Fresh variables, which stand behind those so far.
use Rattle.std.specs.Prelude.{ℕ, ◌+◌}
use Rattle.order_ints.specs.Label.{variable}
use Rattle.order_ints.specs.declared.atom.Atom.{Atom}

-- the first and the second fresh variable behind so many
abbrev pub fresh_atom : ℕ → Atom
fresh_atom vars = variable (vars + 1)

abbrev pub second_fresh_atom : ℕ → Atom
second_fresh_atom vars = variable (vars + 1 + 1)
