-- The CNF of a state.
use Rattle.std.specs.Prelude.{List, [], ◌∷◌, length, if◌then◌else◌}
use Rattle.order_ints.specs.declared.cnf.Cnf.{Cnf}
use Rattle.order_ints.specs.declared.literal.Lit.{Lit}
use Rattle.order_ints.specs.OrderedClauses.{ordered_clauses}
use Rattle.step_kernel.specs.Kernel.{Kernel}

-- at bottom the empty clause alone, and else the clauses in order, as the store has them
abbrev pub cnf_clauses : Kernel → List (List Lit)
cnf_clauses k = if k.bottom then [] ∷ [] else ordered_clauses k.view k.clauses

abbrev pub cnf_of : Kernel → Cnf
cnf_of k = record { vars = length k.view; clauses = cnf_clauses k }
