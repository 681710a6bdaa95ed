use Rattle.std.proofs.Common.{◌≡◌, ◌+◌, ◌++◌, drop}
use Rattle.opb_model.specs.Models.{constraint_stmts}
use Rattle.opb_model.proofs.statements.push_constraints.Given as goal

-- those that were made and those that are left are all
abbrev pub invariant-loop-constraint : goal.invariant-loop-constraint
invariant-loop-constraint l =
    (l.number ≡ l.first + l.constraint-index)
    × (l.stmts.items ++ constraint_stmts l.number (drop l.constraint-index l.constraints) ≡ l.initial.stmts.items ++ constraint_stmts l.first l.constraints)
