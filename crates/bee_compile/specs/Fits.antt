-- The limits of what a model is compiled to.
use Rattle.std.specs.Prelude.{◌+◌, ◌^◌, ◌≤◌}
use Rattle.order_ints.specs.Place.{InRange}
use Rattle.ledger_text.specs.Steps.{LedgerBelow}
use Rattle.name_map.specs.Fits.{ValuesFit}
use Rattle.bee_compile.specs.declared.compiled.Compiled.{Compiled}

-- there are not too many variables, the clauses are over them, and so are what each name stands for and the ledger
pub record CompiledFits (c : Compiled) : Type 0 where
  pub vars : c.cnf.vars ≤ 2 ^ 26
  pub clauses : InRange c.cnf
  pub values : ValuesFit (c.cnf.vars + 1) c.decls c.map.entries
  pub ledger : LedgerBelow (c.cnf.vars + 1) c.ledger
