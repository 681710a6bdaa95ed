-- Known clauses: those of the CNF, and those that were ever added.
use Rattle.std.specs.Prelude.{Bool, ◌&&◌, List, ◌++◌}
use Rattle.std.specs.List.{list_any}
use Rattle.order_ints.specs.declared.literal.Lit.{Lit}
use Rattle.proof_check.specs.Named.{literals_of}
use Rattle.proof_check.specs.Lrat.{Proof}
use Rattle.proof_check.specs.New.{lies_within}

-- whether two clauses have the same literals, in any order
abbrev pub same_literals : List Lit → List Lit → Bool
same_literals c d = lies_within c d && lies_within d c

-- the clauses of the CNF, and those that were ever added
abbrev pub all_clauses : Proof → List (List Lit)
all_clauses p = p.cnf.clauses ++ literals_of p.added

-- whether one of them has exactly these literals
abbrev pub known : Proof → List Lit → Bool
known p lits = list_any (same_literals lits) (all_clauses p)
