-- When a valuation satisfies a clause, and when a CNF.
use Rattle.std.specs.Prelude.{Bool, true, false, ◌||◌, ◌&&◌, List, [], ◌∷◌, IsTrue}
use Rattle.order_ints.specs.declared.literal.Lit.{Lit}
use Rattle.order_ints.specs.declared.cnf.Cnf.{Cnf}
use Rattle.order_ints.specs.Truth.{Valuation, lit_truth}

-- a clause is true where one of its literals is
abbrev pub clause_truth : Valuation → List Lit → Bool
clause_truth σ [] = false
clause_truth σ (l ∷ ls) = lit_truth σ l || clause_truth σ ls

-- clauses are true together where each of them is
abbrev pub clauses_truth : Valuation → List (List Lit) → Bool
clauses_truth σ [] = true
clauses_truth σ (c ∷ cs) = clause_truth σ c && clauses_truth σ cs

-- a valuation satisfies a CNF where every clause is true under it
abbrev pub Satisfies : Valuation → Cnf → Type 0
Satisfies σ cnf = IsTrue (clauses_truth σ cnf.clauses)
