-- What clauses that are shown are like.
use Rattle.std.specs.Prelude.{ℕ, List, [], IsTrue, Contains}
use Rattle.order_ints.specs.declared.literal.Lit.{Lit}
use Rattle.order_ints.specs.declared.cnf.Cnf.{Cnf}
use Rattle.order_ints.specs.Truth.{Valuation}
use Rattle.order_ints.specs.Satisfies.{clause_truth, clauses_truth}
use Rattle.sat_front.specs.CnfLines.{IsCnfText}
use Rattle.drup_check.specs.Rup.{Rup}
use Rattle.drup_check.specs.DrupLines.{IsDrup}

-- a clause that clauses show is true where they are
abbrev pub ShownIsImplied : Type 0
ShownIsImplied = (cs : List (List Lit)) (c : List Lit) → Rup cs c → (σ : Valuation)
    → IsTrue (clauses_truth σ cs) → IsTrue (clause_truth σ c)

-- so where they show the empty clause, no valuation makes them true
abbrev pub NoneWhereEmptyIsShown : Type 0
NoneWhereEmptyIsShown = (cs : List (List Lit)) → Rup cs [] → (σ : Valuation) → IsTrue (clauses_truth σ cs)
    → ⊥

-- what some clauses show, more clauses show, also of a clause with more literals
abbrev pub ShownByMore : Type 0
ShownByMore = (cs ds : List (List Lit)) (c d : List Lit) → ((x : List Lit) → Contains cs x → Contains ds x)
    → ((l : Lit) → Contains c l → Contains d l) → Rup cs c → Rup ds d

-- no valuation makes the clauses of a CNF true from which there is a proof
abbrev pub NoneWhereProved : Type 0
NoneWhereProved = (cnf : Cnf) (text : List ℕ) → IsDrup cnf text → (σ : Valuation)
    → IsTrue (clauses_truth σ cnf.clauses) → ⊥

-- nor the clauses that a text lists, whose CNF in order it is
abbrev pub NoneOfTextWhereProved : Type 0
NoneOfTextWhereProved = (listed text : List ℕ) (cnf : Cnf) (is : IsCnfText listed cnf) → IsDrup cnf text
    → (σ : Valuation) → IsTrue (clauses_truth σ is.draft.listed.clauses) → ⊥
