-- What a search finds, and how many clauses it may need.
use Rattle.std.specs.Prelude.{◌≡◌, ◌⊎◌, ℕ, ◌+◌, ◌*◌, ◌^◌, Bool, true, false, Option, None}
use Rattle.std.specs.Prelude.{Some, List, [], ◌∷◌, length, if◌then◌else◌}
use Rattle.order_ints.specs.declared.literal.Lit.{Lit}
use Rattle.order_ints.specs.declared.cnf.Cnf.{Cnf}
use Rattle.order_ints.specs.Truth.{Valuation, valuation_of, lit_truth, not_lit}
use Rattle.order_ints.specs.Satisfies.{Satisfies}
use Rattle.proof_check.specs.declared.line.ProofLine.{ProofLine}
use Rattle.proof_check.specs.Named.{clause_at}
use Rattle.proof_check.specs.Known.{known}
use Rattle.learning_solver.specs.declared.found.Found.{Found}
use Rattle.learning_solver.specs.declared.found.Found.TheVariants.{Sat, Refuted, Spent}
use Rattle.learning_solver.specs.Log.{proof_behind, all_named}

-- the assumption is true, where there is one
abbrev pub Holds : Valuation → Option Lit → Type 0
Holds σ None = Unit {0}
Holds σ (Some a) = lit_truth σ a ≡ true

-- truth values of all variables that satisfy the CNF and the assumption
pub record IsSolution (cnf : Cnf) (assumption : Option Lit) (values : List Bool) : Type 0 where
  pub count : length values ≡ cnf.vars
  pub satisfies : Satisfies (valuation_of values) cnf
  pub holds : Holds (valuation_of values) assumption

-- a clause that is empty, or the negated assumption alone
abbrev pub Refutes : Option Lit → List Lit → Type 0
Refutes None lits = lits ≡ []
Refutes (Some a) lits = (lits ≡ []) ⊎ (lits ≡ not_lit a ∷ [])

-- the id of such a clause of the CNF or of the log
pub record IsRefutation (cnf : Cnf) (log : List ProofLine) (assumption : Option Lit) (id : ℕ) : Type 0 where
  pub lits : List Lit
  pub stands : clause_at (all_named (proof_behind cnf log)) id ≡ Some lits
  pub refutes : Refutes assumption lits

-- no clause of the CNF or of the log refutes: neither the empty one nor the negated assumption alone is known
abbrev pub NoneRefutes : Cnf → List ProofLine → Option Lit → Type 0
NoneRefutes cnf log assumption = (lits : List Lit) → Refutes assumption lits
    → known (proof_behind cnf log) lits ≡ false

-- a number of clauses that a search over so many variables never exceeds, with restarts and without
abbrev pub most_learned : Bool → ℕ → ℕ
most_learned restart vars = if restart then (vars + 1) * 2 ^ vars else 2 ^ vars

-- what contracts see of a solver: its CNF and its log
pub record Logged : Type 0 where
  pub cnf : Cnf
  pub log : List ProofLine

-- what an answer says
abbrev pub Answers : Logged → Option Lit → Found → Type 0
Answers s assumption (Sat values) = IsSolution s.cnf assumption values
Answers s assumption (Refuted id) = IsRefutation s.cnf s.log assumption id
Answers s assumption Spent = NoneRefutes s.cnf s.log assumption
