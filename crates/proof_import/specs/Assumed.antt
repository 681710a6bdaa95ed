-- A CNF with a literal that is assumed, and what is derived then.
use Rattle.std.specs.Prelude.{◌≡◌, ◌⊎◌, ◌+◌, List, [], ◌∷◌, ◌++◌, Option, None, Some, Ok}
use Rattle.std.specs.Prelude.{true}
use Rattle.order_ints.specs.declared.literal.Lit.{Lit}
use Rattle.order_ints.specs.declared.cnf.Cnf.{Cnf}
use Rattle.order_ints.specs.Place.{LitBelow}
use Rattle.order_ints.specs.Truth.{not_lit}
use Rattle.proof_check.specs.declared.line.ProofLine.{ProofLine}
use Rattle.proof_check.specs.declared.line.ProofLine.TheVariants.{Add, Delete}
use Rattle.proof_check.specs.Lrat.{Proof, proof_of, take_lines}
use Rattle.proof_check.specs.Known.{known}
use Rattle.proof_check.specs.Lines.{Each}

-- the clause that an assumed literal is
abbrev pub assumed_clauses : Option Lit → List (List Lit)
assumed_clauses None = []
assumed_clauses (Some l) = (l ∷ []) ∷ []

-- the CNF with an assumed literal
abbrev pub with_assumed : Cnf → Option Lit → Cnf
with_assumed cnf assumed = record { vars = cnf.vars; clauses = cnf.clauses ++ assumed_clauses assumed }

-- an assumed literal is one of the CNF's variables
abbrev pub IsAssumable : Cnf → Option Lit → Type 0
IsAssumable cnf None = Unit {0}
IsAssumable cnf (Some l) = LitBelow (cnf.vars + 1) l

-- the empty clause is known, or the negation of the assumed literal
abbrev pub IsRefuted : Proof → Option Lit → Type 0
IsRefuted p None = known p [] ≡ true
IsRefuted p (Some l) = (known p [] ≡ true) ⊎ (known p (not_lit l ∷ []) ≡ true)

-- a line adds a clause
abbrev pub IsAddition : ProofLine → Type 0
IsAddition (Add id lits hints) = Unit {0}
IsAddition (Delete at ids) = ⊥

-- lines that only add clauses lead a proof, without a fault, to one that refutes the assumed literal, or the CNF itself
pub record LeadOn (start : Proof) (assumed : Option Lit) (lines : List ProofLine) : Type 0 where
  pub behind : Proof
  pub taken : take_lines start lines ≡ Ok behind
  pub refuted : IsRefuted behind assumed
  pub additions : Each IsAddition lines

-- the lines are such a proof from the CNF, and none where the CNF holds the empty clause
pub record IsDerived (cnf : Cnf) (assumed : Option Lit) (lines : List ProofLine) : Type 0 where
  pub behind : Proof
  pub taken : take_lines (proof_of cnf) lines ≡ Ok behind
  pub refuted : IsRefuted behind assumed
  pub additions : Each IsAddition lines
  pub empty : known (proof_of cnf) [] ≡ true → lines ≡ []
