-- What comes of a line, for the clauses so far and the store that stands for them.
use Rattle.std.specs.Prelude.{◌≡◌, ℕ, Bool, true, false, List}
use Rattle.order_ints.specs.declared.literal.Lit.{Lit}
use Rattle.order_ints.specs.declared.cnf.Cnf.{Cnf}
use Rattle.drup_check.specs.DrupLines.{SpellsClause, Says, NextClauses, DrupFails}
use Rattle.drup_check.specs.Standing.{StandsAs}
use Rattle.drup_check.specs.declared.tiers.Tiers.{Tiers}
use Rattle.drup_check.specs.declared.fault.DrupFault.{DrupFault}
use Rattle.drup_check.specs.declared.fault.DrupFault.TheVariants.{Refused, Memory}

-- whether the words spell a clause
abbrev pub IsSpelled : Bool → ℕ → List (List ℕ) → Type 0
IsSpelled true vars words = (clause : List Lit) × SpellsClause vars words clause
IsSpelled false vars words = (clause : List Lit) → SpellsClause vars words clause → ⊥

-- the words say clauses, and the store stands for them
pub record SaysOn (vars : ℕ) (cs : List (List Lit)) (words : List (List ℕ)) (refuted : Bool) (s : Tiers)
    : Type 0 where
  pub clauses : List (List Lit)
  pub says : Says vars cs words clauses
  pub stands : StandsAs refuted s clauses

-- the line may stand next, and the store stands for the clauses behind it
pub record GoesOn (vars : ℕ) (cs : List (List Lit)) (line : List ℕ) (refuted : Bool) (s : Tiers) : Type 0 where
  pub clauses : List (List Lit)
  pub next : NextClauses vars cs line clauses
  pub stands : StandsAs refuted s clauses

-- the line may not stand next
abbrev pub Misfits : ℕ → List (List Lit) → List ℕ → Type 0
Misfits vars cs line = (after : List (List Lit)) → NextClauses vars cs line after → ⊥

-- a refused line is the first that fails
abbrev pub DrupFaultOf : Cnf → List ℕ → DrupFault → Type 0
DrupFaultOf cnf text (Refused line) = DrupFails cnf text line
DrupFaultOf cnf text Memory = Unit {0}

-- Whether a fault names this line. Want of memory is no answer.
abbrev pub IsRefusalAt : ℕ → DrupFault → Type 0
IsRefusalAt line (Refused n) = n ≡ line
IsRefusalAt line Memory = Unit {0}
