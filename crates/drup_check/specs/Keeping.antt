-- What comes of a clause that is added to a store.
use Rattle.std.specs.Prelude.{◌≡◌, Bool, true, false, List, []}
use Rattle.order_ints.specs.declared.literal.Lit.{Lit}
use Rattle.clause_rings.specs.Clauses.{ClauseLists, IsComplete}
use Rattle.drup_check.specs.Rup.{Rup}
use Rattle.drup_check.specs.Stored.{SameSet, IsHeld, IsListed, AreListed}
use Rattle.drup_check.specs.declared.keeping.Kept.{Kept}
use Rattle.drup_check.specs.declared.keeping.Kept.TheVariants.{Idle, Stored, Refutes}

-- A store takes a clause in: it holds what it held, and the clause; any list that has its clauses, and the new one, has
-- those behind it; and at level 0 no clause is false or unit.
pub record TakesIn (old new : ClauseLists) (lits : List Lit) : Type 0 where
  pub stays : (d : List Lit) → IsHeld old.clauses d → IsHeld new.clauses d
  pub comes : (d : List Lit) → SameSet lits d → IsHeld new.clauses d
  pub listed : (cs : List (List Lit)) → AreListed old.clauses cs → IsListed cs lits → AreListed new.clauses cs
  pub bottom : new.trail.level ≡ 0
  pub complete : IsComplete new.trail.entries new.clauses

-- the clauses of the store and a new one show the empty one, or the store takes it in
abbrev pub IsTakenIn : Bool → ClauseLists → ClauseLists → List Lit → Type 0
IsTakenIn true old new lits = (cs : List (List Lit)) → AreListed old.clauses cs → IsListed cs lits → Rup cs []
IsTakenIn false old new lits = TakesIn old new lits

-- the same, by what is told of the clause
abbrev pub IsKept : Kept → ClauseLists → ClauseLists → List Lit → Type 0
IsKept Idle = IsTakenIn false
IsKept (Stored _) = IsTakenIn false
IsKept (Refutes _) = IsTakenIn true
