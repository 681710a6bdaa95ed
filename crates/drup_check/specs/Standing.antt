-- How two tiers of clauses stand for a list: those that are watched, and those that were deleted.
use Rattle.std.specs.Prelude.{◌≡◌, ◌⊎◌, ◌+◌, Bool, true, false, List, [], Contains}
use Rattle.order_ints.specs.declared.literal.Lit.{Lit}
use Rattle.order_ints.specs.Place.{LitBelow}
use Rattle.clause_rings.specs.Clauses.{IsComplete}
use Rattle.drup_check.specs.Rup.{Rup}
use Rattle.drup_check.specs.Stored.{IsHeld, IsListed, AreListed}
use Rattle.drup_check.specs.declared.tiers.Tiers.{Tiers}
use Rattle.drup_check.specs.declared.tiers.Trial.{Trial}
use Rattle.drup_check.specs.declared.tiers.Trial.TheVariants.{Shown, Missing, Refuted}

-- The listed clauses are those that are watched and those that were deleted, but for those with a literal and its
-- negation, which may be left out. At level 0 no watched clause is false or unit.
pub record Stands (s : Tiers) (cs : List (List Lit)) : Type 0 where
  pub held : (d : List Lit) → Contains cs d → IsHeld s.db.clauses d ⊎ IsListed s.gone.items d
  pub listed : AreListed s.db.clauses cs
  pub gone : (g : List Lit) → Contains s.gone.items g → IsListed cs g
  pub in_range : (g : List Lit) → Contains s.gone.items g → (l : Lit) → Contains g l
      → LitBelow (s.db.trail.vars + 1) l
  pub bottom : s.db.trail.level ≡ 0
  pub complete : IsComplete s.db.trail.entries s.db.clauses

-- listed clauses show the empty one, or these are they
abbrev pub StandsAs : Bool → Tiers → List (List Lit) → Type 0
StandsAs true s cs = Rup cs []
StandsAs false s cs = Stands s cs

-- the same, and no clause is deleted any more
abbrev pub IsBroughtBack : Bool → Tiers → List (List Lit) → Type 0
IsBroughtBack true s cs = Rup cs []
IsBroughtBack false s cs = Stands s cs × (s.gone.items ≡ [])

-- what a trial says of a clause
abbrev pub IsTried : Trial → Tiers → List (List Lit) → List Lit → Type 0
IsTried Shown s cs lits = Rup cs lits × Stands s cs
IsTried Missing s cs lits = Rup cs lits → ⊥
IsTried Refuted s cs lits = Rup cs []
