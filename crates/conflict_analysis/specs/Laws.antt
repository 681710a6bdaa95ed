-- Laws of learned clauses, about definitions alone.
use Rattle.std.specs.Prelude.{◌≡◌, ◌≢◌, ◌⊎◌, ℕ, ◌+◌, ◌-◌, ◌<◌, pos, false, List, []}
use Rattle.std.specs.Prelude.{◌∷◌, length, map, Some, None}
use Rattle.std.specs.List.{Contains}
use Rattle.order_ints.specs.declared.literal.Lit.{Lit}
use Rattle.order_ints.specs.Truth.{not_lit}
use Rattle.order_ints.specs.Place.{LitBelow}
use Rattle.literal_trail.specs.declared.entry.Entry.{Entry}
use Rattle.literal_trail.specs.Trail.{Trail, IsTrail, up_to}
use Rattle.literal_trail.specs.Standing.{IsFalse, IsUnit, IsQuiet}
use Rattle.proof_check.specs.Named.{Named, Lives, clause_at}
use Rattle.proof_check.specs.Values.{has_var, VarsDiffer}
use Rattle.proof_check.specs.Faults.{hints_fault, against}
use Rattle.proof_check.specs.New.{New}
use Rattle.conflict_analysis.specs.Seeking.{lit_in}
use Rattle.conflict_analysis.specs.Learned.{Step, Leads, IsStep, IsLearned, AreKept, IsConflict, hints_of}

-- no variable stands at two places
abbrev pub AreApart : List Lit → Type 0
AreApart lits = (i j : ℕ) → i < length lits → j < length lits → (lit_in lits i).var ≡ (lit_in lits j).var
    → i ≡ j

-- under the clause's id lives one of the same literals, in any order and each variable once
pub record LivesAs (live : List Named) (n : Named) : Type 0 where
  pub lits : List Lit
  pub lives : clause_at live n.id ≡ Some lits
  pub here : (l : Lit) → Contains lits l → Contains n.lits l
  pub there : (l : Lit) → Contains n.lits l → Contains lits l
  pub apart : AreApart lits

-- a learned clause is accepted with its hints, where the reasons and the conflict live
abbrev pub LearnedAccepted : Type 0
LearnedAccepted = (live : List Named) (entries : List Entry) (named : ℕ
    → Named) (conflict : Named) (steps : List Step) (learned : List Lit)
    → IsLearned entries named conflict steps learned
    → LivesAs live conflict → ((s : Step) → Contains steps s → LivesAs live s.reason)
    → hints_fault live (against learned) (map pos (hints_of steps conflict)) 1 ≡ None

-- it is new, where no live clause is false or unit at the end of the level below the current one
abbrev pub LearnedNew : Type 0
LearnedNew = (live : List Named) (t : Trail) (first : Lit) (others : List Lit) (jump : ℕ) → IsTrail t
    → AreKept t.entries t.level first others jump
    → ((d : Named) → Lives live d → IsQuiet (up_to (t.level - 1) t.entries) d.lits)
    → New live (first ∷ others)

-- it is false on the trail
abbrev pub LearnedFalse : Type 0
LearnedFalse = (t : Trail) (first : Lit) (others : List Lit) (jump : ℕ)
    → AreKept t.entries t.level first others jump → IsFalse t.entries (first ∷ others)

-- and unit for its first literal after the jump
abbrev pub LearnedUnit : Type 0
LearnedUnit = (t : Trail) (first : Lit) (others : List Lit) (jump : ℕ) → IsTrail t
    → AreKept t.entries t.level first others jump → IsUnit (up_to jump t.entries) (first ∷ others) first

-- its variables are in range
abbrev pub LearnedInRange : Type 0
LearnedInRange = (t : Trail) (first : Lit) (others : List Lit) (jump : ℕ) → IsTrail t
    → AreKept t.entries t.level first others jump → (l : Lit) → Contains (first ∷ others) l
    → LitBelow (t.vars + 1) l

-- a literal of it may be resolved further, where the other literals of the reason of its negation are kept
abbrev pub MayResolve : Type 0
MayResolve = (entries : List Entry) (named : ℕ →
    Named) (conflict : Named) (steps : List Step) (learned shorter : List Lit) (s : Step)
    → IsLearned entries named conflict steps learned
    → IsStep entries named s → Leads (Contains shorter) s → Contains learned (not_lit s.lit)
    → ((l : Lit) → Contains learned l → Contains shorter l ⊎ (l ≡ not_lit s.lit))
    → ((l : Lit) → Contains shorter l → Contains learned l) → VarsDiffer shorter
    → has_var s.lit.var shorter ≡ false → IsLearned entries named conflict (s ∷ steps) shorter

-- a clause that is false on the trail, and wasn't at the end of the level below, has a literal of the current level
abbrev pub ConflictIsHere : Type 0
ConflictIsHere = (t : Trail) (lits : List Lit) → IsTrail t → 0 < t.level → IsFalse t.entries lits
    → IsQuiet (up_to (t.level - 1) t.entries) lits → IsConflict t lits

-- the empty clause is new where no live clause is empty
abbrev pub EmptyNew : Type 0
EmptyNew = (live : List Named) → ((d : Named) → Lives live d → d.lits ≢ []) → New live []

-- a clause of one literal is new where neither the empty one nor it lives
abbrev pub UnitNew : Type 0
UnitNew = (live : List Named) (l : Lit) → ((d : Named) → Lives live d → AreApart d.lits)
    → ((d : Named) → Lives live d → (d.lits ≢ []) × (d.lits ≢ l ∷ [])) → New live (l ∷ [])
