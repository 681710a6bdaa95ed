-- What a learned clause is, and what its hints are: resolved literals with their reasons, in an order in which each
-- reason is unit when its turn comes.
use Rattle.std.specs.Prelude.{◌≡◌, ◌⊎◌, ℕ, ◌<◌, ◌≤◌, false, List, [], ◌∷◌, ◌++◌, map}
use Rattle.std.specs.Prelude.{Some}
use Rattle.std.specs.List.{Contains}
use Rattle.order_ints.specs.declared.literal.Lit.{Lit}
use Rattle.order_ints.specs.Truth.{not_lit}
use Rattle.literal_trail.specs.declared.entry.Entry.{Entry}
use Rattle.literal_trail.specs.Trail.{Trail, entry_of, truth_in, level_in}
use Rattle.literal_trail.specs.Standing.{IsFalse}
use Rattle.proof_check.specs.Named.{Named}
use Rattle.proof_check.specs.Values.{has_var, VarsDiffer}

-- a literal that is resolved, with the clause that made it true
pub record Step : Type 0 where
  pub lit : Lit
  pub reason : Named

-- the clause has the literal, and each of its other literals is known to be false
pub record Leads (known : Lit → Type 0) (s : Step) : Type 0 where
  pub has : Contains s.reason.lits s.lit
  pub others : (l : Lit) → Contains s.reason.lits l → (l ≡ s.lit) ⊎ known l

-- from literals that are known to be false each reason in its turn gives its literal, and then all literals of the
-- conflict are false
abbrev pub Derives : (Lit → Type 0) → List Step → List Lit → Type 0
Derives known [] conflict = (l : Lit) → Contains conflict l → known l
Derives known (s ∷ steps) conflict = Leads known s × Derives (λ l. known l ⊎ (l ≡ not_lit s.lit)) steps conflict

-- the literals of steps
abbrev pub step_lits : List Step → List Lit
step_lits steps = map (λ s. s.lit) steps

-- the ids of the reasons, the conflict last
abbrev pub hints_of : List Step → Named → List ℕ
hints_of steps conflict = map (λ s. s.reason.id) steps ++ conflict.id ∷ []

-- the literal is true on the trail, by this reason
pub record IsStep (entries : List Entry) (named : ℕ → Named) (s : Step) : Type 0 where
  pub entry : Entry
  pub found : entry_of entries s.lit.var ≡ Some entry
  pub same : entry.lit ≡ s.lit
  pub reference : ℕ
  pub because : entry.reason ≡ Some reference
  pub names : named reference ≡ s.reason

-- a clause that follows from the conflict and from the reasons of resolved literals, none of whose variables it has
pub record IsLearned (entries : List Entry) (named : ℕ
    → Named) (conflict : Named) (steps : List Step) (learned : List Lit) : Type 0 where
  pub of_trail : (s : Step) → Contains steps s → IsStep entries named s
  pub derives : Derives (Contains learned) steps conflict.lits
  pub differ : VarsDiffer learned
  pub steps_differ : VarsDiffer (step_lits steps)
  pub apart : (s : Step) → Contains steps s → has_var s.lit.var learned ≡ false

-- the literal is false by an entry of a level
pub record IsFalseAt (entries : List Entry) (level : ℕ) (l : Lit) : Type 0 where
  pub is_false : truth_in entries l ≡ Some false
  pub of_level : level_in entries l.var ≡ Some level

-- the literal is false by an entry above level 0 and up to a level
pub record IsFalseUpTo (entries : List Entry) (high : ℕ) (l : Lit) : Type 0 where
  pub level : ℕ
  pub at : IsFalseAt entries level l
  pub above : 1 ≤ level
  pub up_to : level ≤ high

-- the greatest level of the literals behind the first is that of the second; 0 where there is none
abbrev pub IsSecond : List Entry → ℕ → List Lit → Type 0
IsSecond entries jump [] = jump ≡ 0
IsSecond entries jump (l ∷ others) = IsFalseAt entries jump l

-- what a learned clause keeps: first a literal of the current level, then literals of levels between it and 0, one of
-- the greatest first
pub record AreKept (entries : List Entry) (current : ℕ) (first : Lit) (others : List Lit) (jump : ℕ) : Type 0 where
  pub now : IsFalseAt entries current first
  pub lower : (l : Lit) → Contains others l → IsFalseUpTo entries jump l
  pub second : IsSecond entries jump others
  pub below : jump < current

-- a clause that is false, one of whose literals is of the current level
pub record IsConflict (t : Trail) (lits : List Lit) : Type 0 where
  pub is_false : IsFalse t.entries lits
  pub here : Lit
  pub has : Contains lits here
  pub now : level_in t.entries here.var ≡ Some t.level
