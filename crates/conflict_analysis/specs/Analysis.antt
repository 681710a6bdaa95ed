-- What an analysis finds.
use Rattle.std.specs.Prelude.{◌≡◌, ℕ, ◌≤◌, List, ◌∷◌, Some}
use Rattle.std.specs.List.{All, Contains}
use Rattle.order_ints.specs.declared.literal.Lit.{Lit}
use Rattle.literal_trail.specs.declared.entry.Entry.{Entry}
use Rattle.literal_trail.specs.Trail.{Trail, entry_of}
use Rattle.proof_check.specs.Named.{Named}
use Rattle.conflict_analysis.specs.Learned.{Step, IsLearned, AreKept, IsFalseAt, hints_of}

-- the clause and its hints, the level to jump back to, how many levels the clause has, and the variables that were
-- seen; `vars` is the number of variables that there is room for
pub record Analysis : Type 0 where
  pub vars : ℕ
  pub lits : List Lit
  pub hints : List ℕ
  pub jump : ℕ
  pub glue : ℕ
  pub seen : List ℕ

-- a clause is learned at a conflict
pub record IsAnalysed (t : Trail) (named : ℕ → Named) (conflict : Named) (found : Analysis) : Type 0 where
  pub steps : List Step
  pub learned : IsLearned t.entries named conflict steps found.lits
  pub told : found.hints ≡ hints_of steps conflict
  pub first : Lit
  pub others : List Lit
  pub shape : found.lits ≡ first ∷ others
  pub kept : AreKept t.entries t.level first others found.jump
  pub seen_vars : All (λ v. v ≤ t.vars) found.seen

-- each literal is false at level 0
abbrev pub IsFalseAtBottom : List Entry → List Lit → Type 0
IsFalseAtBottom entries lits = (l : Lit) → Contains lits l → IsFalseAt entries 0 l

-- a clause of no literal, or of one that level 0 has, is refuted by hints that resolve everything else
pub record IsRefuted (t : Trail) (named : ℕ → Named) (conflict : Named) (lits : List Lit) (found : Analysis)
    : Type 0 where
  pub steps : List Step
  pub learned : IsLearned t.entries named conflict steps lits
  pub told : found.hints ≡ hints_of steps conflict
  pub same : found.lits ≡ lits

-- a variable's literal is true at level 0, by a clause
pub record IsForced (entries : List Entry) (v : ℕ) (e : Entry) (c : ℕ) : Type 0 where
  pub found : entry_of entries v ≡ Some e
  pub bottom : e.level ≡ 0
  pub because : e.reason ≡ Some c
