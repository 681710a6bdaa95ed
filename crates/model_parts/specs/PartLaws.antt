-- What is known of a model with a part of its statements.
use Rattle.std.specs.Prelude.{◌↔◌, ◌≤◌, ℕ, ℤ, List, [], ◌∷◌, IsTrue, IsFalse}
use Rattle.model_meaning.specs.declared.model.Stmt.{Stmt}
use Rattle.model_meaning.specs.declared.model.Model.{Model}
use Rattle.model_meaning.specs.Domains.{in_domains}
use Rattle.model_meaning.specs.Holds.{Holds}
use Rattle.model_meaning.specs.Solutions.{AllHold, IsSolution}
use Rattle.model_meaning.specs.Limits.{InLimits}
use Rattle.model_meaning.specs.WellTyped.{WellTyped}
use Rattle.model_weight.specs.Weight.{weight_of}
use Rattle.model_parts.specs.Only.{is_listed, chosen, only, all_but}
use Rattle.model_parts.specs.CoreWeight.{core_weight}

-- each statement of a part holds
abbrev pub ChosenHold : List ℕ → List ℤ → List Stmt → Type 0
ChosenHold part a [] = Unit {0}
ChosenHold part a (s ∷ ss) = (IsTrue (is_listed s.number part) → Holds a s.what) × ChosenHold part a ss

-- one part has each number of another
abbrev pub IsWithin : List ℕ → List ℕ → Type 0
IsWithin fewer part = (n : ℕ) → IsTrue (is_listed n fewer) → IsTrue (is_listed n part)

-- it is well typed, and in the limits, where the model is
abbrev pub OnlyTyped : Type 0
OnlyTyped = (model : Model) (part : List ℕ) → WellTyped model → WellTyped (only model part)

abbrev pub OnlyInLimits : Type 0
OnlyInLimits = (model : Model) (part : List ℕ) → InLimits model → InLimits (only model part)

-- its solutions are the assignments in the domains for which each statement of the part holds
abbrev pub OnlySolutions : Type 0
OnlySolutions = (model : Model) (part : List ℕ) (a : List ℤ)
    → IsSolution (only model part) a ↔ (IsTrue (in_domains model.decls a) × ChosenHold part a model.stmts)

-- where a part holds, each part of it does
abbrev pub FewerHold : Type 0
FewerHold = (part fewer : List ℕ) (a : List ℤ) (ss : List Stmt)
    → IsWithin fewer part → ChosenHold part a ss → ChosenHold fewer a ss

-- where all of its statements but one hold, each part of it that lacks this one does
abbrev pub OthersHold : Type 0
OthersHold = (part fewer : List ℕ) (n : ℕ) (a : List ℤ) (ss : List Stmt)
    → IsWithin fewer part → IsFalse (is_listed n fewer)
    → AllHold a (all_but n (chosen part ss)) → ChosenHold fewer a ss

-- it weighs at most as much as any part may
abbrev pub ChosenWeight : Type 0
ChosenWeight = (model : Model) (part : List ℕ) → WellTyped model
    → weight_of (only model part) ≤ core_weight model
