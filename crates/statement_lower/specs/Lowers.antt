-- When cores over fresh variables stand for a property, and that the cores of a statement stand for its being true.
use Rattle.std.specs.Prelude.{ℕ, ◌+◌, ◌≤◌, List}
use Rattle.order_ints.specs.declared.order_int.MapValue.{MapValue}
use Rattle.order_ints.specs.Truth.{Valuation, Agree}
use Rattle.order_ints.specs.Numbers.{numbers_of}
use Rattle.core_forms.specs.declared.form.Core.{Core}
use Rattle.core_forms.specs.Cores.{MeetsAll, CoresBelow, AreWellFormed}
use Rattle.model_meaning.specs.declared.model.Decl.{Decl}
use Rattle.model_meaning.specs.declared.what.What.{What}
use Rattle.model_meaning.specs.Holds.{Holds}
use Rattle.model_meaning.specs.Limits.{WhatInLimit}
use Rattle.model_meaning.specs.WellTyped.{WhatFits}
use Rattle.name_map.specs.Fits.{EntriesFit}
use Rattle.statement_lower.specs.Entries.{AreOrdered}
use Rattle.statement_lower.specs.Lines.{made_of}

-- Cores over m variables, of which those beyond `vars` are fresh, stand for a property of the others, where C holds:
-- each valuation that meets them has it, and each one that has it can be changed at the fresh variables so that it
-- meets them.
pub record Lowers (vars m : ℕ) (C : Valuation → Type 0) (cores : List Core) (P : Valuation → Type 0)
    : Type 0 where
  pub more : vars ≤ m
  pub below : CoresBelow (m + 1) cores
  pub well_formed : AreWellFormed cores
  pub implies : (σ : Valuation) → C σ → MeetsAll σ cores → P σ
  pub extends : (σ : Valuation) → C σ → P σ → (τ : Valuation) × Agree (vars + 1) σ τ × MeetsAll τ cores

-- where the integers of the declared names are ordered, the cores of a statement stand for its being true of the
-- numbers that the names have
abbrev pub LineLaw : Type 0
LineLaw =
    (vars n : ℕ) (ds : List Decl) (entries : List MapValue) (w : What)
    → EntriesFit (vars + 1) ds entries → WhatFits ds n w → WhatInLimit w
    → Lowers vars (made_of vars entries w).vars (λ σ. AreOrdered σ entries) (made_of vars entries w).cores
    (λ σ. Holds (numbers_of σ entries) w)

-- a statement keeps the variables so far
abbrev pub VariablesLaw : Type 0
VariablesLaw = (vars : ℕ) (entries : List MapValue) (w : What) → vars ≤ (made_of vars entries w).vars
