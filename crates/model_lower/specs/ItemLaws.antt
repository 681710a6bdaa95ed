-- What one more item makes of the assignments that cores and a map of names stand for.
use Rattle.std.specs.Prelude.{◌≡◌, ◌↔◌, ◌+◌, ◌≤◌, ℤ, pos, List, [], ◌∷◌, ◌++◌, length}
use Rattle.std.specs.Prelude.{IsTrue}
use Rattle.order_ints.specs.Truth.{Valuation, Agree}
use Rattle.order_ints.specs.Numbers.{numbers_of}
use Rattle.order_ints.specs.Represents.{Represents}
use Rattle.core_forms.specs.Cores.{MeetsAll, CoresBelow, AreWellFormed}
use Rattle.model_meaning.specs.declared.what.BoolTerm.{BoolTerm}
use Rattle.model_meaning.specs.declared.what.IntTerm.TheVariants.{Of}
use Rattle.model_meaning.specs.declared.what.What.{What}
use Rattle.model_meaning.specs.declared.what.What.TheVariants.{BoolToInt}
use Rattle.model_meaning.specs.declared.model.Kind.{Kind}
use Rattle.model_meaning.specs.declared.model.Kind.TheVariants.{Range}
use Rattle.model_meaning.specs.declared.model.Decl.{Decl}
use Rattle.model_meaning.specs.declared.model.Stmt.{Stmt}
use Rattle.model_meaning.specs.declared.model.Model.{Model}
use Rattle.model_meaning.specs.Integers.{is_member}
use Rattle.model_meaning.specs.Domains.{domain}
use Rattle.model_meaning.specs.Holds.{Holds}
use Rattle.model_meaning.specs.Limits.{KindInLimit, WhatInLimit, InLimits}
use Rattle.model_meaning.specs.WellTyped.{TruthFits, KindFits, WhatFits, WellTyped}
use Rattle.model_meaning.specs.Solutions.{IsSolution}
use Rattle.model_weight.specs.Weight.{weight_of}
use Rattle.name_map.specs.Fits.{EntriesFit}
use Rattle.statement_lower.specs.Entries.{AreOrdered}
use Rattle.model_lower.specs.declared.state.Lowered.{Lowered}
use Rattle.model_lower.specs.Lowering.{with_declaration, with_statement, with_definition, lowered_of}
use Rattle.model_lower.specs.Weighed.{most_weight}
use Rattle.model_lower.specs.Decoded.{IsDecoded}
use Rattle.model_lower.specs.Fits.{Fits}

-- what is lowered so far has one entry for each declaration so far, and well formed cores over the variables so far,
-- which keep the integers of its map ordered
pub record Encodes (l : Lowered) (decls : List Decl) : Type 0 where
  pub entries : EntriesFit (l.vars + 1) decls l.map.entries
  pub below : CoresBelow (l.vars + 1) l.cores
  pub well_formed : AreWellFormed l.cores
  pub ordered : (σ : Valuation) → MeetsAll σ l.cores → AreOrdered σ l.map.entries

-- a declaration adds a value of its domain, and it may be each of them
pub record TakesEachValue (l m : Lowered) (k : Kind) : Type 0 where
  pub some : (σ : Valuation) → MeetsAll σ m.cores
      → MeetsAll σ l.cores
      × ((v : ℤ) × IsTrue (is_member v (domain k))
      × (numbers_of σ m.map.entries ≡ numbers_of σ l.map.entries ++ v ∷ []))
  pub each : (σ : Valuation) (v : ℤ) → MeetsAll σ l.cores → IsTrue (is_member v (domain k))
      → (τ : Valuation) × Agree (l.vars + 1) σ τ × MeetsAll τ m.cores
      × (numbers_of τ m.map.entries ≡ numbers_of σ l.map.entries ++ v ∷ [])

-- a definition adds the one value for which its statement holds, and changes nothing else
pub record TakesItsValue (l m : Lowered) (k : Kind) (w : What) : Type 0 where
  pub cores : m.cores ≡ l.cores
  pub value : (σ : Valuation) → (v : ℤ) × IsTrue (is_member v (domain k))
      × (numbers_of σ m.map.entries ≡ numbers_of σ l.map.entries ++ v ∷ [])
      × ((z : ℤ) → Holds (numbers_of σ l.map.entries ++ z ∷ []) w ↔ (z ≡ v))

-- a statement is a `bool2int` of a Boolean that is declared before it, and of the name that it declares itself behind
-- these declarations, with the domain 0 to 1
pub record IsDefinition (decls : List Decl) (d : Decl) (s : Stmt) : Type 0 where
  pub truth : BoolTerm
  pub truth_fits : TruthFits decls d.number truth
  pub what : s.what ≡ BoolToInt truth (Of (length decls))
  pub kind : d.kind ≡ Range (pos 0) (pos 1)

-- a declaration
abbrev pub DeclarationLaw : Type 0
DeclarationLaw = (l : Lowered) (decls : List Decl) (d : Decl)
    → Encodes l decls → KindFits d.kind → KindInLimit d.kind
    → Encodes (with_declaration l d.kind) (decls ++ d ∷ []) × TakesEachValue l (with_declaration l d.kind) d.kind

-- a statement: together with the cores so far its cores stand for its being true of the numbers that the names have
abbrev pub StatementLaw : Type 0
StatementLaw = (l : Lowered) (decls : List Decl) (s : Stmt)
    → Encodes l decls → WhatFits decls s.number s.what → WhatInLimit s.what
    → Encodes (with_statement l s.what) decls
    × Represents (l.vars + 1) ((with_statement l s.what).vars + 1) (λ σ. MeetsAll σ (with_statement l s.what).cores)
    (λ σ. MeetsAll σ l.cores × Holds (numbers_of σ l.map.entries) s.what)

-- a `bool2int` that declares its integer
abbrev pub DefinitionLaw : Type 0
DefinitionLaw = (l : Lowered) (decls : List Decl) (d : Decl) (s : Stmt)
    → Encodes l decls → IsDefinition decls d s
    → Encodes (with_definition l s.what) (decls ++ d ∷ [])
    × TakesItsValue l (with_definition l s.what) d.kind s.what

-- a model that is well typed, in the limits, and no heavier than may be: the solutions are the assignments that are
-- decoded, and the cores keep the integers of the names ordered
pub record LoweringLaw (model : Model) : Type 0 where
  pub solutions : (a : List ℤ) → IsSolution model a ↔ IsDecoded (lowered_of model) a
  pub fits : Fits (lowered_of model) model.decls
  pub ordered : (σ : Valuation) → MeetsAll σ (lowered_of model).cores
      → AreOrdered σ (lowered_of model).map.entries

abbrev pub LoweringLaws : Type 0
LoweringLaws = (model : Model) → WellTyped model → InLimits model → weight_of model ≤ most_weight
    → LoweringLaw model
