-- The compiled text of a model, and that its objective is better than a number.
use Rattle.std.specs.Prelude.{◌≡◌, ◌↔◌, ℕ, ℤ, ◌≤◌, ◌<◌, ◌^◌, true, false, List, [], ◌∷◌, length}
use Rattle.model_meaning.specs.declared.model.Goal.{Goal}
use Rattle.model_meaning.specs.declared.model.Model.{Model}
use Rattle.model_meaning.specs.Solutions.{IsSolution, objective, is_better}
use Rattle.answer_document.specs.Goals.{has_objective}
use Rattle.model_weight.specs.Weight.{weight_of}
use Rattle.model_lower.specs.Weighed.{most_weight}
use Rattle.bee_compile.specs.declared.compiled.Compiled.{Compiled}
use Rattle.bee_compile.specs.Compiled.{IsInstance, IsCompiled}
use Rattle.dimacs_out.specs.CompiledText.{text_of}
use Rattle.dimacs_out.specs.TextSolutions.{StandsFor}
use Rattle.model_texts.specs.ModelTexts.{longest_text, IsModelOf, HasFault as HasModelFault}
use Rattle.compile_mode.specs.Compiled.{written_of}
use Rattle.objective_bound.specs.Bounds.{with_atom, better_than}
use Rattle.text_modes.specs.declared.ends.Outcome.{Outcome}
use Rattle.text_modes.specs.declared.ends.Outcome.TheVariants.{Done, Refused, Unknown}
use Rattle.bound_mode.specs.declared.fault.BoundFault.{BoundFault}
use Rattle.bound_mode.specs.declared.fault.BoundFault.TheVariants.{Model as InModel, NoObjective}

-- what a model is compiled to, and at the end of its clauses that the objective is better than a number
abbrev pub bounded_by : Goal → ℤ → Compiled → Compiled
bounded_by goal m c = record {
  cnf = with_atom c.cnf (better_than goal c.map.entries m);
  decls = c.decls;
  map = c.map;
  cores = c.cores;
  ledger = c.ledger;
}

-- the compiled text of a model, and that its objective is better than a number
pub record IsBoundText (m : ℤ) (model : Model) (written : List ℕ) : Type 0 where
  pub compiled : Compiled
  pub is : IsCompiled IsInstance model compiled
  pub cores : compiled.cores < 2 ^ 64
  pub count : length (bounded_by model.goal m compiled).cnf.clauses < 2 ^ 64
  pub writes : written ≡ text_of (written_of (bounded_by model.goal m compiled))

-- a text says a model that is not too heavy, with an objective
pub record IsBoundable (text : List ℕ) : Type 0 where
  pub model : Model
  pub says : IsModelOf text model
  pub light : weight_of model ≤ most_weight
  pub seeks : has_objective model.goal ≡ true

-- or without one
pub record HasNone (text : List ℕ) : Type 0 where
  pub model : Model
  pub says : IsModelOf text model
  pub light : weight_of model ≤ most_weight
  pub seeks : has_objective model.goal ≡ false

-- what is written for the model that a text says
pub record Bounds (m : ℤ) (text written : List ℕ) : Type 0 where
  pub boundable : IsBoundable text
  pub is : IsBoundText m boundable.model written

-- The text that was read is within the limit and says a model with an objective, and the assignments that the written
-- text stands for are exactly those of its solutions whose objective is better than the number.
pub record IsHeadline (m : ℤ) (text written : List ℕ) : Type 0 where
  pub within : length text ≤ longest_text
  pub bounds : Bounds m text written
  pub solutions : (a : List ℤ) → StandsFor written a ↔ (IsSolution bounds.boundable.model a
      × (is_better bounds.boundable.model.goal (objective bounds.boundable.model.goal a) (m ∷ []) ≡ true))

-- what is written for a text, by its outcome
abbrev pub Gives : ℤ → List ℕ → Outcome → List ℕ → Type 0
Gives m text Done written = IsHeadline m text written
Gives m text (Refused line) written = ⊥
Gives m text (Unknown count) written = ⊥

-- why nothing is written for a text: it has a fault, or it says a model without an objective
abbrev pub HasFault : List ℕ → BoundFault → Type 0
HasFault text (InModel fault) = HasModelFault text fault
HasFault text NoObjective = (length text ≤ longest_text) × HasNone text
