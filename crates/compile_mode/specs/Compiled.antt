-- The compiled text of the model that a text says.
use Rattle.std.specs.Prelude.{◌≡◌, ◌↔◌, ℕ, ℤ, ◌≤◌, ◌<◌, ◌^◌, List, [], ◌∷◌, length}
use Rattle.order_ints.specs.declared.order_int.MapValue.{MapValue}
use Rattle.model_meaning.specs.declared.model.Decl.{Decl}
use Rattle.model_meaning.specs.declared.model.Model.{Model}
use Rattle.model_weight.specs.Weight.{weight_of}
use Rattle.model_lower.specs.Weighed.{most_weight}
use Rattle.bee_compile.specs.declared.compiled.Compiled.{Compiled}
use Rattle.bee_compile.specs.Compiled.{IsInstance, IsCompiled}
use Rattle.name_map.specs.declared.entries.MapEntry.{MapEntry}
use Rattle.dimacs_out.specs.declared.text.CnfText.{CnfText}
use Rattle.dimacs_out.specs.CompiledText.{text_of}
use Rattle.dimacs_out.specs.TextSolutions.{StandsFor}
use Rattle.model_meaning.specs.Solutions.{IsSolution}
use Rattle.model_texts.specs.ModelTexts.{longest_text, IsModelOf}
use Rattle.text_modes.specs.declared.ends.Outcome.{Outcome}
use Rattle.text_modes.specs.declared.ends.Outcome.TheVariants.{Done, Refused, Unknown}

-- each declared name with what it stands for
abbrev pub entries_of : List Decl → List MapValue → List MapEntry
entries_of [] values = []
entries_of (d ∷ decls) [] = []
entries_of (d ∷ decls) (v ∷ values) = record { name = d.name; value = v } ∷ entries_of decls values

-- what is written of what a model is compiled to
abbrev pub written_of : Compiled → CnfText
written_of c = record { entries = entries_of c.decls c.map.entries; ledger = c.ledger; cnf = c.cnf }

-- the compiled text of a model: of names as the last store has them, of a ledger that leads through a whole compilation
-- from the lowered model to a last state, and of the CNF of that
pub record IsCompiledText (model : Model) (written : List ℕ) : Type 0 where
  pub compiled : Compiled
  pub is : IsCompiled IsInstance model compiled
  pub cores : compiled.cores < 2 ^ 64
  pub count : length compiled.cnf.clauses < 2 ^ 64
  pub writes : written ≡ text_of (written_of compiled)

-- a text says a model that is not too heavy
pub record IsCompilable (text : List ℕ) : Type 0 where
  pub model : Model
  pub says : IsModelOf text model
  pub light : weight_of model ≤ most_weight

-- the compiled text of the model that a text says
pub record Compiles (text written : List ℕ) : Type 0 where
  pub model : Model
  pub says : IsModelOf text model
  pub light : weight_of model ≤ most_weight
  pub is : IsCompiledText model written

-- The text that was read is within the limit and says a model without fault, the text written is the compiled
-- text of that model, and the assignments that the written text stands for are exactly the model's solutions.
pub record IsHeadline (text written : List ℕ) : Type 0 where
  pub within : length text ≤ longest_text
  pub compiled : Compiles text written
  pub solutions : (a : List ℤ) → StandsFor written a ↔ IsSolution compiled.model a

-- what is written for a text, by its outcome
abbrev pub Gives : List ℕ → Outcome → List ℕ → Type 0
Gives text Done written = IsHeadline text written
Gives text (Refused line) written = ⊥
Gives text (Unknown count) written = ⊥
