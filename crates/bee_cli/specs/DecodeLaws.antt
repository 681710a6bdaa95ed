-- What decoding makes of the compiled text of a model.
use Rattle.std.specs.Prelude.{◌≡◌, ◌↔◌, ◌≤◌, List, ℕ, ℤ, length}
use Rattle.bee_text.specs.Lines.{join_lines}
use Rattle.order_ints.specs.Truth.{Valuation}
use Rattle.order_ints.specs.Numbers.{numbers_of}
use Rattle.model_meaning.specs.declared.model.Model.{Model}
use Rattle.model_meaning.specs.Solutions.{IsSolution}
use Rattle.dimacs_out.specs.declared.text.CnfText.{CnfText}
use Rattle.dimacs_out.specs.TextSolutions.{StandsFor}
use Rattle.name_map.specs.Values.{values_of}
use Rattle.name_map.specs.ValueLines.{declared_lines}
use Rattle.dimacs_out.specs.ValueLines.{values_text}
use Rattle.dimacs_read.specs.TextLines.{IsTextOf}
use Rattle.text_modes.specs.TwoTexts.{Texts}
use Rattle.model_texts.specs.ModelTexts.{longest_text}
use Rattle.compile_mode.specs.Compiled.{Compiles}
use Rattle.decode_mode.specs.Decoded.{HasForm, IsDecoded}

-- the written lines tell this assignment: it is what the names of the compiled text have under a valuation, and so are
-- the lines
pub record TellsAssignment (compiled written : List ℕ) (a : List ℤ) : Type 0 where
  pub held : CnfText
  pub form : IsTextOf held compiled
  pub valuation : Valuation
  pub gives : a ≡ numbers_of valuation (values_of held.entries)
  pub writes : written ≡ values_text valuation held.entries

-- where a text stands for exactly the solutions of a model, as what is written in compile mode does, the values that
-- are written for it are one of them
abbrev pub DecodedSolves : Type 0
DecodedSolves =
    (model : Model) (texts : Texts) (written : List ℕ)
    → ((a : List ℤ) → StandsFor texts.first a ↔ IsSolution model a)
    → IsDecoded texts written → (a : List ℤ) × (IsSolution model a × TellsAssignment texts.first written a)

-- the text is the lines of a solution
pub record TellsSolution (model : Model) (written : List ℕ) : Type 0 where
  pub solution : List ℤ
  pub solves : IsSolution model solution
  pub writes : written ≡ join_lines (declared_lines model.decls solution)

-- what is compiled is in form for decoding
abbrev pub CompiledIsRead : Type 0
CompiledIsRead = (text compiled : List ℕ) → length text ≤ longest_text → Compiles text compiled
    → HasForm compiled

-- from a model to its compiled text, and with an answer in form back to its names: the lines of a solution of the model
abbrev pub DecodedIsSolution : Type 0
DecodedIsSolution =
    (text : List ℕ) (texts : Texts) (written : List ℕ) → length text ≤ longest_text
    → (c : Compiles text texts.first) → IsDecoded texts written
    → TellsSolution c.model written
