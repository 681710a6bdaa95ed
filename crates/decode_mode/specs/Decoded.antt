-- What a compiled text and a SAT solver's answer give: the values of the names, or the line of the answer that fails.
-- Of two texts the compiled one is the first, and the answer the second.
use Rattle.std.specs.Prelude.{◌≡◌, ℕ, Bool, List}
use Rattle.order_ints.specs.Truth.{valuation_of}
use Rattle.dimacs_out.specs.declared.text.CnfText.{CnfText}
use Rattle.dimacs_out.specs.ValueLines.{values_text}
use Rattle.dimacs_read.specs.TextLines.{IsTextOf}
use Rattle.dimacs_read.specs.Values.{IsValues, ValuesFail}
use Rattle.text_modes.specs.Refusal.{refusal_text}
use Rattle.text_modes.specs.TwoTexts.{Texts, HoldsSome}
use Rattle.text_modes.specs.declared.ends.Outcome.{Outcome}
use Rattle.text_modes.specs.declared.ends.Outcome.TheVariants.{Done, Refused, Unknown}

-- the written lines tell what the names have under the answer's values
pub record TellsValues (held : CnfText) (answer written : List ℕ) : Type 0 where
  pub values : List Bool
  pub told : IsValues held.cnf answer values
  pub writes : written ≡ values_text (valuation_of values) held.entries

-- the written line tells the first line of the answer that fails
pub record TellsRefusal (held : CnfText) (answer written : List ℕ) (line : ℕ) : Type 0 where
  pub fails : ValuesFail held.cnf answer line
  pub writes : written ≡ refusal_text line

-- what is written for a compiled text and an answer
abbrev pub IsDecoding : CnfText → List ℕ → Outcome → List ℕ → Type 0
IsDecoding held answer Done written = TellsValues held answer written
IsDecoding held answer (Refused line) written = TellsRefusal held answer written line
IsDecoding held answer (Unknown count) written = ⊥

-- a compiled text tells this
abbrev pub Holds : List ℕ → CnfText → Type 0
Holds compiled held = IsTextOf held compiled

-- a compiled text is in form
abbrev pub HasForm : List ℕ → Type 0
HasForm = HoldsSome Holds

-- both texts are in form, and the written lines tell the values
pub record IsDecoded (texts : Texts) (written : List ℕ) : Type 0 where
  pub held : CnfText
  pub form : IsTextOf held texts.first
  pub tells : TellsValues held texts.second written

-- the compiled text is in form, this line of the answer is the first that fails, and the written line tells it
pub record IsRefused (line : ℕ) (texts : Texts) (written : List ℕ) : Type 0 where
  pub held : CnfText
  pub form : IsTextOf held texts.first
  pub tells : TellsRefusal held texts.second written line

-- what is written for two texts, by its outcome
abbrev pub Gives : Texts → Outcome → List ℕ → Type 0
Gives texts Done written = IsDecoded texts written
Gives texts (Refused line) written = IsRefused line texts written
Gives texts (Unknown count) written = ⊥

-- both texts are in form
pub record InForm (texts : Texts) : Type 0 where
  pub held : CnfText
  pub form : IsTextOf held texts.first
  pub values : List Bool
  pub told : IsValues held.cnf texts.second values

-- the compiled text is in form, and this line of the answer is the first that fails
pub record FailsBehind (line : ℕ) (texts : Texts) : Type 0 where
  pub held : CnfText
  pub form : IsTextOf held texts.first
  pub fails : ValuesFail held.cnf texts.second line
