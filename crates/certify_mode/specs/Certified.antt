-- What the text of a model and what was found about its clauses give: the text of an answer, or the line that fails. Of
-- two texts that of the model is the first, and what was found the second.
use Rattle.std.specs.Prelude.{◌≡◌, ℕ, List}
use Rattle.answer_document.specs.declared.verdict.Verdict.{Verdict}
use Rattle.answer_import.specs.Imports.{Sought, TextFails, IsImported}
use Rattle.answer_import.specs.Importing.{sought_of}
use Rattle.text_modes.specs.Refusal.{refusal_text}
use Rattle.text_modes.specs.TwoTexts.{Texts}
use Rattle.text_modes.specs.declared.ends.Outcome.{Outcome}
use Rattle.text_modes.specs.declared.ends.Outcome.TheVariants.{Done, Refused, Unknown}
use Rattle.certify_mode.specs.declared.holding.HeldCompilation.{HeldCompilation}
use Rattle.certify_mode.specs.Holding.{HoldsCompiled}

-- what is sought of a model that is held
abbrev pub sought : HeldCompilation → Sought
sought held = sought_of held.model held.compiled

-- The written bytes are a valid answer to the model, whose verdict is true, and is what was found.
pub record TellsFinding (held : HeldCompilation) (found written : List ℕ) : Type 0 where
  pub verdict : Verdict
  pub is : IsImported held.model (sought held) found verdict written

-- the written line tells the first line that fails
pub record TellsRefusal (held : HeldCompilation) (found written : List ℕ) (line : ℕ) : Type 0 where
  pub fails : TextFails (sought held) found line
  pub writes : written ≡ refusal_text line

-- what is written for a model and what was found
abbrev pub IsCertifying : HeldCompilation → List ℕ → Outcome → List ℕ → Type 0
IsCertifying held found Done written = TellsFinding held found written
IsCertifying held found (Refused line) written = TellsRefusal held found written line
IsCertifying held found (Unknown count) written = ⊥

-- The first text says a model that is compiled to these clauses, and the written bytes are the answer to it that the
-- second one shows.
pub record IsCertified (texts : Texts) (written : List ℕ) : Type 0 where
  pub held : HeldCompilation
  pub holds : HoldsCompiled texts.first held
  pub tells : TellsFinding held texts.second written

-- The first text says a model that is compiled to these clauses, and the written line tells the first line of the
-- second that fails.
pub record IsTurnedDown (line : ℕ) (texts : Texts) (written : List ℕ) : Type 0 where
  pub held : HeldCompilation
  pub holds : HoldsCompiled texts.first held
  pub tells : TellsRefusal held texts.second written line

-- what is written for two texts, by its outcome
abbrev pub Gives : Texts → Outcome → List ℕ → Type 0
Gives texts Done written = IsCertified texts written
Gives texts (Refused line) written = IsTurnedDown line texts written
Gives texts (Unknown count) written = ⊥
