-- What the text of a model and one of values that are wished for give: the text of an answer, or the line that fails.
-- Of two texts that of the model is the first, and what is wished for the second.
use Rattle.std.specs.Prelude.{◌≡◌, ℕ, List}
use Rattle.bee_text.specs.Lines.{lines_of}
use Rattle.model_meaning.specs.declared.model.Model.{Model}
use Rattle.model_texts.specs.HeldModels.{HoldsModel}
use Rattle.search_options.specs.declared.options.SearchOptions.{SearchOptions}
use Rattle.solve_mode.specs.Solved.{IsAnswerText, IsSolved}
use Rattle.wish_text.specs.Wishes.{NoneFails, FirstFails}
use Rattle.text_modes.specs.Refusal.{refusal_text}
use Rattle.text_modes.specs.TwoTexts.{Texts}
use Rattle.text_modes.specs.declared.ends.Outcome.{Outcome}
use Rattle.text_modes.specs.declared.ends.Outcome.TheVariants.{Done, Refused, Unknown}

-- none of the lines fails, and the written bytes are those of an answer to the model
pub record IsWishTaken (options : SearchOptions) (model : Model) (second : List ℕ) (outcome : Outcome) (written : List ℕ)
    : Type 0 where
  pub is : IsAnswerText options model outcome written
  pub passes : NoneFails model.decls (lines_of second)

-- the written line tells the first line that fails
pub record IsWishRefused (model : Model) (second : List ℕ) (line : ℕ) (written : List ℕ) : Type 0 where
  pub fails : FirstFails model.decls second line
  pub writes : written ≡ refusal_text line

-- what is written for a model and what is wished for
abbrev pub IsResuming : SearchOptions → Model → List ℕ → Outcome → List ℕ → Type 0
IsResuming options model second Done written = IsWishTaken options model second Done written
IsResuming options model second (Refused line) written = IsWishRefused model second line written
IsResuming options model second (Unknown count) written = IsWishTaken options model second (Unknown count) written

-- The first text says a model, and the written bytes are those of an answer to it, whose verdict is true, as `solve`
-- gives it. None of the second text's lines fails.
pub record IsResumed (options : SearchOptions) (texts : Texts) (outcome : Outcome) (written : List ℕ) : Type 0 where
  pub solved : IsSolved options texts.first outcome written
  pub passes : NoneFails solved.answer.model.decls (lines_of texts.second)

-- the first text says a model, and the written line tells the first line of the second that fails
pub record IsTurnedDown (line : ℕ) (texts : Texts) (written : List ℕ) : Type 0 where
  pub model : Model
  pub held : HoldsModel texts.first model
  pub fails : FirstFails model.decls texts.second line
  pub writes : written ≡ refusal_text line

-- what is written for two texts, by its outcome
abbrev pub Gives : SearchOptions → Texts → Outcome → List ℕ → Type 0
Gives options texts Done written = IsResumed options texts Done written
Gives options texts (Refused line) written = IsTurnedDown line texts written
Gives options texts (Unknown count) written = IsResumed options texts (Unknown count) written
