-- The kinds of text that are checked against a model, and what two texts give: the verdict of one that is valid, which
-- is then true, or the line of it that fails. Of two texts that of the model is the first.
use Rattle.std.specs.Prelude.{◌≡◌, ◌⊎◌, ◌<◌, ◌≤◌, ℕ, List, [], ◌∷◌, ◌++◌, codes, length}
use Rattle.model_meaning.specs.declared.model.Model.{Model}
use Rattle.model_texts.specs.declared.fault.ModelFault.{ModelFault}
use Rattle.model_texts.specs.declared.fault.ModelFault.TheVariants as fault
use Rattle.model_texts.specs.declared.model_text.ModelTextFault.{ModelTextFault}
use Rattle.model_texts.specs.declared.model_text.ModelTextFault.TheVariants as text_fault
use Rattle.model_texts.specs.ModelTexts.{longest_text}
use Rattle.text_modes.specs.Refusal.{refusal_text}
use Rattle.text_modes.specs.TwoTexts.{Texts}
use Rattle.text_modes.specs.declared.ends.Outcome.{Outcome}
use Rattle.text_modes.specs.declared.ends.Outcome.TheVariants.{Done, Refused, Unknown}
use Rattle.text_modes.specs.declared.ends.End.{End}
use Rattle.text_modes.specs.declared.ends.End.TheVariants.{Wrote}
use Rattle.check_modes.specs.declared.checked.Checked.{Checked}
use Rattle.check_modes.specs.declared.checked.Checked.TheVariants as checked

-- A kind of text: which model a text within the limit holds, and why another one holds none; which texts are valid for
-- a model with which verdict, which of these the check accepts, since what they say is true, and which line of another
-- one is the first that fails; and the words of a verdict.
pub record Kind (V : Type 0) : Type 1 where
  pub Holds : List ℕ → Model → Type 0
  pub IsCause : ModelTextFault → List ℕ → Type 0
  pub IsValid : Model → List ℕ → V → Type 0
  pub IsTrue : Model → List ℕ → V → Type 0
  pub Fails : Model → List ℕ → ℕ → Type 0
  pub words : V → List ℕ

-- a first text is too long, or within the limit and has this fault first
abbrev pub HasFault : {V : Type 0} → Kind V → List ℕ → ModelFault → Type 0
HasFault kind text f = ((longest_text < length text) × (f ≡ fault.TooLong))
    ⊎ ((length text ≤ longest_text) × kind.IsCause (text_fault.Model f) text)

-- a first text holds a model
abbrev pub HasModel : {V : Type 0} → Kind V → List ℕ → Type 0
HasModel kind text = (model : Model) × kind.Holds text model

-- what comes of a second text
abbrev pub IsChecked : {V : Type 0} → Kind V → Model → List ℕ → Checked V → Type 0
IsChecked kind model second (checked.Valid v) = kind.IsTrue model second v
IsChecked kind model second (checked.Refused line) = kind.Fails model second line

-- the text that tells that a second text is valid, with its verdict's words
abbrev pub accepted_text : List ℕ → List ℕ
accepted_text words = codes "ACCEPTED " ++ words ++ 10 ∷ []

-- the first text holds a model, for which the second is valid and true, and the written line tells its verdict
pub record IsAccepted {V : Type 0} (kind : Kind V) (texts : Texts) (written : List ℕ) : Type 0 where
  pub model : Model
  pub held : kind.Holds texts.first model
  pub verdict : V
  pub is : kind.IsTrue model texts.second verdict
  pub writes : written ≡ accepted_text (kind.words verdict)

-- the first text holds a model, for which the second is not valid, and the written line tells its first line that fails
pub record IsTurnedDown {V : Type 0} (kind : Kind V) (line : ℕ) (texts : Texts) (written : List ℕ) : Type 0 where
  pub model : Model
  pub held : kind.Holds texts.first model
  pub fails : kind.Fails model texts.second line
  pub writes : written ≡ refusal_text line

-- what is written for two texts, by its outcome
abbrev pub Gives : {V : Type 0} → Kind V → Texts → Outcome → List ℕ → Type 0
Gives kind texts Done written = IsAccepted kind texts written
Gives kind texts (Refused line) written = IsTurnedDown kind line texts written
Gives kind texts (Unknown count) written = ⊥

-- the second text is valid for the model that the first one holds
pub record IsValidBehind {V : Type 0} (kind : Kind V) (texts : Texts) : Type 0 where
  pub model : Model
  pub held : kind.Holds texts.first model
  pub verdict : V
  pub valid : kind.IsValid model texts.second verdict

-- the second text is not valid for the model that the first one holds, and this line of it is the first that fails
pub record FailsBehind {V : Type 0} (kind : Kind V) (line : ℕ) (texts : Texts) : Type 0 where
  pub model : Model
  pub held : kind.Holds texts.first model
  pub fails : kind.Fails model texts.second line

-- the end that two texts have of which the first holds a model
abbrev pub HaveEnd : {V : Type 0} → Kind V → Texts → End ModelFault → Type 0
HaveEnd kind texts (Wrote Done) = IsValidBehind kind texts
HaveEnd kind texts (Wrote (Refused line)) = FailsBehind kind line texts
HaveEnd kind texts end = ⊥
