-- What a run in resume mode promises.
use Rattle.std.specs.Prelude.{◌≡◌, ◌⊎◌, ℕ, ◌+◌, List, Some}
use Rattle.bee_text.specs.Lines.{lines_of}
use Rattle.text_modes.specs.Seen.{Seen}
use Rattle.text_modes.specs.Ends.{IsFaultEnd}
use Rattle.text_modes.specs.Promises.{ToldUnder, ReadFailed, WriteFailed, Answers}
use Rattle.text_modes.specs.TwoTexts.{Texts, ToldBoth, EitherFailed, TwoTextRun}
use Rattle.text_modes.specs.declared.ends.Outcome.TheVariants.{Done, Refused, Unknown}
use Rattle.text_modes.specs.declared.ends.End.{End}
use Rattle.text_modes.specs.declared.ends.End.TheVariants.{Wrote, Memory}
use Rattle.model_meaning.specs.declared.model.Model.{Model}
use Rattle.model_texts.specs.declared.fault.ModelFault.{ModelFault}
use Rattle.model_texts.specs.ModelTexts.{longest_text, HasFault}
use Rattle.model_texts.specs.HeldModels.{HoldsModel}
use Rattle.search_options.specs.declared.options.SearchOptions.{SearchOptions}
use Rattle.solve_mode.specs.SolveMode.{HasModel}
use Rattle.wish_text.specs.Wishes.{NoneFails, FirstFails}
use Rattle.resume_mode.specs.Resumed.{Gives}

-- the first text says a model, and none of the second's lines fails
pub record PassesBehind (texts : Texts) : Type 0 where
  pub model : Model
  pub held : HoldsModel texts.first model
  pub passes : NoneFails model.decls (lines_of texts.second)

-- the first text says a model, and this line of the second is the first that fails
pub record FailsBehind (line : ℕ) (texts : Texts) : Type 0 where
  pub model : Model
  pub held : HoldsModel texts.first model
  pub fails : FirstFails model.decls texts.second line

-- the end that two texts have of which a line of the second fails
abbrev pub HaveRefusal : Texts → End ModelFault → Type 0
HaveRefusal texts (Wrote (Refused line)) = FailsBehind line texts
HaveRefusal texts end = ⊥

-- a run ends by a verdict, or by the budget that is spent
abbrev pub IsAnswered : End ModelFault → Type 0
IsAnswered (Wrote Done) = Unit {0}
IsAnswered (Wrote (Unknown count)) = Unit {0}
IsAnswered end = ⊥

-- Two told texts of which the first says a model and no line of the second fails are answered. Memory may be wanting,
-- and a fault of the outside ends the run.
abbrev pub FinishesBoth : List ℕ → List ℕ → End ModelFault → Seen → Type 0
FinishesBoth input second end seen = (texts : Texts) → ToldBoth input second seen texts → PassesBehind texts
    → (EitherFailed input second seen → ⊥) → (WriteFailed seen → ⊥) → IsAnswered end ⊎ (end ≡ Memory)

-- A run in resume mode, with how the answer is sought and the names of the model and of what is wished for. Of the text
-- of the model one byte more than the limit is read at most; it is fit where it says a model that is compiled, and else
-- its fault is the first that it has. The text that is given for the two is a valid answer to the model, whose verdict
-- is true, or tells the first line of the second text that fails. Two told texts of which the first is fit end in the
-- one where no line fails, and in the other where one does, unless memory is wanting.
pub record ResumeMode (options : SearchOptions) (input second : List ℕ) (end : End ModelFault) (seen : Seen) : Type 0 where
  pub run : TwoTextRun (Some (longest_text + 1)) HasModel (Gives options) HasFault input second end seen
  pub faulty : Answers (ToldUnder input seen) (IsFaultEnd HasFault) (ReadFailed input seen) end seen
  pub finishes : FinishesBoth input second end seen
  pub refuses : Answers (ToldBoth input second seen) HaveRefusal (EitherFailed input second seen) end seen
