-- What a run promises that checks a text against a model.
use Rattle.std.specs.Prelude.{ℕ, ◌+◌, List, Some}
use Rattle.text_modes.specs.Seen.{Seen}
use Rattle.text_modes.specs.Ends.{IsFaultEnd}
use Rattle.text_modes.specs.Promises.{ToldUnder, ReadFailed, Answers}
use Rattle.text_modes.specs.TwoTexts.{Texts, ToldBoth, EitherFailed, TwoTextRun}
use Rattle.text_modes.specs.declared.ends.End.{End}
use Rattle.model_texts.specs.declared.fault.ModelFault.{ModelFault}
use Rattle.model_texts.specs.ModelTexts.{longest_text}
use Rattle.check_modes.specs.Kinds.{Kind, HasFault, HasModel, Gives, HaveEnd}

-- Of the text of the model one byte more than the limit is read at most; it is fit where it holds a model, and else its
-- fault is the first that it has. The text that is given for the two tells the verdict of a second one that is valid,
-- which is then true whoever wrote it, or the first line of it that fails.
abbrev pub CheckRun : {V : Type 0} → Kind V → List ℕ → List ℕ → End ModelFault → Seen → Type 0
CheckRun kind input second end seen =
    TwoTextRun (Some (longest_text + 1)) (HasModel kind) (Gives kind) (HasFault kind) input second end seen

-- a run over two texts with the names of the model and of the other one, and the end that told texts have
pub record Checks {V : Type 0} (kind : Kind V) (input second : List ℕ) (end : End ModelFault) (seen : Seen)
    : Type 0 where
  pub run : CheckRun kind input second end seen
  pub faulty : Answers (ToldUnder input seen) (IsFaultEnd (HasFault kind)) (ReadFailed input seen) end seen
  pub answers : Answers (ToldBoth input second seen) (HaveEnd kind) (EitherFailed input second seen) end seen

-- it cannot be that two texts have no end, neither a fault of the model nor an end of both
abbrev pub TextsAnswer : {V : Type 0} → Kind V → Type 0
TextsAnswer kind = (texts : Texts) → ((fault : ModelFault) → HasFault kind texts.first fault → ⊥)
    → ((end : End ModelFault) → HaveEnd kind texts end → ⊥) → ⊥
