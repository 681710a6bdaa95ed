-- What a run in decode mode promises.
use Rattle.std.specs.Prelude.{ℕ, List, None}
use Rattle.dimacs_read.specs.TextSteps.{TextFails}
use Rattle.text_modes.specs.Seen.{Seen}
use Rattle.text_modes.specs.Ends.{IsFaultEnd}
use Rattle.text_modes.specs.Promises.{ToldUnder, ReadFailed, Answers}
use Rattle.text_modes.specs.TwoTexts.{Texts, ToldBoth, EitherFailed, TwoTextRun}
use Rattle.text_modes.specs.declared.ends.Outcome.TheVariants.{Done, Refused}
use Rattle.text_modes.specs.declared.ends.End.{End}
use Rattle.text_modes.specs.declared.ends.End.TheVariants.{Wrote}
use Rattle.decode_mode.specs.Decoded.{HasForm, Gives, InForm, FailsBehind}

-- the end that two texts have of which the compiled one is in form
abbrev pub HaveEnd : Texts → End ℕ → Type 0
HaveEnd texts (Wrote Done) = InForm texts
HaveEnd texts (Wrote (Refused line)) = FailsBehind line texts
HaveEnd texts end = ⊥

-- A run in decode mode, with the names of the compiled text and of the answer. The compiled text, which may have any
-- length, is fit where it is in form, and its fault is the first line that fails; the text that is given for the two
-- tells the values of the names, or the first line of the answer that fails.
pub record DecodeMode (input second : List ℕ) (end : End ℕ) (seen : Seen) : Type 0 where
  pub run : TwoTextRun None HasForm Gives TextFails input second end seen
  pub faulty : Answers (ToldUnder input seen) (IsFaultEnd TextFails) (ReadFailed input seen) end seen
  pub answers : Answers (ToldBoth input second seen) HaveEnd (EitherFailed input second seen) end seen
