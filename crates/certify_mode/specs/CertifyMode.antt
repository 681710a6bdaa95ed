-- What a run in certify mode promises.
use Rattle.std.specs.Prelude.{◌≡◌, ◌⊎◌, ℕ, ◌+◌, List, ℤ, Option, Some}
use Rattle.text_modes.specs.Seen.{Seen}
use Rattle.text_modes.specs.Ends.{IsFaultEnd}
use Rattle.text_modes.specs.Promises.{ToldUnder, ReadFailed, WriteFailed, Answers, Finishes}
use Rattle.text_modes.specs.TwoTexts.{Texts, HoldsSome, ToldBoth, EitherFailed, TwoTextRun}
use Rattle.text_modes.specs.declared.ends.Outcome.TheVariants.{Done, Refused}
use Rattle.text_modes.specs.declared.ends.End.{End}
use Rattle.text_modes.specs.declared.ends.End.TheVariants.{Wrote, Memory}
use Rattle.model_texts.specs.ModelTexts.{longest_text}
use Rattle.answer_document.specs.declared.verdict.Verdict.{Verdict}
use Rattle.answer_import.specs.Imports.{TextShows, TextFails}
use Rattle.certify_mode.specs.declared.fault.CertifyFault.{CertifyFault}
use Rattle.certify_mode.specs.declared.holding.HeldCompilation.{HeldCompilation}
use Rattle.certify_mode.specs.Holding.{HoldsCompiled, HasFault}
use Rattle.certify_mode.specs.Certified.{sought, Gives}

-- a text says a model with one objective at most, and it is compiled
abbrev pub HasModel : List ℕ → Type 0
HasModel = HoldsSome HoldsCompiled

-- how a run ends, by what the second text comes to for a model that is compiled
pub record IsDecided (held : HeldCompilation) (text : List ℕ) (end : End CertifyFault) : Type 0 where
  pub shows : (v : Verdict) (given : Option (List ℤ)) → TextShows (sought held) text v given → end ≡ Wrote Done
  pub fails : (line : ℕ) → TextFails (sought held) text line → end ≡ Wrote (Refused line)

-- the first text says a model that is compiled so
pub record DecidesBy (texts : Texts) (end : End CertifyFault) : Type 0 where
  pub held : HeldCompilation
  pub holds : HoldsCompiled texts.first held
  pub decided : IsDecided held texts.second end

-- Two told texts of which the first is fit: where the second shows an answer to the model that is compiled, the run
-- ends with that; where a line of it fails, with the first one. Memory may be wanting, and a fault of the outside ends
-- it.
abbrev pub Decides : List ℕ → List ℕ → End CertifyFault → Seen → Type 0
Decides input second end seen = (texts : Texts) → ToldBoth input second seen texts → HasModel texts.first
    → (EitherFailed input second seen → ⊥) → (WriteFailed seen → ⊥) → DecidesBy texts end ⊎ (end ≡ Memory)

-- A run in certify mode, with the names of the model and of what was found. Of the text of the model one byte more than
-- the limit is read at most; it is fit where it says a model that is compiled, of one objective at most, and else its
-- fault is the first that it has. The text that is given for the two is a valid answer to the model, whose verdict is
-- true and is what was found, or tells the first line of the second text that fails. Two told texts of which the first
-- is fit end in such a text, unless memory is wanting: in the answer exactly where the second shows one.
pub record CertifyMode (input second : List ℕ) (end : End CertifyFault) (seen : Seen) : Type 0 where
  pub run : TwoTextRun (Some (longest_text + 1)) HasModel Gives HasFault input second end seen
  pub faulty : Answers (ToldUnder input seen) (IsFaultEnd HasFault) (ReadFailed input seen) end seen
  pub finishes : Finishes (ToldBoth input second seen) (λ (texts : Texts). HasModel texts.first)
      (EitherFailed input second seen) end seen
  pub decides : Decides input second end seen
