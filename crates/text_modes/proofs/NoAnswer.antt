-- What each end of a run that reads no text says decides which end comes.
use Rattle.std.proofs.Common.{ℕ, List, refl, inl, inr}
use Rattle.text_modes.specs.Seen.{Seen}
use Rattle.text_modes.specs.Promises.{Answers}
use Rattle.text_modes.specs.NoText.{NothingRead, Says}
use Rattle.text_modes.specs.declared.ends.Outcome.{Outcome}
use Rattle.text_modes.specs.declared.ends.End.{End}
use Rattle.text_modes.specs.declared.ends.End.TheVariants.{Wrote, Fault, Read, Write, Memory}
use Rattle.text_modes.proofs.Answering.{OneEnd, met, wanting}

-- Where there is one end, which is the one by which the text that is given ends a run, it comes.
module _ {F : Type 0} (Gives : Outcome → List ℕ → Type 0) (HaveEnd : Unit {0} → End F → Type 0) (one : OneEnd HaveEnd)
    (given : (outcome : Outcome) (written : List ℕ) → Gives outcome written → HaveEnd tt (Wrote outcome)) (seen : Seen) where
  abbrev Promised : End F → Type 0
  Promised end = Answers NothingRead HaveEnd ⊥ end seen

  pub answers : (end : End F) → Says Gives end seen → Promised end
  answers (Wrote outcome) s = met NothingRead HaveEnd ⊥ (Wrote outcome) seen one (λ nothing told. (Wrote outcome, given outcome s.written s.gives, inl refl))
  answers (Fault fault) s = absurd s
  answers Read s = absurd s
  answers Write s = met NothingRead HaveEnd ⊥ Write seen one (λ nothing told. (Wrote s.0.gives.0, given s.0.gives.0 s.0.written s.0.gives.1, inr (λ quiet. quiet, s.1)))
  answers Memory s = wanting NothingRead HaveEnd ⊥ seen
