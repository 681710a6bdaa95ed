-- What a run in drup mode promises.
use Rattle.std.specs.Prelude.{ℕ, ◌+◌, List, Some}
use Rattle.sat_front.specs.declared.text_fault.CnfTextFault.{CnfTextFault}
use Rattle.sat_front.specs.HeldCnfs.{longest_text, HasCnf, HasFault}
use Rattle.text_modes.specs.Seen.{Seen}
use Rattle.text_modes.specs.Ends.{IsFaultEnd}
use Rattle.text_modes.specs.Promises.{ToldUnder, ReadFailed, Answers, Finishes}
use Rattle.text_modes.specs.TwoTexts.{Texts, ToldBoth, EitherFailed, TwoTextRun}
use Rattle.text_modes.specs.declared.ends.Outcome.TheVariants.{Done, Refused}
use Rattle.text_modes.specs.declared.ends.End.{End}
use Rattle.text_modes.specs.declared.ends.End.TheVariants.{Wrote}
use Rattle.drup_mode.specs.Proved.{Gives, IsProved, FailsBehind}

-- the end that two texts have of which the first lists clauses
abbrev pub HaveEnd : Texts → End CnfTextFault → Type 0
HaveEnd texts (Wrote Done) = IsProved texts
HaveEnd texts (Wrote (Refused line)) = FailsBehind line texts
HaveEnd texts end = ⊥

-- the first of two texts lists clauses within the limit
abbrev pub AreFit : Texts → Type 0
AreFit texts = HasCnf texts.first

-- A run in drup mode, with the names of the CNF's text and of the proof. Of the CNF's text one byte more than the limit
-- is read at most; it is fit where it lists clauses, and else its fault is the first that it has. The proof may have
-- any length. The text that is given for the two says that the proof is valid, and then no valuation satisfies the
-- listed clauses; or it tells the first line of the proof that fails. Each two texts of which the first is fit have one
-- of these ends, unless memory is wanting or a fault of the outside ends the run.
pub record DrupMode (input second : List ℕ) (end : End CnfTextFault) (seen : Seen) : Type 0 where
  pub run : TwoTextRun (Some (longest_text + 1)) HasCnf Gives HasFault input second end seen
  pub faulty : Answers (ToldUnder input seen) (IsFaultEnd HasFault) (ReadFailed input seen) end seen
  pub answers : Answers (ToldBoth input second seen) HaveEnd (EitherFailed input second seen) end seen
  pub finishes : Finishes (ToldBoth input second seen) AreFit (EitherFailed input second seen) end seen
