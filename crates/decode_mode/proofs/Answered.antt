-- Each two texts have an answer.
use Rattle.std.proofs.Common.{◌⊎◌, inl, inr, ℕ, Bool, List}
use Rattle.dimacs_out.specs.declared.text.CnfText.{CnfText}
use Rattle.dimacs_read.specs.TextLines.{IsTextOf}
use Rattle.dimacs_read.specs.TextSteps.{TextFails}
use Rattle.dimacs_read.specs.Values.{IsValues, ValuesFail}
use Rattle.dimacs_read.proofs.Answered.{text_or_line, values_or_line}
use Rattle.text_modes.specs.TwoTexts.{Texts}
use Rattle.text_modes.specs.declared.ends.Outcome.TheVariants.{Done, Refused}
use Rattle.text_modes.specs.declared.ends.End.{End}
use Rattle.text_modes.specs.declared.ends.End.TheVariants.{Wrote}
use Rattle.decode_mode.specs.DecodeMode.{HaveEnd}
use Rattle.decode_mode.specs.AnswerLaw.{DecodeAnswers}

module _ (texts : Texts) where
  abbrev HasAnswer : Type 0
  HasAnswer = ((line : ℕ) × TextFails texts.first line) ⊎ ((end : End ℕ) × HaveEnd texts end)

  by-values : (x : CnfText) → IsTextOf x texts.first → ((values : List Bool) × IsValues x.cnf texts.second values) ⊎ ((line : ℕ) × ValuesFail x.cnf texts.second line) → HasAnswer
  by-values x form (inl v) = inr (Wrote Done, record { held = x; form = form; values = v.0; told = v.1 })
  by-values x form (inr l) = inr (Wrote (Refused l.0), record { held = x; form = form; fails = l.1 })

  by-text : ((x : CnfText) × IsTextOf x texts.first) ⊎ ((line : ℕ) × TextFails texts.first line) → HasAnswer
  by-text (inl t) = by-values t.0 t.1 (values_or_line t.0.cnf texts.second)
  by-text (inr l) = inl (l.0, l.1)

pub decode-answered : DecodeAnswers
decode-answered texts = by-text texts (text_or_line texts.first)
