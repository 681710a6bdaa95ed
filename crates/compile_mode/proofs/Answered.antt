-- Each text has an answer.
use Rattle.std.proofs.Common.{ℕ, ◌⊎◌, inl, inr, List}
use Rattle.text_modes.specs.declared.ends.Outcome.TheVariants.{Done}
use Rattle.text_modes.specs.declared.ends.End.{End}
use Rattle.text_modes.specs.declared.ends.End.TheVariants.{Wrote, Fault}
use Rattle.model_texts.specs.declared.fault.ModelFault.{ModelFault}
use Rattle.model_texts.proofs.FaultOrModel.{FaultOrModel, fault_or_model}
use Rattle.compile_mode.specs.CompileMode.{HasEnd}
use Rattle.compile_mode.specs.AnswerLaw.{CompileAnswers}

answered : (text : List ℕ) → FaultOrModel text → (end : End ModelFault) × HasEnd text end
answered text (inl f) = (Fault f.0, f.1)
answered text (inr m) = (Wrote Done, (m.1.within, record { model = m.0; says = m.1.says; light = m.1.light }))

pub compile-answered : CompileAnswers
compile-answered text = answered text (fault_or_model text)
