-- Each text has an answer, and a weight that is told is the one of the refusal.
use Rattle.std.proofs.Common.{◌≡◌, ℕ, inl, inr, List, ◌∷◌, ◌++◌, map, ap, sym, ◌∙◌}
use Rattle.text_modes.specs.declared.ends.Outcome.TheVariants.{Done}
use Rattle.text_modes.specs.declared.ends.End.{End}
use Rattle.text_modes.specs.declared.ends.End.TheVariants.{Wrote, Fault}
use Rattle.bee_text.specs.Lines.{join_lines}
use Rattle.model_meaning.specs.declared.model.Model.{Model}
use Rattle.model_weight.specs.Weight.{weight_of}
use Rattle.model_texts.specs.declared.fault.ModelFault.{ModelFault}
use Rattle.model_texts.specs.declared.fault.ModelFault.TheVariants as fault
use Rattle.model_texts.specs.ModelTexts.{HasFault}
use Rattle.model_texts.proofs.FaultOrModel.{FaultOrModel, fault_or_model}
use Rattle.model_texts.proofs.OneModel.{one_model}
use Rattle.weigh_mode.specs.Heaviest.{heaviest_items}
use Rattle.weigh_mode.specs.WeighingText.{weight_line, item_line}
use Rattle.weigh_mode.specs.WeighMode.{HasEnd}
use Rattle.weigh_mode.specs.AnswerLaws.{WeighAnswers, WeighsAsRefused}

faulty : (text : List ℕ) (f : ModelFault) → HasFault text f → (end : End ModelFault) × HasEnd text end
faulty text (fault.TooHeavy weight) (inl h) = absurd (let e = h.1 in cc)
faulty text (fault.TooHeavy weight) (inr h) = (Wrote Done, (h.0, h.1.0, h.1.1))
faulty text fault.TooLong h = (Fault fault.TooLong, h)
faulty text (fault.Syntax line) h = (Fault (fault.Syntax line), h)
faulty text (fault.Number line) h = (Fault (fault.Number line), h)
faulty text (fault.Typed t) h = (Fault (fault.Typed t), h)
faulty text (fault.Cnf line) h = (Fault (fault.Cnf line), h)

answered : (text : List ℕ) → FaultOrModel text → (end : End ModelFault) × HasEnd text end
answered text (inl f) = faulty text f.0 f.1
answered text (inr m) = (Wrote Done, (m.1.within, m.0, m.1.says))

pub weigh-answered : WeighAnswers
weigh-answered text = answered text (fault_or_model text)

-- the lines behind the first one
rest : Model → List ℕ
rest m = join_lines (map (item_line (weight_of m)) (heaviest_items m))

pub weighs-as-refused : WeighsAsRefused
unfolding rest
weighs-as-refused text written weight (inl h) is = absurd (let e = h.1 in cc)
weighs-as-refused text written weight (inr h) is =
    let same : is.model ≡ h.1.0 = one_model text is.model h.1.0 is.says h.1.1 in
    let weighs : weight_of is.model ≡ weight = ap weight_of same ∙ sym h.1.3 in
    (rest is.model, is.writes ∙ ap (λ w. weight_line w ++ 10 ∷ rest is.model) weighs)
