-- What is known of the model of a file that a text says.
use Rattle.std.proofs.Common.{◌≡◌, ℕ, ◌<◌, ◌≤◌, List, length, refl, sym, subst, inl, inr}
use Rattle.text_modes.specs.declared.ends.Outcome.{Outcome}
use Rattle.model_meaning.specs.declared.model.Model.{Model}
use Rattle.model_meaning.specs.WellTyped.{WellTyped}
use Rattle.model_meaning.specs.Limits.{InLimits}
use Rattle.model_lower.specs.declared.fault.LowerFault.{LowerFault}
use Rattle.model_lower.specs.declared.fault.LowerFault.TheVariants.{TooHeavy, Memory}
use Rattle.model_lower.specs.Faults.{IsFaultOf}
use Rattle.model_lower.specs.Weighed.{most_weight}
use Rattle.model_weight.specs.Weight.{weight_of}
use Rattle.search_options.specs.declared.options.SearchOptions.{SearchOptions}
use Rattle.solve_mode.specs.Solved.{IsAnswerText}
use Rattle.model_texts.specs.declared.model_text.ModelTextFault.{ModelTextFault}
use Rattle.model_texts.specs.declared.model_text.ModelTextFault.TheVariants as text_fault
use Rattle.model_texts.specs.declared.fault.ModelFault.TheVariants as fault
use Rattle.model_texts.specs.ModelTexts.{longest_text, IsModelOf}
use Rattle.model_texts.specs.HeldModels.{lower_fault_of}
use Rattle.model_texts.proofs.ModelShapes.{typed, limited}
use Rattle.model_texts.proofs.Weights.{exact}
use Rattle.opb_front.specs.declared.fault.OpbFault.{OpbFault}
use Rattle.opb_front.specs.declared.fault.OpbFault.TheVariants as opb_fault
use Rattle.opb_front.specs.declared.items.Opb.{Opb}
use Rattle.opb_front.specs.Grammar.{IsOpbText}
use Rattle.opb_front.specs.Faults.{OpbFaultOf}
use Rattle.opb_front.specs.Fits.{OpbFits}
use Rattle.opb_front.proofs.Fitting.{read_fits}
use Rattle.opb_model.specs.Models.{opb_model}
use Rattle.opb_model.specs.Items.{syntax_of, opb_text}
use Rattle.opb_model.proofs.Said.{text_says}
use Rattle.opb_mode.specs.Files.{HoldsFile, IsFileCause, IsOpbCause, file_fault_of}
use Rattle.opb_mode.specs.OpbModelMode.{IsModelText}
use Rattle.opb_mode.specs.OpbMode.{AnswersFile}

pub fits : (text : List ℕ) (opb : Opb) → IsOpbText text opb → OpbFits opb
fits text opb says = (read_fits text opb says).0

pub few : (text : List ℕ) (opb : Opb) → IsOpbText text opb → opb.vars ≤ 1000000
few text opb says = (fits text opb says).vars

pub said : (text : List ℕ) (opb : Opb) → IsOpbText text opb → IsModelOf (opb_text opb) (opb_model opb)
said text opb says =
    let s = text_says opb (fits text opb says) in
    record { syntax = syntax_of opb; spelled = s.spelled; no_fault = s.no_fault; model_is = s.model }

pub well : (text : List ℕ) (opb : Opb) (m : Model) → HoldsFile text opb → m ≡ opb_model opb → WellTyped m
well text opb m h e = subst WellTyped (sym e) (typed (opb_text opb) (opb_model opb) (said text opb h.says))

pub limits : (text : List ℕ) (opb : Opb) (m : Model) → HoldsFile text opb → m ≡ opb_model opb → InLimits m
limits text opb m h e = subst InLimits (sym e) (limited (opb_text opb) (opb_model opb) h.short (said text opb h.says))

-- the text that is written is that of the model
pub model_said : (text : List ℕ) (opb : Opb) (written : List ℕ) → HoldsFile text opb → written ≡ opb_text opb → IsModelText text written
model_said text opb written h e =
    record { opb = opb; file = h; canonical = e; says = subst (λ (t : List ℕ). IsModelOf t (opb_model opb)) (sym e) (said text opb h.says) }

-- a fault of the file, and of the lowering

pub file_cause : (text : List ℕ) (f : OpbFault) → OpbFaultOf text f → IsFileCause text (file_fault_of f)
file_cause text (opb_fault.Syntax line) h = h
file_cause text (opb_fault.Number line) h = h
file_cause text opb_fault.Memory h = tt

pub opb_cause : (text : List ℕ) (e : ModelTextFault) → IsFileCause text e → IsOpbCause text e
opb_cause text (text_fault.Model f) h = inl h
opb_cause text text_fault.Memory h = tt

heavy : (text : List ℕ) (opb : Opb) → HoldsFile text opb → (f : LowerFault) → IsFaultOf f (opb_model opb) → IsOpbCause text (lower_fault_of f)
heavy text opb h (TooHeavy w) k = inr (opb, h, k.0, k.1 (exact (opb_text opb) (opb_model opb) h.short (said text opb h.says)))
heavy text opb h Memory k = tt

pub heavy_cause : (text : List ℕ) (opb : Opb) (m : Model) (f : LowerFault) (e : ModelTextFault) → HoldsFile text opb → m ≡ opb_model opb → IsFaultOf f m → e ≡ lower_fault_of f
    → IsOpbCause text e
heavy_cause text opb m f e h same k is =
    subst (λ (x : ModelTextFault). IsOpbCause text x) (sym is) (heavy text opb h f (subst (λ (n : Model). IsFaultOf f n) same k))

pub file_caused : (text : List ℕ) (f : OpbFault) (e : ModelTextFault) → OpbFaultOf text f → e ≡ file_fault_of f → IsFileCause text e
file_caused text f e h is = subst (λ (x : ModelTextFault). IsFileCause text x) (sym is) (file_cause text f h)

-- what is known where the text of the model was made

pub held : (text : List ℕ) (opb : Opb) (written : List ℕ) → length text ≤ longest_text → IsOpbText text opb → written ≡ opb_text opb → length written ≤ longest_text → HoldsFile text opb
held text opb written within says e short = record { within = within; says = says; short = subst (λ (t : List ℕ). length t ≤ longest_text) e short }

pub written_text : (text : List ℕ) (opb : Opb) (written : List ℕ) → length text ≤ longest_text → IsOpbText text opb → written ≡ opb_text opb → length written ≤ longest_text
    → IsModelText text written
written_text text opb written within says e short = model_said text opb written (held text opb written within says e short) e

pub too_long : (text : List ℕ) (opb : Opb) → IsOpbText text opb → longest_text < length (opb_text opb) → IsFileCause text (text_fault.Model fault.TooLong)
too_long text opb says long = (opb, says, long)

-- the answer to the model

pub answered : (options : SearchOptions) (text : List ℕ) (opb : Opb) (m : Model) (outcome : Outcome) (written : List ℕ) → HoldsFile text opb → m ≡ opb_model opb → weight_of m ≤ most_weight
    → IsAnswerText options m outcome written → AnswersFile options text outcome written
answered options text opb m outcome written h e light is =
    record { model = m; held = record { opb = opb; file = h; model_is = e; light = light }; is = is }

-- what is known of the model of a file, its answer and its faults
pub ruleset makings = (few, well, limits, answered, heavy_cause, opb_cause)
