-- What each end says in both modes.
use Rattle.std.proofs.Common.{◌≡◌, ℕ, ◌+◌, ◌<◌, ◌≤◌, ◌⊎◌, List, length, refl, ap, inl, inr, ⊎_elim}
use Rattle.std.specs.Prelude.{Some}
use Rattle.std.proofs.lemmas.Bool.{cases_lt}
use Rattle.text_modes.specs.Seen.{Seen, Untouched}
use Rattle.text_modes.specs.OneText.{OneTextRun}
use Rattle.text_modes.specs.declared.ends.Outcome.{Outcome}
use Rattle.text_modes.specs.declared.ends.Outcome.TheVariants.{Done, Refused, Unknown}
use Rattle.text_modes.specs.declared.ends.End.{End}
use Rattle.text_modes.specs.declared.ends.End.TheVariants.{Wrote, Fault, Memory}
use Rattle.text_modes.proofs.OneAnswer.{answers}
use Rattle.text_modes.proofs.Idle.{one_idle}
use Rattle.model_texts.specs.declared.fault.ModelFault.{ModelFault}
use Rattle.model_texts.specs.declared.fault.ModelFault.TheVariants as fault
use Rattle.model_texts.specs.ModelTexts.{longest_text}
use Rattle.search_options.specs.declared.options.SearchOptions.{SearchOptions}
use Rattle.solve_mode.proofs.Ends.{run_mode, run_idle, given_held}
use Rattle.opb_front.specs.declared.fault.OpbFault.{OpbFault}
use Rattle.opb_front.specs.declared.fault.OpbFault.TheVariants as opb_fault
use Rattle.opb_front.specs.declared.items.Opb.{Opb}
use Rattle.opb_front.specs.Grammar.{IsOpbText}
use Rattle.opb_front.specs.Faults.{IsFaultOf}
use Rattle.opb_front.proofs.OneFault.{said_or_faulty}
use Rattle.opb_model.specs.Items.{opb_text}
use Rattle.opb_mode.specs.Files.{HoldsFile, HoldsFileModel, HasFileFault, HasOpbFault}
use Rattle.opb_mode.specs.OpbModelMode.{Gives, HasEnd, OpbModelMode}
use Rattle.opb_mode.specs.OpbMode.{AnswersFile, IsSolvedFile, OpbMode}
use Rattle.opb_mode.specs.Laws.{OpbModelAnswers}
use Rattle.opb_mode.proofs.Shapes.{well, limits}
use Rattle.opb_mode.proofs.Faults.{one_file_fault, no_file_fault, one_opb_fault, held_or_fault}

-- A text has one end in the mode opbmodel.

one_end : (text : List ℕ) (a b : End ModelFault) → HasEnd text a → HasEnd text b → a ≡ b
one_end text (Wrote Done) (Wrote Done) h k = refl
one_end text (Wrote Done) (Fault g) h k = absurd (no_file_fault text g h.0 h.1 k)
one_end text (Wrote Done) b h k = absurd k
one_end text (Fault f) (Wrote Done) h k = absurd (no_file_fault text f k.0 k.1 h)
one_end text (Fault f) (Fault g) h k = ap (λ (x : ModelFault). Fault x) (one_file_fault text f g h k)
one_end text (Fault f) b h k = absurd k
one_end text a b h k = absurd h

given : (text : List ℕ) (outcome : Outcome) (written : List ℕ) → Gives text outcome written → HasEnd text (Wrote outcome)
given text Done written h = (h.opb, h.file)
given text (Refused line) written h = absurd h
given text (Unknown count) written h = absurd h

pub model_mode : (input : List ℕ) (end : End ModelFault) (seen : Seen) → OneTextRun (Some (longest_text + 1)) Gives HasFileFault input end seen → OpbModelMode input end seen
model_mode input end seen r = record {
  run = r;
  answers = answers (Some (longest_text + 1)) Gives HasFileFault HasEnd one_end given (λ text fault h. h) input seen end r.says;
}

-- where memory is wanting before the mode begins
pub model_idle : (input : List ℕ) (seen : Seen) → Untouched seen → OpbModelMode input Memory seen
model_idle input seen same = model_mode input Memory seen (one_idle (Some (longest_text + 1)) HasFileFault seen same Gives input)

-- each text has an end

module _ (text : List ℕ) (within : length text ≤ longest_text) where
  abbrev Ended : Type 0
  Ended = (end : End ModelFault) × HasEnd text end

  said : (opb : Opb) → IsOpbText text opb → Ended
  said opb says = ⊎_elim
      (λ (long : longest_text < length (opb_text opb)). (Fault fault.TooLong, inr (within, (opb, says, long))))
      (λ (short : length (opb_text opb) ≤ longest_text). (Wrote Done, (opb, record { within = within; says = says; short = short })))
      (cases_lt longest_text (length (opb_text opb)))

  failed : (f : OpbFault) → IsFaultOf text f → Ended
  failed (opb_fault.Syntax line) h = (Fault (fault.Syntax line), inr (within, h))
  failed (opb_fault.Number line) h = (Fault (fault.Number line), inr (within, h))
  failed opb_fault.Memory h = elim h [ ]

  either : (((opb : Opb) × IsOpbText text opb) ⊎ ((f : OpbFault) × IsFaultOf text f)) → Ended
  either (inl p) = said p.0 p.1
  either (inr p) = failed p.0 p.1

pub each_answered : OpbModelAnswers
each_answered text = ⊎_elim
    (λ (long : longest_text < length text). (Fault fault.TooLong, inl (long, refl)))
    (λ (within : length text ≤ longest_text). either text within (said_or_faulty text))
    (cases_lt longest_text (length text))

-- The mode opb.

pub mode : (options : SearchOptions) (input : List ℕ) (end : End ModelFault) (seen : Seen) → OneTextRun (Some (longest_text + 1)) (IsSolvedFile options) HasOpbFault input end seen
    → OpbMode options input end seen
mode = run_mode HoldsFileModel HasOpbFault held_or_fault one_opb_fault

pub idle : (options : SearchOptions) (input : List ℕ) (seen : Seen) → Untouched seen → OpbMode options input Memory seen
idle = run_idle HoldsFileModel HasOpbFault held_or_fault one_opb_fault

pub given_file : (options : SearchOptions) (text : List ℕ) (outcome : Outcome) (written : List ℕ) → AnswersFile options text outcome written → IsSolvedFile options text outcome written
given_file options text outcome written h =
    let held = h.held in
    given_held HoldsFileModel options text outcome written h (well text held.opb h.model held.file held.model_is) (limits text held.opb h.model held.file held.model_is) held.light
