-- A text has one end in bound mode.
use Rattle.std.proofs.Common.{◌≡◌, ℕ, ℤ, ◌+◌, ◌<◌, ◌≤◌, List, length, refl, sym, ap, ◌∙◌, inr, arith}
use Rattle.std.specs.Prelude.{Some}
use Rattle.std.proofs.lemmas.Bool.{true≢false}
use Rattle.model_meaning.specs.declared.model.Model.{Model}
use Rattle.answer_document.specs.Goals.{has_objective}
use Rattle.text_modes.specs.Seen.{Seen, Untouched}
use Rattle.text_modes.specs.OneText.{OneTextRun}
use Rattle.text_modes.specs.declared.ends.Outcome.{Outcome}
use Rattle.text_modes.specs.declared.ends.Outcome.TheVariants.{Done, Refused, Unknown}
use Rattle.text_modes.specs.declared.ends.End.{End}
use Rattle.text_modes.specs.declared.ends.End.TheVariants.{Wrote, Fault, Memory}
use Rattle.text_modes.proofs.OneAnswer.{answers}
use Rattle.text_modes.proofs.Idle.{one_idle}
use Rattle.model_texts.specs.declared.fault.ModelFault.{ModelFault}
use Rattle.model_texts.specs.ModelTexts.{longest_text, IsFirstFault}
use Rattle.model_texts.proofs.FirstFaults.{one_text_fault, no_text_fault}
use Rattle.model_texts.proofs.OneModel.{one_model}
use Rattle.bound_mode.specs.declared.fault.BoundFault.{BoundFault}
use Rattle.bound_mode.specs.declared.fault.BoundFault.TheVariants.{Model as InModel, NoObjective}
use Rattle.bound_mode.specs.Bounded.{IsBoundable, HasNone, Bounds, HasFault, Gives}
use Rattle.bound_mode.specs.BoundMode.{HasEnd, BoundMode}
use Rattle.bound_mode.proofs.Headline.{headline}

some_or_none : (text : List ℕ) → IsBoundable text → HasNone text → ⊥
some_or_none text h k =
    let same : h.model ≡ k.model = one_model text h.model k.model h.says k.says in
    true≢false (sym h.seeks ∙ ap (λ (m : Model). has_objective m.goal) same ∙ k.seeks)

-- a text for which something is written has no fault
bounded_or_fault : (text : List ℕ) (f : BoundFault) → HasEnd text (Wrote Done) → HasFault text f → ⊥
bounded_or_fault text (InModel f) h k = no_text_fault text f h.1.model h.0 h.1.says h.1.light k
bounded_or_fault text NoObjective h k = some_or_none text h.1 k.1

one_fault : (text : List ℕ) (f g : BoundFault) → HasFault text f → HasFault text g → f ≡ g
one_fault text (InModel f) (InModel g) h k = ap (λ (x : ModelFault). InModel x) (one_text_fault text f g h k)
one_fault text (InModel f) NoObjective h k = absurd (no_text_fault text f k.1.model k.0 k.1.says k.1.light h)
one_fault text NoObjective (InModel g) h k = absurd (no_text_fault text g h.1.model h.0 h.1.says h.1.light k)
one_fault text NoObjective NoObjective h k = refl

one_end : (text : List ℕ) (a b : End BoundFault) → HasEnd text a → HasEnd text b → a ≡ b
one_end text (Wrote Done) (Wrote Done) h k = refl
one_end text (Wrote Done) (Fault g) h k = absurd (bounded_or_fault text g h k)
one_end text (Wrote Done) b h k = absurd k
one_end text (Fault f) (Wrote Done) h k = absurd (bounded_or_fault text f k h)
one_end text (Fault f) (Fault g) h k = ap (λ (x : BoundFault). Fault x) (one_fault text f g h k)
one_end text (Fault f) b h k = absurd k
one_end text a b h k = absurd h

given : (m : ℤ) (text : List ℕ) (outcome : Outcome) (written : List ℕ) → Gives m text outcome written → HasEnd text (Wrote outcome)
given m text Done written h = (h.within, h.bounds.boundable)
given m text (Refused line) written h = absurd h
given m text (Unknown count) written h = absurd h

-- what is said of each end decides which end a told text has
pub mode : (m : ℤ) (input : List ℕ) (end : End BoundFault) (seen : Seen) → OneTextRun (Some (longest_text + 1)) (Gives m) HasFault input end seen → BoundMode m input end seen
mode m input end seen r = record {
  run = r;
  answers = answers (Some (longest_text + 1)) (Gives m) HasFault HasEnd one_end (given m) (λ text fault h. h) input seen end r.says;
}

-- where memory is wanting before the mode begins
pub idle : (m : ℤ) (input : List ℕ) (seen : Seen) → Untouched seen → BoundMode m input Memory seen
idle m input seen same = mode m input Memory seen (one_idle (Some (longest_text + 1)) HasFault seen same (Gives m) input)

-- a text below the limit and one byte is within it
pub within_limit : (text : List ℕ) → length text < 16777217 → length text ≤ longest_text
within_limit text h = omega arith

-- the headline of what was written
pub given_text : (m : ℤ) (text written : List ℕ) → length text < 16777217 → Bounds m text written → Gives m text Done written
given_text m text written h b = headline m text written (within_limit text h) b

-- the fault of a text within the limit
pub had_fault : (text : List ℕ) (f : ModelFault) → length text < 16777217 → IsFirstFault text f → HasFault text (InModel f)
had_fault text f h first = inr (within_limit text h, first)

pub had_none : (text : List ℕ) → length text < 16777217 → HasNone text → HasFault text NoObjective
had_none text h none = (within_limit text h, none)
