-- A text has one end in compile mode.
use Rattle.std.proofs.Common.{◌≡◌, ℕ, ◌+◌, ◌<◌, ◌≤◌, List, length, refl, ap, inr, arith}
use Rattle.std.specs.Prelude.{Some}
use Rattle.text_modes.specs.Seen.{Seen, Untouched}
use Rattle.text_modes.specs.OneText.{OneTextRun}
use Rattle.text_modes.specs.declared.ends.Outcome.{Outcome}
use Rattle.text_modes.specs.declared.ends.Outcome.TheVariants.{Done, Refused, Unknown}
use Rattle.text_modes.specs.declared.ends.End.{End}
use Rattle.text_modes.specs.declared.ends.End.TheVariants.{Wrote, Fault, Memory}
use Rattle.text_modes.proofs.OneAnswer.{answers}
use Rattle.text_modes.proofs.Idle.{one_idle}
use Rattle.model_texts.specs.declared.fault.ModelFault.{ModelFault}
use Rattle.model_texts.specs.ModelTexts.{longest_text, IsFirstFault, HasFault}
use Rattle.model_texts.proofs.FirstFaults.{one_text_fault, no_text_fault}
use Rattle.compile_mode.specs.Compiled.{Compiles, IsHeadline, Gives}
use Rattle.compile_mode.specs.CompileMode.{HasEnd, CompileMode}
use Rattle.compile_mode.proofs.Headline.{headline}

-- a text that is compiled has no fault
compiled_or_fault : (text : List ℕ) (f : ModelFault) → HasEnd text (Wrote Done) → HasFault text f → ⊥
compiled_or_fault text f h k = no_text_fault text f h.1.model h.0 h.1.says h.1.light k

one_end : (text : List ℕ) (a b : End ModelFault) → HasEnd text a → HasEnd text b → a ≡ b
one_end text (Wrote Done) (Wrote Done) h k = refl
one_end text (Wrote Done) (Fault g) h k = absurd (compiled_or_fault text g h k)
one_end text (Wrote Done) b h k = absurd k
one_end text (Fault f) (Wrote Done) h k = absurd (compiled_or_fault text f k h)
one_end text (Fault f) (Fault g) h k = ap (λ (x : ModelFault). Fault x) (one_text_fault text f g h k)
one_end text (Fault f) b h k = absurd k
one_end text a b h k = absurd h

given : (text : List ℕ) (outcome : Outcome) (written : List ℕ) → Gives text outcome written → HasEnd text (Wrote outcome)
given text Done written h = (h.within, record { model = h.compiled.model; says = h.compiled.says; light = h.compiled.light })
given text (Refused line) written h = absurd h
given text (Unknown count) written h = absurd h

-- what is said of each end decides which end a told text has
pub mode : (input : List ℕ) (end : End ModelFault) (seen : Seen) → OneTextRun (Some (longest_text + 1)) Gives HasFault input end seen → CompileMode input end seen
mode input end seen r = record {
  run = r;
  answers = answers (Some (longest_text + 1)) Gives HasFault HasEnd one_end given (λ text fault h. h) input seen end r.says;
}

-- where memory is wanting before the mode begins
pub idle : (input : List ℕ) (seen : Seen) → Untouched seen → CompileMode input Memory seen
idle input seen same = mode input Memory seen (one_idle (Some (longest_text + 1)) HasFault seen same Gives input)

-- a text below the limit and one byte is within it
pub within_limit : (text : List ℕ) → length text < 16777217 → length text ≤ longest_text
within_limit text h = omega arith

-- the headline of what was compiled
pub given_text : (text written : List ℕ) → length text < 16777217 → Compiles text written → Gives text Done written
given_text text written h c = headline text written (within_limit text h) c

-- the fault of a text within the limit
pub had_fault : (text : List ℕ) (f : ModelFault) → length text < 16777217 → IsFirstFault text f → HasFault text f
had_fault text f h first = inr (within_limit text h, first)

-- what a text that is made, and one that has a fault, give
pub ruleset ends = (given_text, had_fault, within_limit)
