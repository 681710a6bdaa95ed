-- A text has one end in weigh mode.
use Rattle.std.proofs.Common.{◌≡◌, ℕ, ◌+◌, ◌<◌, ◌≤◌, List, length, refl, ap, subst, inr, arith}
use Rattle.std.specs.Prelude.{Some}
use Rattle.std.proofs.Common.{⊎_elim}
use Rattle.std.proofs.lemmas.Bool.{cases_lt}
use Rattle.text_modes.specs.Seen.{Seen, Untouched}
use Rattle.text_modes.specs.OneText.{OneTextRun}
use Rattle.text_modes.specs.declared.ends.Outcome.{Outcome}
use Rattle.text_modes.specs.declared.ends.Outcome.TheVariants.{Done, Refused, Unknown}
use Rattle.text_modes.specs.declared.ends.End.{End}
use Rattle.text_modes.specs.declared.ends.End.TheVariants.{Wrote, Fault, Memory}
use Rattle.text_modes.proofs.OneAnswer.{answers}
use Rattle.text_modes.proofs.Idle.{one_idle}
use Rattle.model_meaning.specs.declared.model.Model.{Model}
use Rattle.model_weight.specs.Weight.{weight_of}
use Rattle.model_lower.specs.Weighed.{most_weight}
use Rattle.model_texts.specs.declared.fault.ModelFault.{ModelFault}
use Rattle.model_texts.specs.declared.fault.ModelFault.TheVariants as fault
use Rattle.model_texts.specs.ModelTexts.{longest_text, IsModelOf, IsFirstFault, HasFault}
use Rattle.model_texts.proofs.FirstFaults.{one_text_fault, no_text_fault}
use Rattle.weigh_mode.specs.WeighMode.{HasFormFault, form_fault_of, Gives, HasEnd, WeighMode}

-- a fault of the form is a fault, and each fault but a weight is one of the form
had : (text : List ℕ) (f : ModelFault) → HasFormFault text f → HasFault text f
had text (fault.TooHeavy weight) h = absurd h
had text f h = h

pub told : (text : List ℕ) (f g : ModelFault) → length text ≤ longest_text → IsFirstFault text f → form_fault_of f ≡ Some g
    → HasFormFault text g
told text f g within first e = by f (inr (within, first)) e
  where
    same : (f g : ModelFault) → Some f ≡ Some g → f ≡ g
    same f g e = cc

    by : (f : ModelFault) → HasFault text f → form_fault_of f ≡ Some g → HasFormFault text g
    by (fault.TooHeavy weight) h e = absurd (let c = e in cc)
    by fault.TooLong h e = subst (λ (x : ModelFault). HasFormFault text x) (same fault.TooLong g e) h
    by (fault.Syntax line) h e = subst (λ (x : ModelFault). HasFormFault text x) (same (fault.Syntax line) g e) h
    by (fault.Number line) h e = subst (λ (x : ModelFault). HasFormFault text x) (same (fault.Number line) g e) h
    by (fault.Typed t) h e = subst (λ (x : ModelFault). HasFormFault text x) (same (fault.Typed t) g e) h
    by (fault.Cnf line) h e = subst (λ (x : ModelFault). HasFormFault text x) (same (fault.Cnf line) g e) h

-- a text that says a model, whatever it weighs, has no fault of the form
said : (text : List ℕ) (f : ModelFault) (m : Model) → length text ≤ longest_text → IsModelOf text m → HasFormFault text f → ⊥
said text f m within says h = ⊎_elim heavy light (cases_lt most_weight (weight_of m))
  where
    heavy : most_weight < weight_of m → ⊥
    heavy more =
        let e = one_text_fault text f (fault.TooHeavy (weight_of m)) (had text f h) (inr (within, (m, says, more, refl))) in
        subst (λ (x : ModelFault). HasFormFault text x) e h

    light : weight_of m ≤ most_weight → ⊥
    light most = no_text_fault text f m within says most (had text f h)

one_end : (text : List ℕ) (a b : End ModelFault) → HasEnd text a → HasEnd text b → a ≡ b
one_end text (Wrote Done) (Wrote Done) h k = refl
one_end text (Wrote Done) (Fault g) h k = absurd (said text g h.1 h.0 h.2 k)
one_end text (Wrote Done) b h k = absurd k
one_end text (Fault f) (Wrote Done) h k = absurd (said text f k.1 k.0 k.2 h)
one_end text (Fault f) (Fault g) h k =
    ap (λ (x : ModelFault). Fault x) (one_text_fault text f g (had text f h) (had text g k))
one_end text (Fault f) b h k = absurd k
one_end text a b h k = absurd h

given : (text : List ℕ) (outcome : Outcome) (written : List ℕ) → Gives text outcome written → HasEnd text (Wrote outcome)
given text Done written h = (h.within, h.model, h.says)
given text (Refused line) written h = absurd h
given text (Unknown count) written h = absurd h

-- what is said of each end decides which end a told text has
pub mode : (input : List ℕ) (end : End ModelFault) (seen : Seen)
    → OneTextRun (Some (longest_text + 1)) Gives HasFormFault input end seen → WeighMode input end seen
mode input end seen r = record {
  run = r;
  answers = answers (Some (longest_text + 1)) Gives HasFormFault HasEnd one_end given (λ text fault h. h) input seen end r.says;
}

-- where memory is wanting before the mode begins
pub idle : (input : List ℕ) (seen : Seen) → Untouched seen → WeighMode input Memory seen
idle input seen same = mode input Memory seen (one_idle (Some (longest_text + 1)) HasFormFault seen same Gives input)

-- a text below the limit and one byte is within it
pub within_limit : (text : List ℕ) → length text < 16777217 → length text ≤ longest_text
within_limit text h = omega arith
