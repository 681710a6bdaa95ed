-- What each end says in certify mode.
use Rattle.std.proofs.Common.{◌≡◌, ℕ, ◌+◌, ◌<◌, ◌≤◌, List, length, refl, sym, ap, ◌∙◌, inr, arith}
use Rattle.std.specs.Prelude.{Some}
use Rattle.std.proofs.lemmas.Bool.{true≢false}
use Rattle.model_meaning.specs.declared.model.Model.{Model}
use Rattle.answer_document.specs.Goals.{has_second}
use Rattle.text_modes.specs.Seen.{Seen, Untouched}
use Rattle.text_modes.specs.Ends.{IsFaultEnd}
use Rattle.text_modes.specs.Promises.{ToldUnder, ReadFailed, Answers, Finishes}
use Rattle.text_modes.proofs.Idle.{two_idle}
use Rattle.text_modes.specs.TwoTexts.{Texts, ToldBoth, EitherFailed, TwoTextRun}
use Rattle.text_modes.specs.declared.ends.Outcome.{Outcome}
use Rattle.text_modes.specs.declared.ends.Outcome.TheVariants.{Done, Refused, Unknown}
use Rattle.text_modes.specs.declared.ends.End.{End}
use Rattle.text_modes.specs.declared.ends.End.TheVariants.{Memory}
use Rattle.model_texts.specs.declared.fault.ModelFault.{ModelFault}
use Rattle.model_texts.specs.ModelTexts.{longest_text, IsFirstFault}
use Rattle.model_texts.specs.HeldModels.{HoldsModel}
use Rattle.model_texts.proofs.FirstFaults.{one_text_fault, no_text_fault}
use Rattle.model_texts.proofs.OneModel.{one_model}
use Rattle.certify_mode.specs.declared.fault.CertifyFault.{CertifyFault}
use Rattle.certify_mode.specs.declared.fault.CertifyFault.TheVariants.{Model as InModel, TwoObjectives}
use Rattle.certify_mode.specs.declared.holding.HeldCompilation.{HeldCompilation}
use Rattle.certify_mode.specs.Holding.{HoldsCompiled, HasTwo, HasFault}
use Rattle.certify_mode.specs.Certified.{IsCertifying, Gives}
use Rattle.certify_mode.specs.CertifyMode.{HasModel, CertifyMode}
use Rattle.answer_import.specs.FindingLaws.{ShowsOrFails, FailsOnce}
use Rattle.text_modes.proofs.TwoFree.{faulty, finishes}
use Rattle.certify_mode.proofs.Decided.{decides}

-- a model that is held has no fault
model_or_fault : (text : List ℕ) (model : Model) (fault : ModelFault) → HoldsModel text model → HasFault text (InModel fault) → ⊥
model_or_fault text model fault h k = no_text_fault text fault model h.within h.says h.light k

one_or_two : (text : List ℕ) (held : HeldCompilation) → HoldsCompiled text held → HasTwo text → ⊥
one_or_two text held h k =
    let same : held.model ≡ k.model = one_model text held.model k.model h.light.model.says k.held.says in
    true≢false (sym k.two ∙ ap (λ (m : Model). has_second m.goal) (sym same) ∙ h.one)

fit_or_fault : (text : List ℕ) (fault : CertifyFault) → HasModel text → HasFault text fault → ⊥
fit_or_fault text (InModel fault) h k = model_or_fault text h.0.model fault h.1.light.model k
fit_or_fault text TwoObjectives h k = one_or_two text h.0 h.1 k

one_fault : (text : List ℕ) (f g : CertifyFault) → HasFault text f → HasFault text g → f ≡ g
one_fault text (InModel f) (InModel g) h k = ap (λ (x : ModelFault). InModel x) (one_text_fault text f g h k)
one_fault text (InModel f) TwoObjectives h k = absurd (model_or_fault text k.model f k.held h)
one_fault text TwoObjectives (InModel g) h k = absurd (model_or_fault text h.model g h.held k)
one_fault text TwoObjectives TwoObjectives h k = refl

fit : (texts : Texts) (outcome : Outcome) (written : List ℕ) → Gives texts outcome written → HasModel texts.first
fit texts Done written h = (h.held, h.holds)
fit texts (Refused line) written h = (h.held, h.holds)
fit texts (Unknown count) written h = absurd h

module _ (input second : List ℕ) (end : End CertifyFault) (seen : Seen) (r : TwoTextRun (Some (longest_text + 1)) HasModel Gives HasFault input second end seen) where
  told_fault : Answers (ToldUnder input seen) (IsFaultEnd HasFault) (ReadFailed input seen) end seen
  told_fault = faulty (Some (longest_text + 1)) HasModel Gives HasFault fit_or_fault one_fault fit input second seen r.between end r.says

  told_text : Finishes (ToldBoth input second seen) (λ (texts : Texts). HasModel texts.first) (EitherFailed input second seen) end seen
  told_text = finishes (Some (longest_text + 1)) HasModel Gives HasFault fit_or_fault one_fault fit input second seen r.between end r.says

-- what is said of each end decides which fault a told model has, and how told texts end
pub mode : ShowsOrFails → FailsOnce → (input second : List ℕ) (end : End CertifyFault) (seen : Seen) → TwoTextRun (Some (longest_text + 1)) HasModel Gives HasFault input second end seen
    → CertifyMode input second end seen
mode either once input second end seen r = record {
  run = r;
  faulty = told_fault input second end seen r;
  finishes = told_text input second end seen r;
  decides = decides either once input second seen r.between r.first_taken.others_stay end r.says (told_text input second end seen r);
}

-- where memory is wanting before the mode begins
pub idle : (input second : List ℕ) (seen : Seen) → Untouched seen → CertifyMode input second Memory seen
idle input second seen same =
    let r = two_idle (Some (longest_text + 1)) HasFault seen same HasModel Gives input second in
    record {
      run = r;
      faulty = told_fault input second Memory seen r;
      finishes = told_text input second Memory seen r;
      decides = λ texts told is read write. inr refl;
    }

-- a text below the limit and one byte is within it
pub within_limit : (text : List ℕ) → length text < 16777217 → length text ≤ longest_text
within_limit text h = omega arith

-- the fault of a text within the limit
pub had_fault : (text : List ℕ) (f : ModelFault) → length text < 16777217 → IsFirstFault text f → HasFault text (InModel f)
had_fault text f h first = inr (within_limit text h, first)

-- what comes of what was found about the clauses of the model of a first text
pub given_text : (first second written : List ℕ) (held : HeldCompilation) (outcome : Outcome) → IsCertifying held second outcome written → HoldsCompiled first held
    → Gives (record { first = first; second = second }) outcome written
given_text first second written held Done h holds = record { held = held; holds = holds; tells = h }
given_text first second written held (Refused line) h holds = record { held = held; holds = holds; tells = h }
given_text first second written held (Unknown count) h holds = absurd h
