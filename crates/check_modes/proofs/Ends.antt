-- Two texts have one end, where a kind's models, faults and lines are one each.
use Rattle.std.proofs.Common.{◌≡◌, ◌⊎◌, ℕ, ◌+◌, ◌<◌, ◌≤◌, List, length, refl, ap, subst, inl, inr, arith}
use Rattle.std.specs.Prelude.{Some}
use Rattle.model_meaning.specs.declared.model.Model.{Model}
use Rattle.text_modes.specs.Seen.{ShelfShown, Seen, Untouched}
use Rattle.text_modes.proofs.Idle.{two_idle}
use Rattle.text_modes.specs.TwoTexts.{Texts, HoldsSome, Says, TwoTextRun}
use Rattle.text_modes.proofs.TwoAnswers.{faulty, answers}
use Rattle.text_modes.specs.declared.ends.Outcome.{Outcome}
use Rattle.text_modes.specs.declared.ends.Outcome.TheVariants.{Done, Refused, Unknown}
use Rattle.text_modes.specs.declared.ends.End.{End}
use Rattle.text_modes.specs.declared.ends.End.TheVariants.{Wrote, Fault, Read, Write, Memory}
use Rattle.model_texts.specs.declared.fault.ModelFault.{ModelFault}
use Rattle.model_texts.specs.ModelTexts.{longest_text}
use Rattle.check_modes.specs.Kinds.{Kind, HasFault, HasModel, Gives, IsValidBehind, FailsBehind, HaveEnd}
use Rattle.check_modes.specs.Checks.{CheckRun, Checks, TextsAnswer}

-- what makes the end of two texts one
pub record IsOneEach {V : Type 0} (kind : Kind V) : Type 0 where
  pub one_model : (text : List ℕ) (m n : Model) → kind.Holds text m → kind.Holds text n → m ≡ n
  pub one_fault : (text : List ℕ) (f g : ModelFault) → HasFault kind text f → HasFault kind text g → f ≡ g
  pub fit_or_fault : (text : List ℕ) (m : Model) (f : ModelFault) → kind.Holds text m → HasFault kind text f → ⊥
  pub true_valid : (m : Model) (text : List ℕ) (v : V) → kind.IsTrue m text v → kind.IsValid m text v
  pub valid_or_line : (m : Model) (text : List ℕ) (v : V) (line : ℕ) → kind.IsValid m text v → kind.Fails m text line → ⊥
  pub one_line : (first : List ℕ) (m : Model) (text : List ℕ) (k n : ℕ) → kind.Holds first m → kind.Fails m text k → kind.Fails m text n → k ≡ n

-- what makes it that there is one
pub record IsSomeEach {V : Type 0} (kind : Kind V) : Type 0 where
  pub fault_or_model : (text : List ℕ) → ((f : ModelFault) × HasFault kind text f) ⊎ HasModel kind text
  pub valid_or_line : (first : List ℕ) (m : Model) (text : List ℕ) → kind.Holds first m → ((v : V) → kind.IsValid m text v → ⊥) → ((line : ℕ) → kind.Fails m text line → ⊥) → ⊥

pub texts_answer : {V : Type 0} → (kind : Kind V) → IsSomeEach kind → TextsAnswer kind
texts_answer {V} kind some texts no-fault none = by (some.fault_or_model texts.first)
  where
    by : ((f : ModelFault) × HasFault kind texts.first f) ⊎ HasModel kind texts.first → ⊥
    by (inl f) = no-fault f.0 f.1
    by (inr m) =
        some.valid_or_line texts.first m.0 texts.second m.1
        (λ v valid. none (Wrote Done) (record { model = m.0; held = m.1; verdict = v; valid = valid }))
        (λ line fails. none (Wrote (Refused line)) (record { model = m.0; held = m.1; fails = fails }))

module _ {V : Type 0} (kind : Kind V) (one : IsOneEach kind) where
  valid_or_line : (texts : Texts) (line : ℕ) → IsValidBehind kind texts → FailsBehind kind line texts → ⊥
  valid_or_line texts line h k =
      let same : k.model ≡ h.model = one.one_model texts.first k.model h.model k.held h.held in
      let P : Model → Type 0 = λ m. kind.Fails m texts.second line in
      one.valid_or_line h.model texts.second h.verdict line h.valid (subst P same k.fails)

  one_line : (texts : Texts) (m n : ℕ) → FailsBehind kind m texts → FailsBehind kind n texts → m ≡ n
  one_line texts m n h k =
      let same : k.model ≡ h.model = one.one_model texts.first k.model h.model k.held h.held in
      let P : Model → Type 0 = λ x. kind.Fails x texts.second n in
      one.one_line texts.first h.model texts.second m n h.held h.fails (subst P same k.fails)

  one_end : (texts : Texts) (a b : End ModelFault) → HaveEnd kind texts a → HaveEnd kind texts b → a ≡ b
  one_end texts (Wrote Done) (Wrote Done) h k = refl
  one_end texts (Wrote Done) (Wrote (Refused n)) h k = absurd (valid_or_line texts n h k)
  one_end texts (Wrote Done) b h k = absurd k
  one_end texts (Wrote (Refused m)) (Wrote Done) h k = absurd (valid_or_line texts m k h)
  one_end texts (Wrote (Refused m)) (Wrote (Refused n)) h k = ap (λ (l : ℕ). Wrote (Refused l)) (one_line texts m n h k)
  one_end texts (Wrote (Refused m)) b h k = absurd k
  one_end texts a b h k = absurd h

  fit_or_fault : (text : List ℕ) (fault : ModelFault) → HasModel kind text → HasFault kind text fault → ⊥
  fit_or_fault text fault h k = one.fit_or_fault text h.0 fault h.1 k

  given : (texts : Texts) (outcome : Outcome) (written : List ℕ) → Gives kind texts outcome written → HasModel kind texts.first × HaveEnd kind texts (Wrote outcome)
  given texts Done written h =
      ((h.model, h.held), record { model = h.model; held = h.held; verdict = h.verdict; valid = one.true_valid h.model texts.second h.verdict h.is })
  given texts (Refused line) written h = ((h.model, h.held), record { model = h.model; held = h.held; fails = h.fails })
  given texts (Unknown count) written h = absurd h

  fit : (texts : Texts) (end : End ModelFault) → HaveEnd kind texts end → HasModel kind texts.first
  fit texts (Wrote Done) h = (h.model, h.held)
  fit texts (Wrote (Refused line)) h = (h.model, h.held)
  fit texts end h = absurd h

  -- what is said of each end decides which end told texts have
  pub checks : (input second : List ℕ) (end : End ModelFault) (seen : Seen) → CheckRun kind input second end seen → Checks kind input second end seen
  checks input second end seen r = record {
    run = r;
    faulty = faulty (Some (longest_text + 1)) (HasModel kind) (Gives kind) (HasFault kind) (HaveEnd kind) fit_or_fault one.one_fault given fit one_end input second seen r.between end r.says;
    answers = answers (Some (longest_text + 1)) (HasModel kind) (Gives kind) (HasFault kind) (HaveEnd kind) fit_or_fault one.one_fault given fit one_end input second seen r.between r.first_taken.others_stay end r.says;
  }

  -- where memory is wanting before the mode begins
  pub idle : (input second : List ℕ) (seen : Seen) → Untouched seen → Checks kind input second Memory seen
  idle input second seen same = checks input second Memory seen (two_idle (Some (longest_text + 1)) (HasFault kind) seen same (HasModel kind) (Gives kind) input second)

-- a text below the limit and one byte is within it
pub within_limit : (text : List ℕ) → length text < 16777217 → length text ≤ longest_text
within_limit text h = omega arith

-- a run whose first text is fit where something is held of it, as one whose first text is fit where it holds a model
module _ {V H : Type 0} (kind : Kind V) (HoldsAs : List ℕ → H → Type 0) (model : (text : List ℕ) → HoldsSome HoldsAs text → HasModel kind text) where
  says : (input second : List ℕ) (between : ShelfShown) (end : End ModelFault) (seen : Seen) → Says (Some (longest_text + 1)) (HoldsSome HoldsAs) (Gives kind) (HasFault kind) input second between end seen
      → Says (Some (longest_text + 1)) (HasModel kind) (Gives kind) (HasFault kind) input second between end seen
  says input second between (Wrote outcome) seen s = s
  says input second between (Fault fault) seen s = s
  says input second between Read seen (inl s) = inl s
  says input second between Read seen (inr s) = inr (record { text = s.text; read = s.read; fit = model s.text s.fit; failed = s.failed })
  says input second between Write seen s = s
  says input second between Memory seen s = s

  pub check_run : (input second : List ℕ) (end : End ModelFault) (seen : Seen) → TwoTextRun (Some (longest_text + 1)) (HoldsSome HoldsAs) (Gives kind) (HasFault kind) input second end seen
      → CheckRun kind input second end seen
  check_run input second end seen r = record {
    between = r.between;
    says = says input second r.between end seen r.says;
    silent = r.silent;
    read_faults = r.read_faults;
    write_faults = r.write_faults;
    first_taken = r.first_taken;
    second_taken = r.second_taken;
  }
