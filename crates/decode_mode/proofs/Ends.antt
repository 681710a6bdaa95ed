-- Two texts have one end in decode mode.
use Rattle.std.proofs.Common.{◌≡◌, ℕ, ◌^◌, ◌<◌, List, refl, ap, subst, arith}
use Rattle.dimacs_out.specs.declared.text.CnfText.{CnfText}
use Rattle.dimacs_read.specs.TextLines.{IsTextOf}
use Rattle.dimacs_read.specs.TextSteps.{TextFails}
use Rattle.dimacs_read.specs.Values.{ValuesFail}
use Rattle.dimacs_read.proofs.Exact.{values_fit, line_same, text_same, text_fits, text_line_same}
use Rattle.text_modes.specs.Seen.{Seen, Untouched}
use Rattle.text_modes.proofs.Idle.{two_idle}
use Rattle.text_modes.specs.TwoTexts.{Texts, TwoTextRun}
use Rattle.text_modes.proofs.TwoAnswers.{faulty, answers}
use Rattle.text_modes.specs.declared.ends.Outcome.{Outcome}
use Rattle.text_modes.specs.declared.ends.Outcome.TheVariants.{Done, Refused, Unknown}
use Rattle.text_modes.specs.declared.ends.End.{End}
use Rattle.text_modes.specs.declared.ends.End.TheVariants.{Wrote, Memory}
use Rattle.std.specs.Prelude.{None, Some}
use Rattle.decode_mode.specs.Decoded.{HasForm, Gives, InForm, FailsBehind}
use Rattle.decode_mode.specs.DecodeMode.{HaveEnd, DecodeMode}

few_variables : (x : CnfText) (text : List ℕ) → IsTextOf x text → x.cnf.vars < 2 ^ 32
few_variables x text h = omega (arith, h.readable.vars)

form_or_line : (texts : Texts) (line : ℕ) → InForm texts → FailsBehind line texts → ⊥
form_or_line texts line h k =
    let same : k.held ≡ h.held = text_same texts.first k.held h.held k.form h.form in
    let P : CnfText → Type 0 = λ x. ValuesFail x.cnf texts.second line in
    values_fit h.held.cnf (few_variables h.held texts.first h.form) texts.second h.values line h.told (subst P same k.fails)

one_line : (texts : Texts) (m n : ℕ) → FailsBehind m texts → FailsBehind n texts → m ≡ n
one_line texts m n h k =
    let same : k.held ≡ h.held = text_same texts.first k.held h.held k.form h.form in
    let P : CnfText → Type 0 = λ x. ValuesFail x.cnf texts.second n in
    line_same h.held.cnf (few_variables h.held texts.first h.form) texts.second m n h.fails (subst P same k.fails)

one_end : (texts : Texts) (a b : End ℕ) → HaveEnd texts a → HaveEnd texts b → a ≡ b
one_end texts (Wrote Done) (Wrote Done) h k = refl
one_end texts (Wrote Done) (Wrote (Refused n)) h k = absurd (form_or_line texts n h k)
one_end texts (Wrote Done) b h k = absurd k
one_end texts (Wrote (Refused m)) (Wrote Done) h k = absurd (form_or_line texts m k h)
one_end texts (Wrote (Refused m)) (Wrote (Refused n)) h k = ap (λ (l : ℕ). Wrote (Refused l)) (one_line texts m n h k)
one_end texts (Wrote (Refused m)) b h k = absurd k
one_end texts a b h k = absurd h

fit_or_fault : (text : List ℕ) (line : ℕ) → HasForm text → TextFails text line → ⊥
fit_or_fault text line h k = text_fits text h.0 line h.1 k

given : (texts : Texts) (outcome : Outcome) (written : List ℕ) → Gives texts outcome written → HasForm texts.first × HaveEnd texts (Wrote outcome)
given texts Done written h = ((h.held, h.form), record { held = h.held; form = h.form; values = h.tells.values; told = h.tells.told })
given texts (Refused line) written h = ((h.held, h.form), record { held = h.held; form = h.form; fails = h.tells.fails })
given texts (Unknown count) written h = absurd h

fit : (texts : Texts) (end : End ℕ) → HaveEnd texts end → HasForm texts.first
fit texts (Wrote Done) h = (h.held, h.form)
fit texts (Wrote (Refused line)) h = (h.held, h.form)
fit texts end h = absurd h

-- what is said of each end decides which end told texts have
pub mode : (input second : List ℕ) (end : End ℕ) (seen : Seen) → TwoTextRun None HasForm Gives TextFails input second end seen → DecodeMode input second end seen
mode input second end seen r = record {
  run = r;
  faulty = faulty None HasForm Gives TextFails HaveEnd fit_or_fault text_line_same given fit one_end input second seen r.between end r.says;
  answers = answers None HasForm Gives TextFails HaveEnd fit_or_fault text_line_same given fit one_end input second seen r.between r.first_taken.others_stay end r.says;
}

-- where memory is wanting before the mode begins
pub idle : (input second : List ℕ) (seen : Seen) → Untouched seen → DecodeMode input second Memory seen
idle input second seen same = mode input second Memory seen (two_idle None TextFails seen same HasForm Gives input second)

-- where there is no limit, no text reaches it
pub never_too_long : (text : List ℕ) (n line : ℕ) → None ≡ Some n → TextFails text line
never_too_long text n line e = absurd (let c = e in cc)
