-- Two texts have one end in drup mode.
use Rattle.std.proofs.Common.{◌≡◌, ℕ, ◌+◌, ◌<◌, ◌≤◌, ◌^◌, List, length, refl, ap, subst, arith}
use Rattle.std.specs.Prelude.{Some}
use Rattle.order_ints.specs.declared.cnf.Cnf.{Cnf}
use Rattle.sat_front.specs.declared.text_fault.CnfTextFault.{CnfTextFault}
use Rattle.sat_front.specs.declared.text_fault.CnfTextFault.TheVariants.{Form}
use Rattle.sat_front.specs.CnfLines.{IsCnfText, CnfFails}
use Rattle.sat_front.specs.HeldCnfs.{longest_text, HoldsCnf, HasCnf, HasFault}
use Rattle.sat_front.proofs.Exact.{text_same}
use Rattle.sat_front.proofs.Reading.{read_in_range}
use Rattle.sat_front.proofs.TextFaults.{fit_or_fault, one_fault, within_limit}
use Rattle.drup_check.specs.DrupLines.{DrupFails}
use Rattle.drup_check.proofs.Exact.{proof_fits, line_same}
use Rattle.drup_check.proofs.Proved.{none_of_text}
use Rattle.text_modes.specs.Seen.{Seen, Untouched}
use Rattle.text_modes.specs.TwoTexts.{Texts, TwoTextRun}
use Rattle.text_modes.specs.declared.ends.Outcome.{Outcome}
use Rattle.text_modes.specs.declared.ends.Outcome.TheVariants.{Done, Refused, Unknown}
use Rattle.text_modes.specs.declared.ends.End.{End}
use Rattle.text_modes.specs.declared.ends.End.TheVariants.{Wrote, Memory}
use Rattle.text_modes.proofs.Idle.{two_idle}
use Rattle.text_modes.proofs.TwoAnswers.{faulty, answers, finishes}
use Rattle.drup_mode.specs.Proved.{IsCheck, Gives, IsProved, FailsBehind}
use Rattle.drup_mode.specs.DrupMode.{HaveEnd, DrupMode}

same_cnf : (text : List ℕ) (x y : Cnf) → HoldsCnf text x → HoldsCnf text y → x ≡ y
same_cnf text x y h k = text_same text x y h.is k.is

few : (text : List ℕ) (cnf : Cnf) → HoldsCnf text cnf → cnf.vars ≤ 2 ^ 27
few text cnf h = let small : cnf.vars ≤ 67108864 = (read_in_range text cnf h.is).1 in omega arith

proof_or_line : (texts : Texts) (line : ℕ) → IsProved texts → FailsBehind line texts → ⊥
proof_or_line texts line h k =
    let same : k.cnf ≡ h.cnf = same_cnf texts.first k.cnf h.cnf k.held h.held in
    let P : Cnf → Type 0 = λ x. DrupFails x texts.second line in
    proof_fits h.cnf (few texts.first h.cnf h.held) texts.second line h.proof (subst P same k.fails)

one_line : (texts : Texts) (m n : ℕ) → FailsBehind m texts → FailsBehind n texts → m ≡ n
one_line texts m n h k =
    let same : k.cnf ≡ h.cnf = same_cnf texts.first k.cnf h.cnf k.held h.held in
    let P : Cnf → Type 0 = λ x. DrupFails x texts.second n in
    line_same h.cnf (few texts.first h.cnf h.held) texts.second m n h.fails (subst P same k.fails)

one_end : (texts : Texts) (a b : End CnfTextFault) → HaveEnd texts a → HaveEnd texts b → a ≡ b
one_end texts (Wrote Done) (Wrote Done) h k = refl
one_end texts (Wrote Done) (Wrote (Refused n)) h k = absurd (proof_or_line texts n h k)
one_end texts (Wrote Done) b h k = absurd k
one_end texts (Wrote (Refused m)) (Wrote Done) h k = absurd (proof_or_line texts m k h)
one_end texts (Wrote (Refused m)) (Wrote (Refused n)) h k = ap (λ (l : ℕ). Wrote (Refused l)) (one_line texts m n h k)
one_end texts (Wrote (Refused m)) b h k = absurd k
one_end texts a b h k = absurd h

given : (texts : Texts) (outcome : Outcome) (written : List ℕ) → Gives texts outcome written → HasCnf texts.first × HaveEnd texts (Wrote outcome)
given texts Done written h = ((h.cnf, h.held), record { cnf = h.cnf; held = h.held; proof = h.tells.is })
given texts (Refused line) written h = ((h.cnf, h.held), record { cnf = h.cnf; held = h.held; fails = h.tells.fails })
given texts (Unknown count) written h = absurd h

fit : (texts : Texts) (end : End CnfTextFault) → HaveEnd texts end → HasCnf texts.first
fit texts (Wrote Done) h = (h.cnf, h.held)
fit texts (Wrote (Refused line)) h = (h.cnf, h.held)
fit texts end h = absurd h

-- what is said of each end decides which end told texts have
pub mode : (input second : List ℕ) (end : End CnfTextFault) (seen : Seen) → TwoTextRun (Some (longest_text + 1)) HasCnf Gives HasFault input second end seen → DrupMode input second end seen
mode input second end seen r = record {
  run = r;
  faulty = faulty (Some (longest_text + 1)) HasCnf Gives HasFault HaveEnd fit_or_fault one_fault given fit one_end input second seen r.between end r.says;
  answers = answers (Some (longest_text + 1)) HasCnf Gives HasFault HaveEnd fit_or_fault one_fault given fit one_end input second seen r.between r.first_taken.others_stay end r.says;
  finishes = finishes (Some (longest_text + 1)) HasCnf Gives HasFault HaveEnd fit_or_fault one_fault given fit one_end input second seen r.between end r.says;
}

-- where memory is wanting before the mode begins
pub idle : (input second : List ℕ) (seen : Seen) → Untouched seen → DrupMode input second Memory seen
idle input second seen same = mode input second Memory seen (two_idle (Some (longest_text + 1)) HasFault seen same HasCnf Gives input second)

-- the CNF, or the fault, of a text below the limit and one byte
pub held_within : (text : List ℕ) (cnf : Cnf) → length text < 16777217 → IsCnfText text cnf → HoldsCnf text cnf
held_within text cnf low is = record { within = within_limit text low; is = is }

pub form_within : (text : List ℕ) (line : ℕ) → length text < 16777217 → CnfFails text line → HasFault text (Form line)
form_within text line low fails = (within_limit text low, fails)

-- what comes of a proof from the CNF of a first text
pub given_text : (first second written : List ℕ) (cnf : Cnf) (outcome : Outcome) → IsCheck cnf second outcome written → HoldsCnf first cnf
    → Gives (record { first = first; second = second }) outcome written
given_text first second written cnf Done h held = record { cnf = cnf; held = held; tells = h; none = none_of_text first second cnf held.is h.is }
given_text first second written cnf (Refused line) h held = record { cnf = cnf; held = held; tells = h }
given_text first second written cnf (Unknown count) h held = absurd h
