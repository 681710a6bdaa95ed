-- A text that holds a CNF has no fault, and another one has one.
use Rattle.std.proofs.Common.{◌≡◌, ℕ, ◌<◌, ◌≤◌, List, length, refl, ap, arith}
use Rattle.sat_front.specs.declared.text_fault.CnfTextFault.{CnfTextFault}
use Rattle.sat_front.specs.declared.text_fault.CnfTextFault.TheVariants.{TooLong, Form}
use Rattle.sat_front.specs.HeldCnfs.{longest_text, HasCnf, HasFault}
use Rattle.sat_front.proofs.Exact.{text_fits, line_same}

pub fit_or_fault : (text : List ℕ) (fault : CnfTextFault) → HasCnf text → HasFault text fault → ⊥
fit_or_fault text TooLong h k = omega (arith, h.1.within, k)
fit_or_fault text (Form line) h k = text_fits text h.0 line h.1.is k.1

pub one_fault : (text : List ℕ) (f g : CnfTextFault) → HasFault text f → HasFault text g → f ≡ g
one_fault text TooLong TooLong h k = refl
one_fault text TooLong (Form n) h k = absurd (omega (arith, h, k.0))
one_fault text (Form m) TooLong h k = absurd (omega (arith, h.0, k))
one_fault text (Form m) (Form n) h k = ap Form (line_same text m n h.1 k.1)

-- a text below the limit and one byte is within it
pub within_limit : (text : List ℕ) → length text < 16777217 → length text ≤ longest_text
within_limit text h = omega arith
