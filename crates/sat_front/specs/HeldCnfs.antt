-- The CNF that a whole text holds, and which fault a text has.
use Rattle.std.specs.Prelude.{ℕ, ◌<◌, ◌≤◌, List, length}
use Rattle.order_ints.specs.declared.cnf.Cnf.{Cnf}
use Rattle.sat_front.specs.declared.text_fault.CnfTextFault.{CnfTextFault}
use Rattle.sat_front.specs.declared.text_fault.CnfTextFault.TheVariants.{TooLong, Form}
use Rattle.sat_front.specs.CnfLines.{IsCnfText, CnfFails}

-- the greatest number of bytes of a text
abbrev pub longest_text : ℕ
longest_text = 16777216

-- the text is within the limit and lists clauses, whose CNF in order this is
pub record HoldsCnf (text : List ℕ) (cnf : Cnf) : Type 0 where
  pub within : length text ≤ longest_text
  pub is : IsCnfText text cnf

-- a text lists clauses within the limit
abbrev pub HasCnf : List ℕ → Type 0
HasCnf text = (cnf : Cnf) × HoldsCnf text cnf

-- the fault of a text: it is too long, or else this line is the first that doesn't fit
abbrev pub HasFault : List ℕ → CnfTextFault → Type 0
HasFault text TooLong = longest_text < length text
HasFault text (Form line) = (length text ≤ longest_text) × CnfFails text line
