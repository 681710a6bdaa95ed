-- Each text has one answer.
use Rattle.std.specs.Prelude.{◌≡◌, ℕ, List}
use Rattle.order_ints.specs.declared.cnf.Cnf.{Cnf}
use Rattle.lrat_check.specs.LratLines.{IsLrat, LratFails}

-- no line of a proof fails
abbrev pub ProofsFit : Type 0
ProofsFit = (cnf : Cnf) (text : List ℕ) (line : ℕ) → IsLrat cnf text → LratFails cnf text line → ⊥

-- one line of another text is the first that fails
abbrev pub OneFails : Type 0
OneFails = (cnf : Cnf) (text : List ℕ) (m n : ℕ) → LratFails cnf text m → LratFails cnf text n → m ≡ n
