-- What a fault of a text says.
use Rattle.std.specs.Prelude.{◌≡◌, ℕ, List, Result, Ok, Err}
use Rattle.order_ints.specs.declared.cnf.Cnf.{Cnf}
use Rattle.sat_front.specs.declared.fault.CnfFault.{CnfFault}
use Rattle.sat_front.specs.declared.fault.CnfFault.TheVariants.{Form, Memory}
use Rattle.sat_front.specs.CnfLines.{CnfFails}

-- a line that is named is the first that doesn't fit
abbrev pub CnfFaultOf : List ℕ → CnfFault → Type 0
CnfFaultOf text (Form line) = CnfFails text line
CnfFaultOf text Memory = Unit {0}

-- Whether a result is this CNF. Want of memory is no answer.
abbrev pub IsReadAs : Result Cnf CnfFault → Cnf → Type 0
IsReadAs (Ok x) cnf = x ≡ cnf
IsReadAs (Err (Form line)) cnf = ⊥
IsReadAs (Err Memory) cnf = Unit {0}

-- Whether a result names this line. Want of memory is no answer.
abbrev pub FailsAt : Result Cnf CnfFault → ℕ → Type 0
FailsAt (Ok x) line = ⊥
FailsAt (Err (Form n)) line = n ≡ line
FailsAt (Err Memory) line = Unit {0}
