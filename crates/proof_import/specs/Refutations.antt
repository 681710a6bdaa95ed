-- A refutation is a proof with hints, where its first line says so, and else one without.
use Rattle.std.specs.Prelude.{ℕ, Bool, true, false, List}
use Rattle.order_ints.specs.declared.cnf.Cnf.{Cnf}
use Rattle.drup_check.specs.DrupLines.{IsDrup, DrupFails}
use Rattle.drup_check.specs.declared.fault.DrupFault.{DrupFault}
use Rattle.drup_check.specs.declared.fault.DrupFault.TheVariants.{Refused, Memory}
use Rattle.lrat_check.specs.Kinds.{is_lrat_text}
use Rattle.lrat_check.specs.LratLines.{IsLrat, LratFails}

abbrev pub RefutedBy : Bool → Cnf → List ℕ → Type 0
RefutedBy true cnf text = IsLrat cnf text
RefutedBy false cnf text = IsDrup cnf text

abbrev pub FailsAs : Bool → Cnf → List ℕ → ℕ → Type 0
FailsAs true cnf text line = LratFails cnf text line
FailsAs false cnf text line = DrupFails cnf text line

-- the text is a refutation of the CNF
abbrev pub IsRefutation : Cnf → List ℕ → Type 0
IsRefutation cnf text = RefutedBy (is_lrat_text text) cnf text

-- the line of this number is the first that fails, or the one behind the last where nothing is shown
abbrev pub RefutationFails : Cnf → List ℕ → ℕ → Type 0
RefutationFails cnf text line = FailsAs (is_lrat_text text) cnf text line

-- a refused line is the first that fails
abbrev pub LratFaultOf : Cnf → List ℕ → DrupFault → Type 0
LratFaultOf cnf text (Refused line) = LratFails cnf text line
LratFaultOf cnf text Memory = Unit {0}

abbrev pub RefutationFaultOf : Cnf → List ℕ → DrupFault → Type 0
RefutationFaultOf cnf text (Refused line) = RefutationFails cnf text line
RefutationFaultOf cnf text Memory = Unit {0}
