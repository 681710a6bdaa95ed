-- What a fault of a text says.
use Rattle.std.specs.Prelude.{◌≡◌, ℕ, List, Result, Ok, Err}
use Rattle.order_ints.specs.declared.cnf.Cnf.{Cnf}
use Rattle.dimacs_read.specs.declared.fault.CompiledTextFault.{CompiledTextFault}
use Rattle.dimacs_read.specs.declared.fault.CompiledTextFault.TheVariants.{Form, Memory}
use Rattle.dimacs_read.specs.declared.fault.ValuesTextFault.{ValuesTextFault}
use Rattle.dimacs_read.specs.declared.fault.ValuesTextFault.TheVariants as values_fault
use Rattle.dimacs_read.specs.Values.{ValuesFail}
use Rattle.dimacs_read.specs.TextSteps.{TextFails}

-- a line that is named is the first that fails
abbrev pub ValuesFault : Cnf → List ℕ → ValuesTextFault → Type 0
ValuesFault cnf text (values_fault.Misfit line) = ValuesFail cnf text line
ValuesFault cnf text (values_fault.Missing line) = ValuesFail cnf text line
ValuesFault cnf text values_fault.Memory = Unit {0}

abbrev pub TextFaultOf : List ℕ → CompiledTextFault → Type 0
TextFaultOf text (Form line) = TextFails text line
TextFaultOf text Memory = Unit {0}

-- Whether a result is this, as it is seen. Want of memory is no answer.
abbrev pub IsReadAs : {X Y : Type 0} → (X → Y) → Result X CompiledTextFault → Y → Type 0
IsReadAs view (Ok x) y = view x ≡ y
IsReadAs view (Err (Form line)) y = ⊥
IsReadAs view (Err Memory) y = Unit {0}

-- Whether a result names this line. Want of memory is no answer.
abbrev pub FailsAt : {X : Type 0} → Result X CompiledTextFault → ℕ → Type 0
FailsAt (Ok x) line = ⊥
FailsAt (Err (Form n)) line = n ≡ line
FailsAt (Err Memory) line = Unit {0}

-- the same of values
abbrev pub AreReadAs : {X Y : Type 0} → (X → Y) → Result X ValuesTextFault → Y → Type 0
AreReadAs view (Ok x) y = view x ≡ y
AreReadAs view (Err (values_fault.Misfit line)) y = ⊥
AreReadAs view (Err (values_fault.Missing line)) y = ⊥
AreReadAs view (Err values_fault.Memory) y = Unit {0}

abbrev pub FailAt : {X : Type 0} → Result X ValuesTextFault → ℕ → Type 0
FailAt (Ok x) line = ⊥
FailAt (Err (values_fault.Misfit n)) line = n ≡ line
FailAt (Err (values_fault.Missing n)) line = n ≡ line
FailAt (Err values_fault.Memory) line = Unit {0}
