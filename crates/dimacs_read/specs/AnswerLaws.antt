-- Each text has an answer.
use Rattle.std.specs.Prelude.{◌⊎◌, ℕ, Bool, List}
use Rattle.order_ints.specs.declared.cnf.Cnf.{Cnf}
use Rattle.dimacs_out.specs.declared.text.CnfText.{CnfText}
use Rattle.dimacs_read.specs.TextLines.{IsTextOf}
use Rattle.dimacs_read.specs.TextSteps.{TextFails}
use Rattle.dimacs_read.specs.Values.{IsValues, ValuesFail}

-- it is a compiled text, or a line of it fails
abbrev pub TextOrLine : Type 0
TextOrLine = (text : List ℕ) → ((x : CnfText) × IsTextOf x text) ⊎ ((line : ℕ) × TextFails text line)

-- and for a CNF it is in the form of values, or a line of it fails
abbrev pub ValuesOrLine : Type 0
ValuesOrLine = (cnf : Cnf) (text : List ℕ) → ((values : List Bool) × IsValues cnf text values)
    ⊎ ((line : ℕ) × ValuesFail cnf text line)
