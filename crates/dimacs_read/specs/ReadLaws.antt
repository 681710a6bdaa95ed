-- The laws of what is read that other crates build on.
use Rattle.std.specs.Prelude.{ℕ, ◌^◌, ◌≤◌, Bool, List, [], ◌∷◌}
use Rattle.order_ints.specs.declared.cnf.Cnf.{Cnf}
use Rattle.order_ints.specs.Truth.{valuation_of}
use Rattle.order_ints.specs.Satisfies.{Satisfies}
use Rattle.order_ints.specs.Numbers.{numbers_of}
use Rattle.name_map.specs.declared.entries.MapEntry.{MapEntry}
use Rattle.name_map.specs.Values.{values_of}
use Rattle.dimacs_out.specs.declared.text.CnfText.{CnfText}
use Rattle.dimacs_out.specs.CompiledText.{text_of, IsWritable}
use Rattle.dimacs_out.specs.TextSolutions.{StandsFor}
use Rattle.dimacs_read.specs.TextLines.{IsInLimit, IsReadable, IsTextOf}
use Rattle.dimacs_read.specs.Values.{IsValues}

-- the values of each integer are in the limit
abbrev pub AreInLimit : List MapEntry → Type 0
AreInLimit [] = Unit {0}
AreInLimit (e ∷ entries) = IsInLimit e.value × AreInLimit entries

-- a text that is written, of values and variables in the limits, is read as what was written
abbrev pub WrittenIsRead : Type 0
WrittenIsRead = (x : CnfText) → IsWritable x → x.cnf.vars ≤ 2 ^ 26 → AreInLimit x.entries
    → IsTextOf x (text_of x)

-- what is read can be written
abbrev pub ReadIsWritable : Type 0
ReadIsWritable = (x : CnfText) → IsReadable x → IsWritable x

-- values satisfy the clauses
abbrev pub ValuesSatisfy : Type 0
ValuesSatisfy = (cnf : Cnf) (text : List ℕ) (values : List Bool) → IsValues cnf text values
    → Satisfies (valuation_of values) cnf

-- what the names have under values is an assignment that the compiled text stands for
abbrev pub ValuesGiveAssignment : Type 0
ValuesGiveAssignment =
    (x : CnfText) (text : List ℕ) (values : List Bool) → IsWritable x → IsValues x.cnf text values
    → StandsFor (text_of x) (numbers_of (valuation_of values) (values_of x.entries))
