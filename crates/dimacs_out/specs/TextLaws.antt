-- The laws of the compiled text that other crates build on.
use Rattle.std.specs.Prelude.{◌≡◌, ◌↔◌, List, ℤ}
use Rattle.order_ints.specs.Truth.{Valuation}
use Rattle.order_ints.specs.Satisfies.{Satisfies}
use Rattle.order_ints.specs.Numbers.{numbers_of}
use Rattle.name_map.specs.Values.{values_of}
use Rattle.dimacs_out.specs.declared.text.CnfText.{CnfText}
use Rattle.dimacs_out.specs.CompiledText.{text_of, IsWritable}
use Rattle.dimacs_out.specs.TextSolutions.{StandsFor}

-- a text is the compiled text of one list of names with what they stand for, of one ledger, and of one CNF
abbrev pub TextTellsAll : Type 0
TextTellsAll = (x y : CnfText) → IsWritable x → IsWritable y → text_of x ≡ text_of y → x ≡ y

-- a compiled text stands for exactly the assignments that the valuations give that satisfy its CNF
abbrev pub StandsForExactly : Type 0
StandsForExactly =
    (x : CnfText) (a : List ℤ) → IsWritable x
    → (StandsFor (text_of x) a ↔ ((σ : Valuation) × Satisfies σ x.cnf
    × (a ≡ numbers_of σ (values_of x.entries))))
