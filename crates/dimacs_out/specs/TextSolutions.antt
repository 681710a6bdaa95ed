-- The assignments that a compiled text stands for, said of its bytes.
use Rattle.std.specs.Prelude.{◌≡◌, ℕ, List, ℤ}
use Rattle.order_ints.specs.Truth.{Valuation}
use Rattle.order_ints.specs.Numbers.{numbers_of}
use Rattle.order_ints.specs.Satisfies.{Satisfies}
use Rattle.name_map.specs.Values.{values_of}
use Rattle.dimacs_out.specs.declared.text.CnfText.{CnfText}
use Rattle.dimacs_out.specs.CompiledText.{text_of, IsWritable}

-- a text stands for an assignment where it is the compiled text of names, a map, a ledger and a CNF, and a valuation
-- that satisfies the CNF gives the assignment
pub record StandsFor (text : List ℕ) (a : List ℤ) : Type 0 where
  pub holds : CnfText
  pub writable : IsWritable holds
  pub spelled : text ≡ text_of holds
  pub valuation : Valuation
  pub satisfies : Satisfies valuation holds.cnf
  pub gives : a ≡ numbers_of valuation (values_of holds.entries)
