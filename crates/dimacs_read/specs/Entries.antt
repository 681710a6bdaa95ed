-- The words of a name's line, behind those that tell its kind.
use Rattle.std.specs.Prelude.{ℕ, ◌^◌, ◌+◌, List, [], ◌∷◌, codes, map}
use Rattle.std.specs.Fmt.{signed_decimal}
use Rattle.order_ints.specs.declared.order_int.OrdInt.{OrdInt}
use Rattle.order_ints.specs.declared.order_int.MapValue.{MapValue}
use Rattle.order_ints.specs.declared.order_int.MapValue.TheVariants as values
use Rattle.ledger_text.specs.Words.{atom_word}
use Rattle.dimacs_out.specs.CompiledText.{step_word, ValueBelow}
use Rattle.dimacs_read.specs.declared.entry.Kind.{Kind}
use Rattle.dimacs_read.specs.declared.entry.Kind.TheVariants.{Bool, Int}
use Rattle.dimacs_read.specs.TextLines.{IsInLimit}

abbrev pub kind_word : Kind → List ℕ
kind_word Bool = codes "bool"
kind_word Int = codes "int"

abbrev pub kind_of : MapValue → Kind
kind_of (values.Bool a) = Bool
kind_of (values.Int a) = Int

-- the words behind the name
abbrev pub tail_words : MapValue → List (List ℕ)
tail_words (values.Bool a) = atom_word a ∷ []
tail_words (values.Int a) = signed_decimal a.base ∷ map step_word a.steps

-- the variables are up to the greatest that any text has, and the values are in the limit
pub record IsReadableInt (a : OrdInt) : Type 0 where
  pub value : ValueBelow (2 ^ 27 + 1) (values.Int a)
  pub in_limit : IsInLimit (values.Int a)

pub record IsReadableValue (v : MapValue) : Type 0 where
  pub value : ValueBelow (2 ^ 27 + 1) v
  pub in_limit : IsInLimit v
