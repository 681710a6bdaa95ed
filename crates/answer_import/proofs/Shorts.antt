-- The values of what the names of a compiled model stand for are numbers of 64 bits.
use Rattle.std.proofs.Common.{ℕ, List, [], ◌∷◌, ℤ, arith}
use Rattle.std.specs.Prelude.{◌≤ℤ◌, FitsSigned}
use Rattle.std.specs.Int.{w64}
use Rattle.std.proofs.lemmas.Int.{ints}
use Rattle.order_ints.specs.declared.order_int.MapValue.{MapValue}
use Rattle.order_ints.specs.declared.order_int.MapValue.TheVariants as values
use Rattle.order_ints.specs.declared.order_int.OrdInt.{OrdInt}
use Rattle.order_ints.specs.OrderRange.{low_of, high_of}
use Rattle.model_meaning.specs.declared.model.Decl.{Decl}
use Rattle.model_meaning.specs.declared.model.Kind.{Kind}
use Rattle.model_meaning.specs.declared.model.Kind.TheVariants as kind
use Rattle.model_meaning.specs.Limits.{InLimit}
use Rattle.name_map.specs.Fits.{ValueFits, ValuesFit}
use Rattle.model_decode.specs.Short.{IsShort, AreShort}

integer-short : (a : OrdInt) (low high : ℤ) → InLimit low → InLimit high → low ≤ℤ low_of a → high_of a ≤ℤ high → FitsSigned w64 (low_of a) × FitsSigned w64 (high_of a)
integer-short a low high l h least greatest = (omega (arith, ints), omega (arith, ints))

value-short : (n : ℕ) (k : Kind) (v : MapValue) → ValueFits n k v → IsShort v
value-short n kind.Bool (values.Bool a) h = tt
value-short n kind.Bool (values.Int a) h = absurd h
value-short n (kind.Range low high) (values.Bool a) h = absurd h
value-short n (kind.Range low high) (values.Int a) h = integer-short a low high h.low_in_limit h.high_in_limit h.least h.greatest
value-short n (kind.Listed vs) (values.Bool a) h = absurd h
value-short n (kind.Listed vs) (values.Int a) h = integer-short a _ _ h.low_in_limit h.high_in_limit h.least h.greatest

pub values-short : (n : ℕ) (ds : List Decl) (vs : List MapValue) → ValuesFit n ds vs → AreShort vs
values-short n [] [] h = tt
values-short n [] (v ∷ vs) h = absurd h
values-short n (d ∷ ds) [] h = absurd h
values-short n (d ∷ ds) (v ∷ vs) h = (value-short n d.kind v h.0, values-short n ds vs h.1)
