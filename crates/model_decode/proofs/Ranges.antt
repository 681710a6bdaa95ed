-- Integers whose values are numbers of 64 bits.
use Rattle.std.proofs.Common.{◌≡◌, ℕ, ◌<◌, ◌^◌, List, [], ◌∷◌, ℤ, unsigned_abs, FitsSigned, w64, to_z, of_z, subst, sym, ap, ◌∙◌, arith}
use Rattle.std.specs.Int.{w128}
use Rattle.std.proofs.lemmas.Int.{ints, to_z-of_z}
use Rattle.order_ints.specs.declared.order_int.MapValue.{MapValue}
use Rattle.order_ints.specs.declared.order_int.MapValue.TheVariants as values
use Rattle.order_ints.specs.declared.order_int.OrdInt.{OrdInt}
use Rattle.order_ints.specs.Truth.{Valuation}
use Rattle.order_ints.specs.OrderValue.{value_of}
use Rattle.order_ints.specs.OrderRange.{low_of, high_of}
use Rattle.order_ints.specs.Numbers.{number_of}
use Rattle.order_ints.proofs.Gains.{low-le, high-ge}
use Rattle.order_ints.proofs.Wide.{small_bits}
use Rattle.model_meaning.specs.declared.model.Kind.{Kind}
use Rattle.model_meaning.specs.declared.model.Kind.TheVariants as kind
use Rattle.model_meaning.specs.declared.model.Decl.{Decl}
use Rattle.model_meaning.specs.Limits.{InLimit}
use Rattle.value_lists.specs.ValueLists.{first_of, last_of}
use Rattle.name_map.specs.Fits.{EntryFits, EntriesFit}
use Rattle.model_decode.specs.Short.{IsShort, AreShort}

-- each value of such an integer is such a number
pub value-fits : (σ : Valuation) (a : OrdInt) → FitsSigned w64 (low_of a) → FitsSigned w64 (high_of a) → FitsSigned w64 (value_of σ a)
value-fits σ a low high = omega (arith, ints, low-le σ a, high-ge σ a)

-- a number of 128 bits that is the value of such an integer is that value where it is read as one of 64
module _ (σ : Valuation) (v : MapValue) (a : OrdInt) (n : ℤ) (is : v ≡ values.Int a) (short : IsShort v) (value : n ≡ value_of σ a) (small : unsigned_abs n < 2 ^ 100) where
  fits : FitsSigned w64 n
  fits =
      let h = subst IsShort is short in
      subst (FitsSigned w64) (sym value) (value-fits σ a h.0 h.1)

  pub fits-narrow : FitsSigned w64 (to_z w128 (of_z w128 n))
  fits-narrow = subst (FitsSigned w64) (sym (small_bits n small)) fits

  pub same-narrow : to_z w64 (of_z w64 (to_z w128 (of_z w128 n))) ≡ number_of σ v
  same-narrow =
      ap (λ z. to_z w64 (of_z w64 z)) (small_bits n small) ∙ to_z-of_z w64 n fits ∙ value ∙ ap (number_of σ) (sym is)

-- a number in the limit of numerals is one
limit-fits : (z : ℤ) → InLimit z → FitsSigned w64 z
limit-fits z h = omega (arith, ints)

-- so is each value of what the names of a model stand for
entry-short : (n : ℕ) (k : Kind) (v : MapValue) → EntryFits n k v → IsShort v
entry-short n kind.Bool (values.Bool a) h = tt
entry-short n kind.Bool (values.Int a) h = absurd h
entry-short n (kind.Range low high) (values.Bool a) h = absurd h
entry-short n (kind.Range low high) (values.Int a) h =
    (subst (FitsSigned w64) (sym h.least) (limit-fits low h.low_in_limit), subst (FitsSigned w64) (sym h.greatest) (limit-fits high h.high_in_limit))
entry-short n (kind.Listed vs) (values.Bool a) h = absurd h
entry-short n (kind.Listed vs) (values.Int a) h =
    (subst (FitsSigned w64) (sym h.least) (limit-fits (first_of vs) h.low_in_limit), subst (FitsSigned w64) (sym h.greatest) (limit-fits (last_of vs) h.high_in_limit))

pub entries-short : (n : ℕ) (ds : List Decl) (map : List MapValue) → EntriesFit n ds map → AreShort map
entries-short n [] [] h = tt
entries-short n [] (v ∷ map) h = absurd h
entries-short n (d ∷ ds) [] h = absurd h
entries-short n (d ∷ ds) (v ∷ map) h = (entry-short n d.kind v h.0, entries-short n ds map h.1)
