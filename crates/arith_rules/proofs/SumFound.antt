-- What the searches of sums find.
use Rattle.std.proofs.Common.{◌≡◌, ◌==◌, true, false, not, List, [], ◌∷◌, length, ℤ, pos, ◌-ℤ◌, refl, sym, ap, ◌∙◌, arith}
use Rattle.std.specs.Prelude.{Option}
use Rattle.std.specs.Option.{is_some}
use Rattle.std.specs.Ordering.{int_eq}
use Rattle.std.proofs.lemmas.Bool.Decides.{nat_tests}
use Rattle.order_ints.specs.declared.atom.Atom.{Atom}
use Rattle.order_ints.specs.declared.atom.Atom.TheVariants.{True, False}
use Rattle.order_ints.specs.declared.order_int.OrdInt.{OrdInt}
use Rattle.order_ints.specs.OrderRange.{low_of, high_of}
use Rattle.rule_base.specs.declared.sought.SoughtEquation.{SoughtEquation}
use Rattle.rule_base.specs.Pairs.{first_sought, only_if}
use Rattle.rule_base.proofs.PairLaws.{front-found, back-found}
use Rattle.arith_rules.specs.Links.{within}
use Rattle.arith_rules.specs.SumRows.{lows_of, highs_of, shares, sum_equations}

-- a sum without members
pub empty-sum : (xs : List OrdInt) (k : ℤ) → (length xs == 0) ≡ true → sum_equations xs k ≡ only_if (not (int_eq k (pos 0))) ((True, False) ∷ [])
empty-sum [] k e = refl
empty-sum (a ∷ xs) k e = absurd (grind (arith, nat_tests))

-- and one with some
pub some-sum : (xs : List OrdInt) (k : ℤ) → (length xs == 0) ≡ false → shares k (lows_of xs) (highs_of xs) xs ≡ sum_equations xs k
some-sum [] k e = absurd (cc)
some-sum (a ∷ xs) k e = refl

-- a loop along the members
module _ (sought : SoughtEquation) (k lows highs : ℤ) (xs rest : List OrdInt) (a : OrdInt) (o : Option (Atom × Atom)) (is : xs ≡ a ∷ rest)
    (found : o ≡ first_sought sought (within a (k -ℤ (highs -ℤ high_of a)) (k -ℤ (lows -ℤ low_of a)))) where
  pub share-stop : is_some o ≡ true → o ≡ first_sought sought (shares k lows highs xs)
  share-stop some =
      front-found sought (within a (k -ℤ (highs -ℤ high_of a)) (k -ℤ (lows -ℤ low_of a))) (shares k lows highs rest) o found some
      ∙ ap (λ (ys : List OrdInt). first_sought sought (shares k lows highs ys)) (sym is)

  pub share-next : is_some o ≡ false → first_sought sought (shares k lows highs rest) ≡ first_sought sought (shares k lows highs xs)
  share-next none =
      back-found sought (within a (k -ℤ (highs -ℤ high_of a)) (k -ℤ (lows -ℤ low_of a))) (shares k lows highs rest) o (first_sought sought (shares k lows highs rest)) found none refl
      ∙ ap (λ (ys : List OrdInt). first_sought sought (shares k lows highs ys)) (sym is)
