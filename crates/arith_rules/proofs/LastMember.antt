-- Sums of which only the last member is bound, and what the last member states.
use Rattle.std.proofs.Common.{◌≡◌, ℕ, true, false, List, [], ◌∷◌, ◌++◌, ℤ, pos, ◌+ℤ◌, ◌-ℤ◌, ◌≤ℤ◌, refl, sym, ap, subst, ◌∙◌, arith}
use Rattle.std.specs.Prelude.{Option, None, Some}
use Rattle.std.specs.Option.{option_or, is_some}
use Rattle.std.proofs.lemmas.Int.{ints}
use Rattle.order_ints.specs.declared.atom.Atom.{Atom}
use Rattle.order_ints.specs.declared.order_int.OrdInt.{OrdInt}
use Rattle.order_ints.specs.OrderRange.{low_of, high_of}
use Rattle.core_forms.specs.Totals.{before_last, AreNarrow}
use Rattle.core_forms.specs.WellFormed.{IsSound, AreSound}
use Rattle.rule_base.specs.declared.sought.SoughtEquation.{SoughtEquation}
use Rattle.rule_base.specs.declared.sought.SoughtEquation.TheVariants.{Apart}
use Rattle.rule_base.specs.Pairs.{first_sought}
use Rattle.rule_base.proofs.PairLaws.{first_sought-append, option_or-None}
use Rattle.arith_rules.specs.Links.{within}
use Rattle.arith_rules.specs.SumRows.{lows_of, highs_of, shares, last_share, HaveAllValues, sum_equations}
use Rattle.arith_rules.proofs.Unbound.{unbound}

-- ---- the last member

last-behind : (k lows highs : ℤ) (xs : List OrdInt) (a : OrdInt)
    → last_share k lows highs (xs ++ a ∷ []) ≡ within a (k -ℤ (highs -ℤ high_of a)) (k -ℤ (lows -ℤ low_of a))
last-behind k lows highs [] a = refl
last-behind k lows highs (x ∷ []) a = refl
last-behind k lows highs (x ∷ y ∷ xs) a = last-behind k lows highs (y ∷ xs) a

-- a list that ends with a member
pub last-is : (k lows highs : ℤ) (xs rest : List OrdInt) (a : OrdInt) → xs ≡ rest ++ a ∷ []
    → last_share k lows highs xs ≡ within a (k -ℤ (highs -ℤ high_of a)) (k -ℤ (lows -ℤ low_of a))
last-is k lows highs xs rest a e = ap (last_share k lows highs) e ∙ last-behind k lows highs rest a

sound-behind : (xs : List OrdInt) (a : OrdInt) → AreSound (xs ++ a ∷ []) → IsSound a
sound-behind [] a h = h.0
sound-behind (x ∷ xs) a h = sound-behind xs a h.1

pub sound-last : (xs rest : List OrdInt) (a : OrdInt) → xs ≡ rest ++ a ∷ [] → AreSound xs → IsSound a
sound-last xs rest a e h = sound-behind rest a (subst AreSound e h)

three : {X : Type 0} (o p q : Option X) → option_or o (option_or p q) ≡ option_or (option_or o p) q
three None p q = refl
three (Some x) p q = refl

-- what is found of all is found before the last one, or else of the last one
pub ends-last : (sought : SoughtEquation) (k lows highs : ℤ) (xs : List OrdInt)
    → first_sought sought (shares k lows highs xs) ≡ option_or (first_sought sought (shares k lows highs (before_last xs))) (first_sought sought (last_share k lows highs xs))
ends-last sought k lows highs [] = refl
ends-last sought k lows highs (a ∷ []) =
    let here = within a (k -ℤ (highs -ℤ high_of a)) (k -ℤ (lows -ℤ low_of a)) in
    first_sought-append sought here [] ∙ option_or-None (first_sought sought here)
ends-last sought k lows highs (a ∷ b ∷ xs) =
    let here = within a (k -ℤ (highs -ℤ high_of a)) (k -ℤ (lows -ℤ low_of a)) in
    let behind = first_sought sought (last_share k lows highs (b ∷ xs)) in
    first_sought-append sought here (shares k lows highs (b ∷ xs))
    ∙ ap (option_or (first_sought sought here)) (ends-last sought k lows highs (b ∷ xs))
    ∙ three (first_sought sought here) (first_sought sought (shares k lows highs (before_last (b ∷ xs)))) behind
    ∙ ap (λ (o : Option (Atom × Atom)). option_or o behind) (sym (first_sought-append sought here (shares k lows highs (before_last (b ∷ xs)))))

-- ---- where the others leave each member before it all its values

pub all-values : (k lows highs : ℤ) (n : ℕ) (xs : List OrdInt) → (lows +ℤ pos n) ≤ℤ k → (k +ℤ pos n) ≤ℤ highs → AreNarrow n xs → HaveAllValues k lows highs xs
all-values k lows highs n [] low high narrow = tt
all-values k lows highs n (a ∷ xs) low high narrow =
    (omega (arith, ints, high, narrow.0), omega (arith, ints, low, narrow.0), all-values k lows highs n xs low high narrow.1)

-- they state no equation of two different atoms
pub none-bound : (k lows highs : ℤ) (xs : List OrdInt) → HaveAllValues k lows highs xs → first_sought Apart (shares k lows highs xs) ≡ None
none-bound k lows highs [] h = refl
none-bound k lows highs (a ∷ xs) h =
    let here = within a (k -ℤ (highs -ℤ high_of a)) (k -ℤ (lows -ℤ low_of a)) in
    first_sought-append Apart here (shares k lows highs xs)
    ∙ ap (λ (o : Option (Atom × Atom)). option_or o (first_sought Apart (shares k lows highs xs))) (sym (unbound a (k -ℤ (highs -ℤ high_of a)) (k -ℤ (lows -ℤ low_of a)) h.0 h.1))
    ∙ none-bound k lows highs xs h.2

pub last-alone : (k lows highs : ℤ) (xs : List OrdInt) → HaveAllValues k lows highs (before_last xs)
    → first_sought Apart (last_share k lows highs xs) ≡ first_sought Apart (shares k lows highs xs)
last-alone k lows highs xs h =
    ap (λ (o : Option (Atom × Atom)). option_or o (first_sought Apart (last_share k lows highs xs))) (sym (none-bound k lows highs (before_last xs) h))
    ∙ sym (ends-last Apart k lows highs xs)

-- ---- what the last member states is stated

some-behind : {X : Type 0} (o p : Option X) → is_some p ≡ true → is_some (option_or o p) ≡ true
some-behind None p h = h
some-behind (Some x) p h = refl

pub last-stated : (sought : SoughtEquation) (k : ℤ) (xs : List OrdInt) (o : Option (Atom × Atom)) → o ≡ first_sought sought (last_share k (lows_of xs) (highs_of xs) xs) → is_some o ≡ true
    → is_some (first_sought sought (sum_equations xs k)) ≡ true
last-stated sought k [] o found some = absurd (let none : is_some o ≡ false = ap is_some found in cc)
last-stated sought k (a ∷ xs) o found some =
    ap is_some (ends-last sought k (lows_of (a ∷ xs)) (highs_of (a ∷ xs)) (a ∷ xs))
    ∙ some-behind (first_sought sought (shares k (lows_of (a ∷ xs)) (highs_of (a ∷ xs)) (before_last (a ∷ xs)))) (first_sought sought (last_share k (lows_of (a ∷ xs)) (highs_of (a ∷ xs)) (a ∷ xs)))
    (ap is_some (sym found) ∙ some)
