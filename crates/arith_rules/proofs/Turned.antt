-- What is found among equations with their two atoms exchanged.
use Rattle.std.proofs.Common.{◌≡◌, Bool, true, false, not, ◌&&◌, ◌||◌, List, [], ◌∷◌, map, ℤ, refl, sym, ap, subst, ◌∙◌}
use Rattle.std.specs.Prelude.{Some, option_map, filter, if◌then◌else◌}
use Rattle.std.proofs.lemmas.Bool.{false≢true}
use Rattle.order_ints.specs.declared.atom.Atom.{Atom}
use Rattle.order_ints.specs.declared.order_int.OrdInt.{OrdInt}
use Rattle.order_ints.specs.Same.{same_atom}
use Rattle.order_ints.specs.Equality.{same_atom-true, same_atom-refl}
use Rattle.order_ints.specs.OrderLevels.{values_of, at_of}
use Rattle.order_ints.specs.Truth.{Valuation}
use Rattle.rule_base.specs.declared.sought.SoughtEquation.{SoughtEquation}
use Rattle.rule_base.specs.declared.sought.SoughtEquation.TheVariants.{Apart, Pair}
use Rattle.rule_base.specs.Pairs.{is_sought, first_sought, AreEqual}
use Rattle.arith_rules.specs.Links.{linked, linked_back, alike_where, alike_back, turned}

-- the test of two atoms being one is the same both ways
same-true : (a b : Atom) → same_atom a b ≡ true → same_atom b a ≡ true
same-true a b e = ap (same_atom b) (same_atom-true a b e) ∙ same_atom-refl b

same-turned : (a b : Atom) → same_atom a b ≡ same_atom b a
same-turned a b = by (same_atom a b) (same_atom b a) refl refl
  where
    by : (s t : Bool) → same_atom a b ≡ s → same_atom b a ≡ t → same_atom a b ≡ same_atom b a
    by true t e f = e ∙ sym (same-true a b e)
    by false true e f = absurd (false≢true (sym e ∙ same-true b a f))
    by false false e f = e ∙ sym f

and-turned : (s t : Bool) → (s && t) ≡ (t && s)
and-turned true true = refl
and-turned true false = refl
and-turned false true = refl
and-turned false false = refl

or-turned : (s t : Bool) → (s || t) ≡ (t || s)
or-turned true true = refl
or-turned true false = refl
or-turned false true = refl
or-turned false false = refl

sought-turned : (sought : SoughtEquation) (p : Atom × Atom) → is_sought sought (turned p) ≡ is_sought sought p
sought-turned Apart p = ap not (same-turned p.1 p.0)
sought-turned (Pair a b) p =
    or-turned (same_atom p.1 a && same_atom p.0 b) (same_atom p.1 b && same_atom p.0 a)
    ∙ (λ i. and-turned (same_atom p.1 b) (same_atom p.0 a) i || and-turned (same_atom p.1 a) (same_atom p.0 b) i)

pub turned-found : (sought : SoughtEquation) (ps : List (Atom × Atom)) → option_map turned (first_sought sought ps) ≡ first_sought sought (map turned ps)
turned-found sought [] = refl
turned-found sought (p ∷ ps) =
    by (is_sought sought p) (turned-found sought ps) ∙ ap (λ (t : Bool). if t then Some (turned p) else first_sought sought (map turned ps)) (sym (sought-turned sought p))
  where
    by : (t : Bool) → option_map turned (first_sought sought ps) ≡ first_sought sought (map turned ps) → option_map turned (if t then Some p else first_sought sought ps) ≡ (if t then Some (turned p) else first_sought sought (map turned ps))
    by true rest = refl
    by false rest = rest

turned-map : {X : Type 0} (f : X → Atom × Atom) (xs : List X) → map turned (map f xs) ≡ map (λ x. turned (f x)) xs
turned-map f [] = refl
turned-map f (x ∷ xs) = ap (λ (ps : List (Atom × Atom)). turned (f x) ∷ ps) (turned-map f xs)

pub linked_back-is : (link : ℤ → ℤ) (a b : OrdInt) → map turned (linked link a b) ≡ linked_back link a b
linked_back-is link a b = turned-map (λ v. (at_of a v, at_of b (link v))) (values_of a)

pub alike_back-is : (test : ℤ → Bool) (a b : OrdInt) → map turned (alike_where test a b) ≡ alike_back test a b
alike_back-is test a b = turned-map (λ v. (at_of a v, at_of b v)) (filter test (values_of a))

-- what holds of both atoms of each holds when they are exchanged
pub turned-equal : (σ : Valuation) (ps : List (Atom × Atom)) → AreEqual σ ps → AreEqual σ (map turned ps)
turned-equal σ [] h = tt
turned-equal σ (p ∷ ps) h = (sym h.0, turned-equal σ ps h.1)

pub linked_back-equal : (σ : Valuation) (link : ℤ → ℤ) (a b : OrdInt) → AreEqual σ (linked link a b) → AreEqual σ (linked_back link a b)
linked_back-equal σ link a b h = subst (AreEqual σ) (linked_back-is link a b) (turned-equal σ (linked link a b) h)

pub alike_back-equal : (σ : Valuation) (test : ℤ → Bool) (a b : OrdInt) → AreEqual σ (alike_where test a b) → AreEqual σ (alike_back test a b)
alike_back-equal σ test a b h = subst (AreEqual σ) (alike_back-is test a b) (turned-equal σ (alike_where test a b) h)
