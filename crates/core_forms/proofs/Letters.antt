-- Words of few letters: their names with more names, what is left of one, and where all letters are one value.
use Rattle.std.proofs.Common.{◌≡◌, ℕ, zero, suc, ℤ, pos, ◌+◌, ◌+ℤ◌, ◌<◌, ◌⊎◌, Bool, true, false, List, [], ◌∷◌, drop, length, get_or, Contains, refl, sym, ap, subst, ◌∙◌, arith, inl, inr}
use mathlib.Core.Bool.{beq}
use Rattle.std.specs.Option.{option_eq, is_some}
use Rattle.std.proofs.lemmas.Bool.{cases_order, false≢true}
use Rattle.std.proofs.lemmas.List.{get_or_default}
use Rattle.std.specs.Prelude.{Option, None, Some, IfSome, if◌then◌else◌}
use Rattle.order_ints.specs.declared.order_int.OrdInt.{OrdInt}
use Rattle.order_ints.specs.OrderValue.{value_of, gains}
use Rattle.order_ints.specs.Truth.{Valuation}
use Rattle.core_forms.specs.declared.word.Letters.{Letters}
use Rattle.core_forms.specs.OwnVars.{with_var}
use Rattle.core_forms.specs.Letters.{IsLetter, AreLetters, HaveOneStep, AllHave, AreAllOne}
use Rattle.core_forms.proofs.OwnVars.{with_var-members}

-- what holds of what is there follows from what else does
pub if-there : {X : Type 0} {P Q : X → Type 0} (o : Option X) → ((x : X) → P x → Q x) → IfSome o P → IfSome o Q
if-there None f h = h
if-there (Some x) f h = f x h

-- a name put among others is there, and so are the others
pub name-there : (name : ℕ) (old new : List ℕ) → new ≡ with_var name old → Contains new name
name-there name old new is = rw is ((with_var-members name old name).1 (inl refl))

pub names-kept : (name : ℕ) (old new : List ℕ) → new ≡ with_var name old → (v : ℕ) → Contains old v → Contains new v
names-kept name old new is v h = rw is ((with_var-members name old v).1 (inr h))

-- letters over names are letters over more names
more-letter : (old new : List ℕ) (base : ℤ) (weight : ℕ) (a : OrdInt) → ((v : ℕ) → Contains old v → Contains new v)
    → IsLetter old base weight a → IsLetter new base weight a
more-letter old new base weight a kept is = record { name = is.name; among = kept is.name is.among; base_is = is.base_is; steps_are = is.steps_are }

pub more-letters : (old new : List ℕ) (base : ℤ) (weight : ℕ) (ints : List OrdInt) → ((v : ℕ) → Contains old v → Contains new v)
    → AreLetters old base weight ints → AreLetters new base weight ints
more-letters old new base weight [] kept h = h
more-letters old new base weight (a ∷ ints) kept h = (more-letter old new base weight a kept h.0, more-letters old new base weight ints kept h.1)

-- letters one by one are letters
pub each-letters : (names : List ℕ) (base : ℤ) (weight : ℕ) (ints : List OrdInt)
    → ((k : ℕ) (d : OrdInt) → k < length ints → IsLetter names base weight (get_or ints k d)) → AreLetters names base weight ints
each-letters names base weight [] each = tt
each-letters names base weight (a ∷ ints) each =
    (each 0 a (omega arith), each-letters names base weight ints (λ k d h. each (suc k) d (omega (arith, h))))

-- one more letter behind others, over names with more
pub one-letter : (old new : List ℕ) (base : ℤ) (weight i : ℕ) (ints : List OrdInt) (a : OrdInt)
    → ((v : ℕ) → Contains old v → Contains new v) → a ≡ get_or ints i a → i < length ints → IsLetter new base weight a
    → ((k : ℕ) (d : OrdInt) → k < i → IsLetter old base weight (get_or ints k d))
    → (k : ℕ) (d : OrdInt) → k < i + 1 → IsLetter new base weight (get_or ints k d)
one-letter old new base weight i ints a kept is within here before k d h = by (cases_order k i)
  where
    by : ((k ≡ i) ⊎ ((k < i) ⊎ (i < k))) → IsLetter new base weight (get_or ints k d)
    by (inl e) = subst (IsLetter new base weight) (is ∙ get_or_default ints i a d within ∙ ap (λ (j : ℕ). get_or ints j d) (sym e)) here
    by (inr (inl l)) = more-letter old new base weight (get_or ints k d) kept (before k d l)
    by (inr (inr l)) = absurd (omega (arith, l, h))

-- what is left of letters are letters
pub letters-left : (names : List ℕ) (base : ℤ) (weight count : ℕ) (ints : List OrdInt) → AreLetters names base weight ints
    → AreLetters names base weight (drop count ints)
letters-left names base weight zero ints h = h
letters-left names base weight (suc count) [] h = h
letters-left names base weight (suc count) (a ∷ ints) h = letters-left names base weight count ints h.1

-- each has one step
pub letters-short : (names : List ℕ) (base : ℤ) (weight : ℕ) (ints : List OrdInt) → AreLetters names base weight ints → HaveOneStep ints
letters-short names base weight [] h = h
letters-short names base weight (a ∷ ints) h = (ap length h.0.steps_are, letters-short names base weight ints h.1)

-- where the names are equally true, each letter has one value
module _ (σ : Valuation) (told : Bool) (base : ℤ) (weight : ℕ) where
  abbrev pub letter-value : ℤ
  letter-value = base +ℤ pos ((if told then weight else 0) + 0)

  value-is : (names : List ℕ) (a : OrdInt) → ((v : ℕ) → Contains names v → σ v ≡ told) → IsLetter names base weight a → value_of σ a ≡ letter-value
  value-is names a all is =
      ap (λ (b : ℤ). b +ℤ pos (gains σ a.steps)) is.base_is
      ∙ ap (λ (steps : List _). base +ℤ pos (gains σ steps)) is.steps_are
      ∙ ap (λ (t : Bool). base +ℤ pos ((if t then weight else 0) + 0)) (all is.name is.among)

  pub all-have : (names : List ℕ) (ints : List OrdInt) → ((v : ℕ) → Contains names v → σ v ≡ told) → AreLetters names base weight ints → AllHave σ letter-value ints
  all-have names [] all h = h
  all-have names (a ∷ ints) all h = (value-is names a all h.0, all-have names ints all h.1)

-- letters of one base and one weight are all one value where their names are equally true
pub all-one : (σ : Valuation) (told : Bool) (base other : ℤ) (weight size : ℕ) (names others : List ℕ)
    → base ≡ other → weight ≡ size
    → ((v : ℕ) → Contains names v → σ v ≡ told) → ((v : ℕ) → Contains others v → σ v ≡ told)
    → (xs ys : List OrdInt) → AreLetters names base weight xs → AreLetters others other size ys → AreAllOne σ xs ys
all-one σ told base other weight size names others same alike first second xs ys front back = record {
  value = letter-value σ told base weight;
  first_have = all-have σ told base weight names xs first front;
  second_have = all-have σ told base weight others ys second
      (subst (λ (b : ℤ). AreLetters others b weight ys) (sym same) (subst (λ (w : ℕ). AreLetters others other w ys) (sym alike) back));
}

-- what is told is what was told before
pub told-alike : (o : Option Bool) (told : Bool) (P : Bool → Type 0) → IfSome o P → option_eq beq o (Some told) ≡ true → P told
told-alike None told P h e = absurd (false≢true e)
told-alike (Some true) true P h e = h
told-alike (Some true) false P h e = absurd (false≢true e)
told-alike (Some false) true P h e = absurd (false≢true e)
told-alike (Some false) false P h e = h

-- ---- a list with its letters where it has few

-- its letters are right
abbrev pub AreRight : Option Letters → List OrdInt → Type 0
AreRight o ints = IfSome o (λ letters. AreLetters letters.names letters.base letters.weight ints)

-- what is left of it has the same letters
pub right-left : (o : Option Letters) (count : ℕ) (before after : List OrdInt) → after ≡ drop count before → AreRight o before → AreRight o after
right-left o count before after is h = if-there o (λ letters a. subst (AreLetters letters.names letters.base letters.weight) (sym is) (letters-left letters.names letters.base letters.weight count before a)) h

-- where it has letters, each integer has one step
pub right-short : (o : Option Letters) (ints : List OrdInt) → AreRight o ints → is_some o ≡ true → HaveOneStep ints
right-short None ints h some = absurd (false≢true some)
right-short (Some letters) ints h some = letters-short letters.names letters.base letters.weight ints h
