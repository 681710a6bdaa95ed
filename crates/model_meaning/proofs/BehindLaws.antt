-- A statement holds, and fits, the same when declarations and values are added behind.
use Rattle.std.proofs.Common.{◌≡◌, ◌↔◌, ◌≤◌, ◌<◌, ℕ, zero, suc, ℤ, pos, Bool, List, [], ◌∷◌, ◌++◌, length, Option, Some, None, IsSomeAnd, arith, refl, sym, ◌∙◌}
use Rattle.std.specs.Prelude.{slice_get}
use Rattle.std.specs.Option.{option_map}
use Rattle.std.specs.Bool.{Decides}
use Rattle.model_meaning.specs.declared.what.BoolTerm.{BoolTerm}
use Rattle.model_meaning.specs.declared.what.BoolTerm.TheVariants as bool_term
use Rattle.model_meaning.specs.declared.what.IntTerm.{IntTerm}
use Rattle.model_meaning.specs.declared.what.IntTerm.TheVariants as int_term
use Rattle.model_meaning.specs.declared.what.What.{What}
use Rattle.model_meaning.specs.declared.what.What.TheVariants.{
  BoolToInt,
  BoolEq,
  BoolOp,
  BoolArray,
  BoolArrayReified,
  Compare,
  CompareReified,
  BoolSum,
  BoolLinear,
  IntSum,
  IntLinear,
  IntOp,
  Absolute,
  IntArray,
  IntAllDifferent,
  Lexicographic,
}
use Rattle.model_meaning.specs.declared.wanted.Wanted.{Wanted}
use Rattle.model_meaning.specs.declared.wanted.Wanted.TheVariants as wanted
use Rattle.model_meaning.specs.declared.model.Decl.{Decl}
use Rattle.model_meaning.specs.Terms.{value_at, truth_of, number_of, truths_of, numbers_of}
use Rattle.model_meaning.specs.Signatures.{signature}
use Rattle.model_meaning.specs.Arguments.{Argument, Truth, Number, Truths, Numbers, Numerals, given, arguments_of, statement_in}
use Rattle.model_meaning.specs.Holds.{holds, truth_or_true, terms_or_none}
use Rattle.model_meaning.specs.WellTyped.{TruthFits, NumberFits, TruthsFit, NumbersFit, ArgumentFits, ArgumentsFit, WhatFits}
use Rattle.model_meaning.specs.Laws.{BehindLaw}
use Rattle.model_meaning.proofs.AppendLaws.{WhatFits-append}
use Rattle.model_meaning.proofs.TableLaws.{Decides-holds}

within : {A : Type 0} (xs : List A) (p : ℕ) (P : A → Type 0) → IsSomeAnd (slice_get xs p) P → p < length xs
within [] p P h = absurd h
within (x ∷ xs) zero P h = omega arith
within (x ∷ xs) (suc p) P h = omega (arith, within xs p P h)

value-behind : (a b : List ℤ) (p : ℕ) → p < length a → value_at (a ++ b) p ≡ value_at a p
value-behind [] b p h = absurd (omega arith)
value-behind (x ∷ a) b zero h = refl
value-behind (x ∷ a) b (suc p) h = value-behind a b p (omega arith)

module _ (ds : List Decl) (n : ℕ) (a b : List ℤ) (l : length ds ≤ length a) where
  at-place : (p : ℕ) (P : Decl → Type 0) → IsSomeAnd (slice_get ds p) P → value_at (a ++ b) p ≡ value_at a p
  at-place p P h = value-behind a b p (omega (arith, within ds p P h, l))

  truth-behind : (x : BoolTerm) → TruthFits ds n x → truth_of (a ++ b) x ≡ truth_of a x
  truth-behind (bool_term.Const c) h = refl
  truth-behind (bool_term.Of p s) h = rw (at-place p _ h) refl

  number-behind : (i : IntTerm) → NumberFits ds n i → number_of (a ++ b) i ≡ number_of a i
  number-behind (int_term.Number z) h = refl
  number-behind (int_term.Of p) h = at-place p _ h

  truths-behind : (xs : List BoolTerm) → TruthsFit ds n xs → truths_of (a ++ b) xs ≡ truths_of a xs
  truths-behind [] h = refl
  truths-behind (x ∷ xs) h = rw (truth-behind x h.0, truths-behind xs h.1) refl

  numbers-behind : (is : List IntTerm) → NumbersFit ds n is → numbers_of (a ++ b) is ≡ numbers_of a is
  numbers-behind [] h = refl
  numbers-behind (i ∷ is) h = rw (number-behind i h.0, numbers-behind is h.1) refl

-- an argument is worth the same
abbrev IsSame : List ℤ → List ℤ → Argument → Type 0
IsSame c a (Truth x) = truth_of c x ≡ truth_of a x
IsSame c a (Number i) = number_of c i ≡ number_of a i
IsSame c a (Truths xs) = truths_of c xs ≡ truths_of a xs
IsSame c a (Numbers is) = numbers_of c is ≡ numbers_of a is
IsSame c a (Numerals cs) = Unit {0}

abbrev AreSame : List ℤ → List ℤ → List Argument → Type 0
AreSame c a [] = Unit {0}
AreSame c a (x ∷ xs) = IsSame c a x × AreSame c a xs

module _ (ds : List Decl) (n : ℕ) (a b : List ℤ) (l : length ds ≤ length a) where
  argument-same : (w : Wanted) (x : Argument) → ArgumentFits ds n w x → IsSame (a ++ b) a x
  argument-same wanted.Truth (Truth x) h = truth-behind ds n a b l x h
  argument-same wanted.Number (Number i) h = number-behind ds n a b l i h
  argument-same wanted.NewInteger (Number (int_term.Of p)) h = at-place ds n a b l p _ h
  argument-same wanted.Truths (Truths xs) h = truths-behind ds n a b l xs h
  argument-same wanted.Numbers (Numbers is) h = numbers-behind ds n a b l is h
  argument-same wanted.Numerals (Numerals cs) h = tt
  argument-same w x h = absurd h

  arguments-same : (ws : List Wanted) (xs : List Argument) → ArgumentsFit ds n ws xs → AreSame (a ++ b) a xs
  arguments-same [] [] h = tt
  arguments-same [] (x ∷ xs) h = absurd h
  arguments-same (w ∷ ws) [] h = absurd h
  arguments-same (w ∷ ws) (x ∷ xs) h = (argument-same w x h.0, arguments-same ws xs h.1)

module _ (c a : List ℤ) where
  abbrev SameIf : Option Argument → Type 0
  SameIf None = Unit {0}
  SameIf (Some x) = IsSame c a x

  first-given : (o : Option Argument) (os : List (Option Argument)) → AreSame c a (given (o ∷ os)) → SameIf o × AreSame c a (given os)
  first-given None os h = (tt, h)
  first-given (Some x) os h = h

  truth-if : (z : Option BoolTerm) → SameIf (option_map Truth z) → truth_or_true c z ≡ truth_or_true a z
  truth-if None h = refl
  truth-if (Some z) h = h

  truths-if : (xs : Option (List BoolTerm)) → SameIf (option_map Truths xs) → truths_of c (terms_or_none xs) ≡ truths_of a (terms_or_none xs)
  truths-if None h = refl
  truths-if (Some xs) h = h

  numbers-if : (is : Option (List IntTerm)) → SameIf (option_map Numbers is) → numbers_of c (terms_or_none is) ≡ numbers_of a (terms_or_none is)
  numbers-if None h = refl
  numbers-if (Some is) h = h

  -- a statement whose arguments are worth the same holds the same
  holds-same : (w : What) → AreSame c a (arguments_of w) → holds c w ≡ holds a w
  unfolding holds
  holds-same (BoolToInt x i) h = rw (h.0, h.1.0) refl
  holds-same (BoolEq x y) h = rw (h.0, h.1.0) refl
  holds-same (BoolOp name op x y z) h = rw (h.0, h.1.0, h.1.1.0) refl
  holds-same (BoolArray name op xs) h = rw h.0 refl
  holds-same (BoolArrayReified name op xs z) h = rw (h.0, h.1.0) refl
  holds-same (Compare name rel i j) h = rw (h.0, h.1.0) refl
  holds-same (CompareReified name rel i j z) h = rw (h.0, h.1.0, h.1.1.0) refl
  holds-same (BoolSum name rel xs i) h = rw (h.0, h.1.0) refl
  holds-same (BoolLinear name rel cs xs i) h = rw (h.1.0, h.1.1.0) refl
  holds-same (IntSum name rel is i) h = rw (h.0, h.1.0) refl
  holds-same (IntLinear name rel cs is i) h = rw (h.1.0, h.1.1.0) refl
  holds-same (IntOp name o i j k) h = rw (h.0, h.1.0, h.1.1.0) refl
  holds-same (Absolute i j) h = rw (h.0, h.1.0) refl
  holds-same (IntArray name o is i) h = rw (h.0, h.1.0) refl
  holds-same (IntAllDifferent name d is z xs) h =
      let p = first-given (option_map Truth z) (option_map Truths xs ∷ []) h.1 in
      let q = first-given (option_map Truths xs) [] p.1 in
      rw (h.0, truth-if z p.0, truths-if xs q.0) refl
  holds-same (Lexicographic name o xs ys is js z) h =
      let p = first-given (option_map Truths xs) (option_map Truths ys ∷ option_map Numbers is ∷ option_map Numbers js ∷ option_map Truth z ∷ []) h in
      let q = first-given (option_map Truths ys) (option_map Numbers is ∷ option_map Numbers js ∷ option_map Truth z ∷ []) p.1 in
      let r = first-given (option_map Numbers is) (option_map Numbers js ∷ option_map Truth z ∷ []) q.1 in
      let s = first-given (option_map Numbers js) (option_map Truth z ∷ []) r.1 in
      let t = first-given (option_map Truth z) [] s.1 in
      rw (truths-if xs p.0, truths-if ys q.0, numbers-if is r.0, numbers-if js s.0, truth-if z t.0) refl

pub holds-behind : (ds : List Decl) (n : ℕ) (w : What) (a b : List ℤ) → WhatFits ds n w → length ds ≤ length a → holds (a ++ b) w ≡ holds a w
holds-behind ds n w a b h l = holds-same (a ++ b) a w (arguments-same ds n a b l (signature (statement_in w)) (arguments_of w) h.arguments)

by-test : {P Q : Type 0} (p q : Bool) → p ≡ q → Decides p P → Decides q Q → P ↔ Q
by-test p q e d f = (λ h. f.0 (sym e ∙ d.1 h), λ h. d.0 (e ∙ f.1 h))

pub behind : BehindLaw
behind ds es n w h =
    (WhatFits-append ds es n w h, λ a b l. by-test (holds (a ++ b) w) (holds a w) (holds-behind ds n w a b h l) (Decides-holds (a ++ b) w) (Decides-holds a w))
