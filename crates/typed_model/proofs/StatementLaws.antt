-- A statement without fault fits the declarations before it.
use Rattle.std.proofs.Common.{◌≡◌, ℕ, ◌<◌, pos, Bool, true, false, not, ◌||◌, List, [], ◌∷◌, length, arith, Option, Some, None, refl, subst}
use Rattle.std.specs.Prelude.{int_lt, nat_eq, slice_get, IfSome, if◌then◌else◌}
use Rattle.std.proofs.lemmas.Bool.{false≢true, and_parts, or_parts}
use Rattle.std.proofs.lemmas.Bool.Decides.{nat_tests}
use Rattle.std.proofs.lemmas.List.{length-map}
use Rattle.bumblebee_reader.specs.declared.syntax.Arg.{Arg}
use Rattle.bumblebee_reader.specs.declared.syntax.Arg.TheVariants as arg
use Rattle.model_meaning.specs.declared.wanted.Wanted.{Wanted}
use Rattle.model_meaning.specs.declared.wanted.Wanted.TheVariants as wanted
use Rattle.model_meaning.specs.declared.statement.Arithmetic.TheVariants as arithmetic
use Rattle.model_meaning.specs.declared.statement.Aggregate.{Aggregate}
use Rattle.model_meaning.specs.declared.statement.Aggregate.TheVariants as aggregate
use Rattle.model_meaning.specs.declared.statement.AllDifferent.{AllDifferent}
use Rattle.model_meaning.specs.declared.statement.AllDifferent.TheVariants as all_different
use Rattle.model_meaning.specs.declared.statement.Statement.{Statement}
use Rattle.model_meaning.specs.declared.statement.Statement.TheVariants as statement
use Rattle.model_meaning.specs.declared.what.What.{What}
use Rattle.model_meaning.specs.declared.model.Decl.{Decl}
use Rattle.typed_model.specs.Scope.{truth, number, numeral}
use Rattle.model_meaning.specs.Names.{statement_of}
use Rattle.model_meaning.specs.Signatures.{signature}
use Rattle.typed_model.specs.Faults.{arg_fits, fit, wanted_of, lists_differ, is_empty, least_in}
use Rattle.typed_model.specs.Items.{what_of, terms_in, numbers_in}
use Rattle.model_meaning.specs.WellTyped.{ArgumentFits, ArgumentsFit, list_length, LengthsFit, IsDivision, ValuesFit, WhatFits}
use Rattle.typed_model.proofs.TypingLaws.{AllBefore, ArgFits, fit-at, truth-fits, number-fits, truths-fit, numbers-fit, list-member, least-fits, NoFault}
use Rattle.typed_model.proofs.ArgumentLaws.{argument_in, arguments_in, Reads, reads}

-- what a statement wants that declares nothing
abbrev pub IsPlainWanted : Wanted → Type 0
IsPlainWanted wanted.Numeral = ⊥
IsPlainWanted wanted.NewName = ⊥
IsPlainWanted wanted.NewInteger = ⊥
IsPlainWanted w = Unit {0}

abbrev pub ArePlainWanted : List Wanted → Type 0
ArePlainWanted [] = Unit {0}
ArePlainWanted (w ∷ ws) = IsPlainWanted w × ArePlainWanted ws

-- a statement that declares nothing
abbrev pub IsPlain : Statement → Type 0
IsPlain statement.NewBool = ⊥
IsPlain statement.NewInt = ⊥
IsPlain statement.BoolToInt = ⊥
IsPlain s = Unit {0}

all_different-plain : (d : AllDifferent) → ArePlainWanted (signature (statement.IntAllDifferent d))
all_different-plain all_different.Plain = (tt, tt)
all_different-plain all_different.Reified = (tt, (tt, tt))
all_different-plain all_different.Conditional = (tt, (tt, tt))

order-plain : (b r : Bool) → ArePlainWanted (if b then (if r then wanted.Truths ∷ wanted.Truths ∷ wanted.Truth ∷ [] else wanted.Truths ∷ wanted.Truths ∷ []) else (if r then wanted.Numbers ∷ wanted.Numbers ∷ wanted.Truth ∷ [] else wanted.Numbers ∷ wanted.Numbers ∷ []))
order-plain true true = (tt, (tt, (tt, tt)))
order-plain true false = (tt, (tt, tt))
order-plain false true = (tt, (tt, (tt, tt)))
order-plain false false = (tt, (tt, tt))

signature-plain : (s : Statement) → IsPlain s → ArePlainWanted (signature s)
signature-plain statement.NewBool p = absurd p
signature-plain statement.NewInt p = absurd p
signature-plain statement.BoolToInt p = absurd p
signature-plain statement.BoolEq p = (tt, (tt, tt))
signature-plain (statement.BoolOp op) p = (tt, (tt, (tt, tt)))
signature-plain (statement.BoolArray op) p = (tt, tt)
signature-plain (statement.BoolArrayReified op) p = (tt, (tt, tt))
signature-plain (statement.Compare rel) p = (tt, (tt, tt))
signature-plain (statement.CompareReified rel) p = (tt, (tt, (tt, tt)))
signature-plain (statement.BoolSum rel) p = (tt, (tt, tt))
signature-plain (statement.BoolLinear rel) p = (tt, (tt, (tt, tt)))
signature-plain (statement.IntSum rel) p = (tt, (tt, tt))
signature-plain (statement.IntLinear rel) p = (tt, (tt, (tt, tt)))
signature-plain (statement.IntOp o) p = (tt, (tt, (tt, tt)))
signature-plain statement.Absolute p = (tt, (tt, tt))
signature-plain (statement.IntArray o) p = (tt, (tt, tt))
signature-plain (statement.IntAllDifferent d) p = all_different-plain d
signature-plain (statement.Lexicographic o) p = order-plain o.of_booleans o.reified

-- Each argument that is what the signature wants fits.

module _ (n : ℕ) (ds : List Decl) (before : AllBefore n ds) where
  argument-fits : (w : Wanted) (a : Arg) → IsPlainWanted w → arg_fits ds w a ≡ true → ArgumentFits ds n w (argument_in ds w (Some a))
  argument-fits wanted.Truth (arg.One t) p e = truth-fits n ds before t e
  argument-fits wanted.Number (arg.One t) p e = number-fits n ds before t e
  argument-fits wanted.Truths (arg.Many ts) p e = truths-fit n ds before ts e
  argument-fits wanted.Numbers (arg.Many ts) p e = numbers-fit n ds before ts e
  argument-fits wanted.Numerals a p e = tt
  argument-fits wanted.Numeral a p e = absurd p
  argument-fits wanted.NewName a p e = absurd p
  argument-fits wanted.NewInteger a p e = absurd p
  argument-fits w a p e = absurd (false≢true e)

  arguments-fit : (ws : List Wanted) (args : List Arg) → ArePlainWanted ws → fit ds ws args ≡ true → ArgumentsFit ds n ws (arguments_in ds ws (slice_get args))
  arguments-fit [] args p e = tt
  arguments-fit (w ∷ ws) [] p e = absurd (false≢true e)
  arguments-fit (w ∷ ws) (a ∷ rest) p e =
      let h = and_parts (arg_fits ds w a) (fit ds ws rest) e in
      (argument-fits w a p.0 h.0, arguments-fit ws rest p.1 h.1)

-- Two lists have one length.

-- an argument with a length is a list of so many terms
abbrev IsListOf : Arg → ℕ → Type 0
IsListOf (arg.One t) m = ⊥
IsListOf (arg.Many ts) m = m ≡ length ts

module _ (ds : List Decl) where
  length-in : (w : Wanted) (a : Arg) → arg_fits ds w a ≡ true → IfSome (list_length (argument_in ds w (Some a))) (IsListOf a)
  length-in wanted.Truths (arg.Many ts) e = length-map ts (truth ds)
  length-in wanted.Numbers (arg.Many ts) e = length-map ts (number ds)
  length-in wanted.Numerals (arg.Many ts) e = length-map ts numeral
  length-in wanted.Truths (arg.One t) e = absurd (false≢true e)
  length-in wanted.Numbers (arg.One t) e = absurd (false≢true e)
  length-in wanted.Numerals (arg.One t) e = absurd (false≢true e)
  length-in w a e = tt

  same_length : (x y m n : ℕ) → m ≡ x → n ≡ y → not (nat_eq x y) ≡ false → m ≡ n
  same_length x y m n d e f = grind (arith, nat_tests)

  lengths-same : (a b : Arg) (o p : Option ℕ) → IfSome o (IsListOf a) → IfSome p (IsListOf b) → lists_differ (Some a) (Some b) ≡ false → IfSome o (λ m. IfSome p (λ n. m ≡ n))
  lengths-same a b None p h k e = tt
  lengths-same a b (Some m) None h k e = tt
  lengths-same (arg.One t) b (Some m) (Some n) h k e = absurd h
  lengths-same (arg.Many ts) (arg.One t) (Some m) (Some n) h k e = absurd k
  lengths-same (arg.Many ts) (arg.Many us) (Some m) (Some n) h k e = same_length (length ts) (length us) m n h k e

  lengths-fit : (ws : List Wanted) (args : List Arg) → fit ds ws args ≡ true → lists_differ (slice_get args 0) (slice_get args 1) ≡ false → LengthsFit (arguments_in ds ws (slice_get args))
  lengths-fit [] args e d = tt
  lengths-fit (v ∷ []) args e d = tt
  lengths-fit (v ∷ w ∷ ws) [] e d = absurd (false≢true e)
  lengths-fit (v ∷ w ∷ ws) (a ∷ []) e d = absurd (false≢true (and_parts (arg_fits ds v a) false e).1)
  lengths-fit (v ∷ w ∷ ws) (a ∷ b ∷ rest) e d =
      let h = and_parts (arg_fits ds v a) _ e in
      let k = and_parts (arg_fits ds w b) (fit ds ws rest) h.1 in
      lengths-same a b (list_length (argument_in ds v (Some a))) (list_length (argument_in ds w (Some b))) (length-in v a h.0) (length-in w b k.0) d

module _ (n : ℕ) (ds : List Decl) (before : AllBefore n ds) (args : List Arg) where
  division : ArgFits ds wanted.Number (slice_get args 0) → ArgFits ds wanted.Number (slice_get args 1) → (int_lt (least_in ds (slice_get args 0)) (pos 0) || int_lt (least_in ds (slice_get args 1)) (pos 1)) ≡ false → IsDivision ds (arguments_in ds (wanted.Number ∷ wanted.Number ∷ wanted.Number ∷ []) (slice_get args))
  division h k e =
      let p = or_parts (int_lt (least_in ds (slice_get args 0)) (pos 0)) (int_lt (least_in ds (slice_get args 1)) (pos 1)) e in
      (least-fits (pos 0) ds (slice_get args 0) h p.0, least-fits (pos 1) ds (slice_get args 1) k p.1)

  member : ArgFits ds wanted.Numbers (slice_get args 0) → is_empty (slice_get args 0) ≡ false → 0 < length (numbers_in ds (slice_get args 0))
  member h m = rw (length-map (terms_in (slice_get args 0)) (number ds)) (list-member ds (slice_get args 0) h m)

  values-fit : (s : Statement) → NoFault ds s args → ValuesFit ds s (arguments_in ds (signature s) (slice_get args))
  values-fit (statement.IntArray aggregate.Plus) ok = tt
  values-fit (statement.IntArray aggregate.Max) ok = member (fit-at ds (wanted.Numbers ∷ wanted.Number ∷ []) args 0 ok.fits) ok.member
  values-fit (statement.IntArray aggregate.Min) ok = member (fit-at ds (wanted.Numbers ∷ wanted.Number ∷ []) args 0 ok.fits) ok.member
  values-fit (statement.IntOp arithmetic.Div) ok =
      let F = λ (k : ℕ). fit-at ds (wanted.Number ∷ wanted.Number ∷ wanted.Number ∷ []) args k ok.fits in
      division (F 0) (F 1) ok.division
  values-fit (statement.IntOp arithmetic.Mod) ok =
      let F = λ (k : ℕ). fit-at ds (wanted.Number ∷ wanted.Number ∷ wanted.Number ∷ []) args k ok.fits in
      division (F 0) (F 1) ok.division
  values-fit s ok = tt

  -- only `new_int` has two forms
  wanted-plain : (s : Statement) (a : Option Arg) → IsPlain s → wanted_of s a ≡ signature s
  wanted-plain statement.NewInt a p = absurd p
  wanted-plain s a p = refl

  read-fits : (s : Statement) → IsPlain s → NoFault ds s args → (w : What) → Reads ds args s w → WhatFits ds n w
  read-fits s p ok w r =
      let fits = subst (λ (ws : List Wanted). fit ds ws args ≡ true) (wanted-plain s (slice_get args 1) p) ok.fits in
      record {
        name = r.name;
        arguments = rw (r.statement, r.arguments) (arguments-fit n ds before (signature s) args (signature-plain s p) fits);
        lengths = rw r.arguments (lengths-fit ds (signature s) args fits ok.lengths);
        values = rw (r.statement, r.arguments) (values-fit s ok);
      }

  built-fits : (o : Option What) (s : Statement) → IsPlain s → NoFault ds s args → IfSome o (Reads ds args s) → IfSome o (WhatFits ds n)
  built-fits None s p ok h = tt
  built-fits (Some w) s p ok h = read-fits s p ok w h

  pub plain-fits : (name : List ℕ) (s : Statement) → IsPlain s → statement_of name ≡ Some s → NoFault ds s args → IfSome (what_of ds name s args) (WhatFits ds n)
  plain-fits name s p m ok = built-fits (what_of ds name s args) s p ok (reads ds args name s m)
