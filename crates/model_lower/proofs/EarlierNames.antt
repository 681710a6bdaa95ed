-- A statement speaks of declarations with lesser numbers alone.
use Rattle.std.proofs.Common.{◌≡◌, ℕ, zero, suc, ◌+◌, ◌<◌, ◌≤◌, ℤ, ◌≤ℤ◌, Some, List, [], ◌∷◌, ◌++◌, IsSomeAnd, arith}
use Rattle.std.specs.Prelude.{slice_get}
use Rattle.model_meaning.specs.declared.model.Decl.{Decl}
use Rattle.model_meaning.specs.declared.model.Kind.TheVariants as kind
use Rattle.model_meaning.specs.declared.what.BoolTerm.{BoolTerm}
use Rattle.model_meaning.specs.declared.what.BoolTerm.TheVariants as bool_term
use Rattle.model_meaning.specs.declared.what.IntTerm.{IntTerm}
use Rattle.model_meaning.specs.declared.what.IntTerm.TheVariants as int_term
use Rattle.model_meaning.specs.declared.what.What.{What}
use Rattle.model_meaning.specs.declared.wanted.Wanted.{Wanted}
use Rattle.model_meaning.specs.declared.wanted.Wanted.TheVariants as wanted
use Rattle.model_meaning.specs.declared.statement.Arithmetic.TheVariants as arithmetic
use Rattle.model_meaning.specs.declared.statement.Statement as statement
use Rattle.model_meaning.specs.declared.statement.Statement.TheVariants as variant
use Rattle.model_meaning.specs.Signatures.{signature}
use Rattle.model_meaning.specs.Places.{low_of}
use Rattle.model_meaning.specs.Arguments.{Argument, Truth, Number, Truths, Numbers, Numerals, arguments_of, statement_in}
use Rattle.model_meaning.specs.WellTyped.{IsInt, TruthFits, NumberFits, TruthsFit, NumbersFit, IsAtLeast, ArgumentFits, ArgumentsFit, IsDivision, ValuesFit, WhatFits, DeclsFit}

-- the numbers of declarations are n or more
abbrev pub AllFrom : ℕ → List Decl → Type 0
AllFrom n [] = Unit {0}
AllFrom n (d ∷ ds) = (n ≤ d.number) × AllFrom n ds

pub from-fit : (n m : ℕ) (ds : List Decl) → n ≤ m → DeclsFit m ds → AllFrom n ds
from-fit n m [] le h = tt
from-fit n m (d ∷ ds) le h = (omega (arith, h.0), from-fit n (d.number + 1) ds (omega (arith, h.0)) h.1.1.1.1)

none-from : (es : List Decl) (n p : ℕ) (Q : Decl → Type 0) → AllFrom n es → IsSomeAnd (slice_get es p) (λ d. (d.number < n) × Q d) → ⊥
none-from [] n p Q from h = h
none-from (d ∷ es) n zero Q from h = omega (arith, from.0, h.0)
none-from (d ∷ es) n (suc p) Q from h = none-from es n p Q from.1 h

at-before : (ds es : List Decl) (n p : ℕ) (Q : Decl → Type 0) → AllFrom n es → IsSomeAnd (slice_get (ds ++ es) p) (λ d. (d.number < n) × Q d) → IsSomeAnd (slice_get ds p) (λ d. (d.number < n) × Q d)
at-before [] es n p Q from h = absurd (none-from es n p Q from h)
at-before (d ∷ ds) es n zero Q from h = h
at-before (d ∷ ds) es n (suc p) Q from h = at-before ds es n p Q from h

pub AllFrom-less : (n : ℕ) (ds : List Decl) → AllFrom (n + 1) ds → AllFrom n ds
AllFrom-less n [] h = tt
AllFrom-less n (d ∷ ds) h = (omega (arith, h.0), AllFrom-less n ds h.1)

-- what is at a place before stays so, whatever else is known of it
both-before : (ds es : List Decl) (n p : ℕ) (Q R : Decl → Type 0) → AllFrom n es → IsSomeAnd (slice_get (ds ++ es) p) (λ d. (d.number < n) × Q d) → IsSomeAnd (slice_get (ds ++ es) p) R → IsSomeAnd (slice_get ds p) R
both-before [] es n p Q R from h r = absurd (none-from es n p Q from h)
both-before (d ∷ ds) es n zero Q R from h r = r
both-before (d ∷ ds) es n (suc p) Q R from h r = both-before ds es n p Q R from h r

pub truth-before : (ds es : List Decl) (n : ℕ) → AllFrom n es → (x : BoolTerm) → TruthFits (ds ++ es) n x → TruthFits ds n x
truth-before ds es n from (bool_term.Const t) h = tt
truth-before ds es n from (bool_term.Of p s) h = at-before ds es n p (λ d. d.kind ≡ kind.Bool) from h

module _ (ds es : List Decl) (n : ℕ) (from : AllFrom (n + 1) es) where
  TruthFits-before : (x : BoolTerm) → TruthFits (ds ++ es) n x → TruthFits ds n x
  TruthFits-before = truth-before ds es n (AllFrom-less n es from)

  NumberFits-before : (i : IntTerm) → NumberFits (ds ++ es) n i → NumberFits ds n i
  NumberFits-before (int_term.Number z) h = tt
  NumberFits-before (int_term.Of p) h = at-before ds es n p (λ d. IsInt d.kind) (AllFrom-less n es from) h

  TruthsFit-before : (xs : List BoolTerm) → TruthsFit (ds ++ es) n xs → TruthsFit ds n xs
  TruthsFit-before [] h = tt
  TruthsFit-before (x ∷ xs) h = (TruthFits-before x h.0, TruthsFit-before xs h.1)

  NumbersFit-before : (is : List IntTerm) → NumbersFit (ds ++ es) n is → NumbersFit ds n is
  NumbersFit-before [] h = tt
  NumbersFit-before (i ∷ is) h = (NumberFits-before i h.0, NumbersFit-before is h.1)

  ArgumentFits-before : (w : Wanted) (x : Argument) → ArgumentFits (ds ++ es) n w x → ArgumentFits ds n w x
  ArgumentFits-before wanted.Truth (Truth x) h = TruthFits-before x h
  ArgumentFits-before wanted.Number (Number i) h = NumberFits-before i h
  ArgumentFits-before wanted.NewInteger (Number (int_term.Of p)) h = at-before ds es (n + 1) p (λ d. IsInt d.kind) from h
  ArgumentFits-before wanted.Truths (Truths xs) h = TruthsFit-before xs h
  ArgumentFits-before wanted.Numbers (Numbers is) h = NumbersFit-before is h
  ArgumentFits-before wanted.Numerals (Numerals cs) h = tt
  ArgumentFits-before w x h = absurd h

  ArgumentsFit-before : (ws : List Wanted) (xs : List Argument) → ArgumentsFit (ds ++ es) n ws xs → ArgumentsFit ds n ws xs
  ArgumentsFit-before [] [] h = tt
  ArgumentsFit-before [] (x ∷ xs) h = absurd h
  ArgumentsFit-before (w ∷ ws) [] h = absurd h
  ArgumentsFit-before (w ∷ ws) (x ∷ xs) h = (ArgumentFits-before w x h.0, ArgumentsFit-before ws xs h.1)

  IsAtLeast-before : (m : ℤ) (i : IntTerm) → NumberFits (ds ++ es) n i → IsAtLeast (ds ++ es) m i → IsAtLeast ds m i
  IsAtLeast-before m (int_term.Number z) k h = h
  IsAtLeast-before m (int_term.Of p) k h =
      both-before ds es n p (λ d. IsInt d.kind) (λ d. m ≤ℤ low_of (Some d.kind)) (AllFrom-less n es from) k h

  IsDivision-before : (xs : List Argument) → ArgumentsFit (ds ++ es) n (wanted.Number ∷ wanted.Number ∷ wanted.Number ∷ []) xs → IsDivision (ds ++ es) xs → IsDivision ds xs
  IsDivision-before (Number i ∷ Number j ∷ xs) k h = (IsAtLeast-before _ i k.0 h.0, IsAtLeast-before _ j k.1.0 h.1)
  IsDivision-before xs k h = absurd h

  ValuesFit-before : (s : statement.Statement) (xs : List Argument) → ArgumentsFit (ds ++ es) n (signature s) xs → ValuesFit (ds ++ es) s xs → ValuesFit ds s xs
  ValuesFit-before (variant.IntArray o) xs k h = h
  ValuesFit-before (variant.IntOp arithmetic.Div) xs k h = IsDivision-before xs k h
  ValuesFit-before (variant.IntOp arithmetic.Mod) xs k h = IsDivision-before xs k h
  ValuesFit-before s xs k h = tt

  pub WhatFits-before : (w : What) → WhatFits (ds ++ es) n w → WhatFits ds n w
  WhatFits-before w h =
      record {
        name = h.name;
        arguments = ArgumentsFit-before (signature (statement_in w)) (arguments_of w) h.arguments;
        lengths = h.lengths;
        values = ValuesFit-before (statement_in w) (arguments_of w) h.arguments h.values;
      }
