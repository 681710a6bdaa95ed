-- What fits some declarations fits more of them.
use Rattle.std.proofs.Common.{ℕ, zero, suc, ℤ, List, [], ◌∷◌, ◌++◌, IsSomeAnd}
use Rattle.std.specs.Prelude.{slice_get}
use Rattle.model_meaning.specs.declared.what.BoolTerm.{BoolTerm}
use Rattle.model_meaning.specs.declared.what.BoolTerm.TheVariants as bool_term
use Rattle.model_meaning.specs.declared.what.IntTerm.{IntTerm}
use Rattle.model_meaning.specs.declared.what.IntTerm.TheVariants as int_term
use Rattle.model_meaning.specs.declared.what.What.{What}
use Rattle.model_meaning.specs.declared.statement.Arithmetic.TheVariants as arithmetic
use Rattle.model_meaning.specs.declared.statement.Statement.{Statement}
use Rattle.model_meaning.specs.declared.statement.Statement.TheVariants as statement
use Rattle.model_meaning.specs.declared.wanted.Wanted.{Wanted}
use Rattle.model_meaning.specs.declared.wanted.Wanted.TheVariants as wanted
use Rattle.model_meaning.specs.declared.model.Decl.{Decl}
use Rattle.model_meaning.specs.Signatures.{signature}
use Rattle.model_meaning.specs.Arguments.{Argument, Truth, Number, Truths, Numbers, Numerals, arguments_of, statement_in}
use Rattle.model_meaning.specs.WellTyped.{TruthFits, NumberFits, TruthsFit, NumbersFit, IsAtLeast, ArgumentFits, ArgumentsFit, IsDivision, ValuesFit, WhatFits}

pub at-append : {A : Type 0} (xs ys : List A) (p : ℕ) (P : A → Type 0) → IsSomeAnd (slice_get xs p) P → IsSomeAnd (slice_get (xs ++ ys) p) P
at-append [] ys p P h = absurd h
at-append (x ∷ xs) ys zero P h = h
at-append (x ∷ xs) ys (suc p) P h = at-append xs ys p P h

module _ (ds es : List Decl) (n : ℕ) where
  pub TruthFits-append : (x : BoolTerm) → TruthFits ds n x → TruthFits (ds ++ es) n x
  TruthFits-append (bool_term.Const b) h = tt
  TruthFits-append (bool_term.Of p s) h = at-append ds es p _ h

  pub NumberFits-append : (x : IntTerm) → NumberFits ds n x → NumberFits (ds ++ es) n x
  NumberFits-append (int_term.Number z) h = tt
  NumberFits-append (int_term.Of p) h = at-append ds es p _ h

  TruthsFit-append : (xs : List BoolTerm) → TruthsFit ds n xs → TruthsFit (ds ++ es) n xs
  TruthsFit-append [] h = tt
  TruthsFit-append (x ∷ xs) h = (TruthFits-append x h.0, TruthsFit-append xs h.1)

  NumbersFit-append : (xs : List IntTerm) → NumbersFit ds n xs → NumbersFit (ds ++ es) n xs
  NumbersFit-append [] h = tt
  NumbersFit-append (x ∷ xs) h = (NumberFits-append x h.0, NumbersFit-append xs h.1)

  IsAtLeast-append : (m : ℤ) (x : IntTerm) → IsAtLeast ds m x → IsAtLeast (ds ++ es) m x
  IsAtLeast-append m (int_term.Number z) h = h
  IsAtLeast-append m (int_term.Of p) h = at-append ds es p _ h

  ArgumentFits-append : (w : Wanted) (x : Argument) → ArgumentFits ds n w x → ArgumentFits (ds ++ es) n w x
  ArgumentFits-append wanted.Truth (Truth x) h = TruthFits-append x h
  ArgumentFits-append wanted.Number (Number i) h = NumberFits-append i h
  ArgumentFits-append wanted.NewInteger (Number (int_term.Of p)) h = at-append ds es p _ h
  ArgumentFits-append wanted.Truths (Truths xs) h = TruthsFit-append xs h
  ArgumentFits-append wanted.Numbers (Numbers is) h = NumbersFit-append is h
  ArgumentFits-append wanted.Numerals (Numerals cs) h = tt
  ArgumentFits-append w x h = absurd h

  ArgumentsFit-append : (ws : List Wanted) (xs : List Argument) → ArgumentsFit ds n ws xs → ArgumentsFit (ds ++ es) n ws xs
  ArgumentsFit-append [] [] h = tt
  ArgumentsFit-append [] (x ∷ xs) h = absurd h
  ArgumentsFit-append (w ∷ ws) [] h = absurd h
  ArgumentsFit-append (w ∷ ws) (x ∷ xs) h = (ArgumentFits-append w x h.0, ArgumentsFit-append ws xs h.1)

  IsDivision-append : (xs : List Argument) → IsDivision ds xs → IsDivision (ds ++ es) xs
  IsDivision-append (Number i ∷ Number j ∷ xs) h = (IsAtLeast-append _ i h.0, IsAtLeast-append _ j h.1)
  IsDivision-append xs h = absurd h

  ValuesFit-append : (s : Statement) (xs : List Argument) → ValuesFit ds s xs → ValuesFit (ds ++ es) s xs
  ValuesFit-append (statement.IntArray o) xs h = h
  ValuesFit-append (statement.IntOp arithmetic.Div) xs h = IsDivision-append xs h
  ValuesFit-append (statement.IntOp arithmetic.Mod) xs h = IsDivision-append xs h
  ValuesFit-append s xs h = tt

  pub WhatFits-append : (w : What) → WhatFits ds n w → WhatFits (ds ++ es) n w
  WhatFits-append w h =
      record {
        name = h.name;
        arguments = ArgumentsFit-append (signature (statement_in w)) (arguments_of w) h.arguments;
        lengths = h.lengths;
        values = ValuesFit-append (statement_in w) (arguments_of w) h.values;
      }
