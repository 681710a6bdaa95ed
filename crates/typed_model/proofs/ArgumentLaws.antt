-- The arguments of a built statement are those of its item, read as its signature wants them.
use Rattle.std.proofs.Common.{◌≡◌, ℕ, suc, Bool, true, false, List, [], ◌∷◌, Option, Some, None, refl, ◌∙◌}
use Rattle.std.specs.Prelude.{slice_get, IfSome, if◌then◌else◌}
use Rattle.std.specs.Option.{option_map}
use Rattle.bumblebee_reader.specs.declared.syntax.Arg.{Arg}
use Rattle.model_meaning.specs.declared.what.BoolTerm.{BoolTerm}
use Rattle.model_meaning.specs.declared.what.IntTerm.{IntTerm}
use Rattle.model_meaning.specs.declared.what.IntTerm.TheVariants as int_term
use Rattle.model_meaning.specs.declared.what.What.{What}
use Rattle.model_meaning.specs.declared.wanted.Wanted.{Wanted}
use Rattle.model_meaning.specs.declared.wanted.Wanted.TheVariants as wanted
use Rattle.model_meaning.specs.declared.statement.AllDifferent.{AllDifferent}
use Rattle.model_meaning.specs.declared.statement.AllDifferent.TheVariants as all_different
use Rattle.model_meaning.specs.declared.statement.Statement.{Statement}
use Rattle.model_meaning.specs.declared.statement.Statement.TheVariants as statement
use Rattle.model_meaning.specs.declared.model.Decl.{Decl}
use Rattle.model_meaning.specs.Names.{statement_of}
use Rattle.model_meaning.specs.Signatures.{signature}
use Rattle.typed_model.specs.Faults.{numeral_in}
use Rattle.typed_model.specs.Items.{truth_in, number_in, truths_in, numbers_in, numerals_in, what_of, all_different_what}
use Rattle.model_meaning.specs.Arguments.{Argument, Truth, Number, Truths, Numbers, Numerals, given, arguments_of, statement_in, own_name}

-- the argument that is wanted; no statement keeps a new name or a single numeral
abbrev pub argument_in : List Decl → Wanted → Option Arg → Argument
argument_in ds wanted.Truth a = Truth (truth_in ds a)
argument_in ds wanted.Number a = Number (number_in ds a)
argument_in ds wanted.Numeral a = Number (int_term.Number (numeral_in a))
argument_in ds wanted.Truths a = Truths (truths_in ds a)
argument_in ds wanted.Numbers a = Numbers (numbers_in ds a)
argument_in ds wanted.Numerals a = Numerals (numerals_in a)
argument_in ds wanted.NewName a = Truth (truth_in ds a)
argument_in ds wanted.NewInteger a = Number (number_in ds a)

-- the arguments that are wanted, where a function gives those of the item by their places
abbrev pub arguments_in : List Decl → List Wanted → (ℕ → Option Arg) → List Argument
arguments_in ds [] at = []
arguments_in ds (w ∷ ws) at = argument_in ds w (at 0) ∷ arguments_in ds ws (λ k. at (suc k))

-- what is built of a statement has its name, is that statement, and has these arguments
pub record Reads (ds : List Decl) (args : List Arg) (s : Statement) (w : What) : Type 0 where
  pub name : IfSome (own_name w) (λ n. statement_of n ≡ Some (statement_in w))
  pub statement : statement_in w ≡ s
  pub arguments : arguments_of w ≡ arguments_in ds (signature s) (slice_get args)

module _ (ds : List Decl) (args : List Arg) (name : List ℕ) where
  all_different-reads : (d : AllDifferent) → statement_of name ≡ Some (statement.IntAllDifferent d) → Reads ds args (statement.IntAllDifferent d) (all_different_what ds name d args)
  all_different-reads all_different.Plain m = record { name = m; statement = refl; arguments = refl }
  all_different-reads all_different.Reified m = record { name = m; statement = refl; arguments = refl }
  all_different-reads all_different.Conditional m = record { name = m; statement = refl; arguments = refl }

  order-arguments : (b r : Bool) (xs ys : List BoolTerm) (is js : List IntTerm) (z : BoolTerm) → given (option_map Truths (if b then Some xs else None) ∷ option_map Truths (if b then Some ys else None) ∷ option_map Numbers (if b then None else Some is) ∷ option_map Numbers (if b then None else Some js) ∷ option_map Truth (if r then Some z else None) ∷ []) ≡ (if b then (if r then Truths xs ∷ Truths ys ∷ Truth z ∷ [] else Truths xs ∷ Truths ys ∷ []) else (if r then Numbers is ∷ Numbers js ∷ Truth z ∷ [] else Numbers is ∷ Numbers js ∷ []))
  order-arguments true true xs ys is js z = refl
  order-arguments true false xs ys is js z = refl
  order-arguments false true xs ys is js z = refl
  order-arguments false false xs ys is js z = refl

  order-wanted : (b r : Bool) → (if b then (if r then Truths (truths_in ds (slice_get args 0)) ∷ Truths (truths_in ds (slice_get args 1)) ∷ Truth (truth_in ds (slice_get args 2)) ∷ [] else Truths (truths_in ds (slice_get args 0)) ∷ Truths (truths_in ds (slice_get args 1)) ∷ []) else (if r then Numbers (numbers_in ds (slice_get args 0)) ∷ Numbers (numbers_in ds (slice_get args 1)) ∷ Truth (truth_in ds (slice_get args 2)) ∷ [] else Numbers (numbers_in ds (slice_get args 0)) ∷ Numbers (numbers_in ds (slice_get args 1)) ∷ [])) ≡ arguments_in ds (if b then (if r then wanted.Truths ∷ wanted.Truths ∷ wanted.Truth ∷ [] else wanted.Truths ∷ wanted.Truths ∷ []) else (if r then wanted.Numbers ∷ wanted.Numbers ∷ wanted.Truth ∷ [] else wanted.Numbers ∷ wanted.Numbers ∷ [])) (slice_get args)
  order-wanted true true = refl
  order-wanted true false = refl
  order-wanted false true = refl
  order-wanted false false = refl

  pub reads : (s : Statement) → statement_of name ≡ Some s → IfSome (what_of ds name s args) (Reads ds args s)
  unfolding what_of
  reads statement.NewBool m = tt
  reads statement.NewInt m = tt
  reads statement.BoolToInt m = record { name = tt; statement = refl; arguments = refl }
  reads statement.BoolEq m = record { name = tt; statement = refl; arguments = refl }
  reads statement.Absolute m = record { name = tt; statement = refl; arguments = refl }
  reads (statement.IntAllDifferent d) m = all_different-reads d m
  reads (statement.Lexicographic o) m =
      record {
        name = m;
        statement = refl;
        arguments = order-arguments o.of_booleans o.reified _ _ _ _ _ ∙ order-wanted o.of_booleans o.reified;
      }
  reads s m = record { name = m; statement = refl; arguments = refl }
