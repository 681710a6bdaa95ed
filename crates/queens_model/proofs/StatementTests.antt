-- What sums and different members keep to.
use Rattle.std.proofs.Common.{◌≡◌, ℕ, ◌+◌, ◌<◌, ◌≤◌, Bool, true, false, ◌&&◌, not, List, [], ◌∷◌, length, ℤ, unsigned_abs, Option, Some, None, nat_lt, nat_le, codes, bytes_eq, refl, sym, subst, arith}
use Rattle.std.proofs.lemmas.Bool.{false≢true, and_parts, leb-true}
use Rattle.std.proofs.lemmas.Slice.Eq.{bytes_eq-Decides}
use Rattle.model_meaning.specs.declared.model.Decl.{Decl}
use Rattle.model_meaning.specs.declared.model.Stmt.{Stmt}
use Rattle.model_meaning.specs.declared.what.IntTerm.{IntTerm}
use Rattle.model_meaning.specs.declared.what.IntTerm.TheVariants as int_term
use Rattle.model_meaning.specs.declared.what.What.{What}
use Rattle.model_meaning.specs.declared.what.What.TheVariants.{
  BoolToInt,
  BoolEq,
  BoolOp,
  BoolArray,
  BoolArrayReified,
  Compare,
  CompareReified,
  BoolSum,
  BoolLinear,
  IntSum,
  IntLinear,
  IntOp,
  Absolute,
  IntArray,
  IntAllDifferent,
  Lexicographic,
}
use Rattle.model_meaning.specs.declared.statement.Arithmetic.{Arithmetic}
use Rattle.model_meaning.specs.declared.statement.Arithmetic.TheVariants as arithmetic
use Rattle.model_meaning.specs.declared.statement.AllDifferent.{AllDifferent}
use Rattle.model_meaning.specs.declared.statement.AllDifferent.TheVariants as all_different
use Rattle.model_meaning.specs.Names.{statement_of, lone_statement, operator_statement, relation_statement, operation_statement}
use Rattle.model_meaning.specs.Limits.{TermInLimit, WhatInLimit, StmtsInLimit}
use Rattle.model_meaning.specs.WellTyped.{NumberFits, WhatFits, StmtsFit}
use Rattle.queens_model.proofs.ModelTests.{place_test, place_fits, terms_test, terms_fit, terms_in_limit}

same_name : (name other : List ℕ) → bytes_eq name other ≡ true → name ≡ other
same_name name other h = (bytes_eq-Decides name other).0 h

-- a term

abbrev number_test : List Decl → ℕ → IntTerm → Bool
number_test ds n (int_term.Number z) = nat_le (unsigned_abs z) 1073741824
number_test ds n (int_term.Of place) = place_test ds n place

number_fits : (ds : List Decl) (n : ℕ) (i : IntTerm) → number_test ds n i ≡ true → NumberFits ds n i
number_fits ds n (int_term.Number z) h = tt
number_fits ds n (int_term.Of place) h = place_fits ds n place h

number_in_limit : (ds : List Decl) (n : ℕ) (i : IntTerm) → number_test ds n i ≡ true → TermInLimit i
number_in_limit ds n (int_term.Number z) h = leb-true (unsigned_abs z) 1073741824 h
number_in_limit ds n (int_term.Of place) h = tt

-- a sum

abbrev is_plus : Arithmetic → Bool
is_plus arithmetic.Plus = true
is_plus arithmetic.Times = false
is_plus arithmetic.Div = false
is_plus arithmetic.Mod = false
is_plus arithmetic.Max = false
is_plus arithmetic.Min = false

plus_is : (o : Arithmetic) → is_plus o ≡ true → arithmetic.Plus ≡ o
plus_is arithmetic.Plus h = refl
plus_is arithmetic.Times h = absurd (false≢true h)
plus_is arithmetic.Div h = absurd (false≢true h)
plus_is arithmetic.Mod h = absurd (false≢true h)
plus_is arithmetic.Max h = absurd (false≢true h)
plus_is arithmetic.Min h = absurd (false≢true h)

module _ (ds : List Decl) (n : ℕ) where
  module _ (i j k : IntTerm) where
    abbrev sum_test : List ℕ → Arithmetic → Bool
    sum_test name o = bytes_eq name (codes "int_plus") && (is_plus o && (number_test ds n i && (number_test ds n j && number_test ds n k)))

    sum_fits : number_test ds n i ≡ true → number_test ds n j ≡ true → number_test ds n k ≡ true → WhatFits ds n (IntOp (codes "int_plus") arithmetic.Plus i j k)
    unfolding statement_of lone_statement operator_statement relation_statement operation_statement
    sum_fits p q r = record { name = refl; arguments = (number_fits ds n i p, (number_fits ds n j q, (number_fits ds n k r, tt))); lengths = tt; values = tt }

    sum_kept : (name : List ℕ) (o : Arithmetic) → sum_test name o ≡ true → WhatFits ds n (IntOp name o i j k) × WhatInLimit (IntOp name o i j k)
    sum_kept name o h =
        let a = and_parts (bytes_eq name (codes "int_plus")) (is_plus o && (number_test ds n i && (number_test ds n j && number_test ds n k))) h in
        let b = and_parts (is_plus o) (number_test ds n i && (number_test ds n j && number_test ds n k)) a.1 in
        let e = and_parts (number_test ds n i) (number_test ds n j && number_test ds n k) b.1 in
        let f = and_parts (number_test ds n j) (number_test ds n k) e.1 in
        let P : List ℕ → Type 0 = λ m. WhatFits ds n (IntOp m o i j k) in
        let Q : Arithmetic → Type 0 = λ x. WhatFits ds n (IntOp (codes "int_plus") x i j k) in (
          subst P (sym (same_name name (codes "int_plus") a.0)) (subst Q (plus_is o b.0) (sum_fits e.0 f.0 f.1)),
          ((number_in_limit ds n i e.0, (number_in_limit ds n j f.0, (number_in_limit ds n k f.1, tt))), leb-true 0 16777216 refl),
        )

  -- members that differ

  abbrev is_plain : AllDifferent → Bool
  is_plain all_different.Plain = true
  is_plain all_different.Reified = false
  is_plain all_different.Conditional = false

  plain_is : (d : AllDifferent) → is_plain d ≡ true → all_different.Plain ≡ d
  plain_is all_different.Plain h = refl
  plain_is all_different.Reified h = absurd (false≢true h)
  plain_is all_different.Conditional h = absurd (false≢true h)

  module _ (is : List IntTerm) where
    abbrev differ_test : List ℕ → Bool
    differ_test name = bytes_eq name (codes "int_array_allDiff") && (nat_le (length is) 16777216 && terms_test ds n is)

    differ_fits : terms_test ds n is ≡ true → WhatFits ds n (IntAllDifferent (codes "int_array_allDiff") all_different.Plain is None None)
    unfolding statement_of lone_statement operator_statement relation_statement operation_statement
    differ_fits p = record { name = refl; arguments = (terms_fit ds n is p, tt); lengths = tt; values = tt }

    differ_kept : (name : List ℕ) → differ_test name ≡ true → WhatFits ds n (IntAllDifferent name all_different.Plain is None None) × WhatInLimit (IntAllDifferent name all_different.Plain is None None)
    differ_kept name h =
        let a = and_parts (bytes_eq name (codes "int_array_allDiff")) (nat_le (length is) 16777216 && terms_test ds n is) h in
        let b = and_parts (nat_le (length is) 16777216) (terms_test ds n is) a.1 in
        let P : List ℕ → Type 0 = λ m. WhatFits ds n (IntAllDifferent m all_different.Plain is None None) in (
          subst P (sym (same_name name (codes "int_array_allDiff") a.0)) (differ_fits b.1),
          ((terms_in_limit ds n is b.1, tt), more (length is) (leb-true (length is) 16777216 b.0)),
        )
      where
        more : (m : ℕ) → m ≤ 16777216 → m + 0 ≤ 16777216
        more m e = omega (arith, e)

-- statements of these two kinds

abbrev what_test : List Decl → ℕ → What → Bool
what_test ds n (IntOp name o i j k) = sum_test ds n i j k name o
what_test ds n (IntAllDifferent name all_different.Plain is None None) = differ_test ds n is name
what_test ds n w = false

what_kept : (ds : List Decl) (n : ℕ) (w : What) → what_test ds n w ≡ true → WhatFits ds n w × WhatInLimit w
what_kept ds n (IntOp name o i j k) h = sum_kept ds n i j k name o h
what_kept ds n (IntAllDifferent name all_different.Plain is None None) h = differ_kept ds n is name h
what_kept ds n w h = absurd (false≢true h)

abbrev pub stmts_test : List Decl → ℕ → List Stmt → Bool
stmts_test ds n [] = true
stmts_test ds n (s ∷ ss) = nat_le n s.number && (what_test ds s.number s.what && stmts_test ds (s.number + 1) ss)

pub stmts_fit : (ds : List Decl) (n : ℕ) (ss : List Stmt) → stmts_test ds n ss ≡ true → StmtsFit ds n ss
stmts_fit ds n [] h = tt
stmts_fit ds n (s ∷ ss) h =
    let a = and_parts (nat_le n s.number) (what_test ds s.number s.what && stmts_test ds (s.number + 1) ss) h in
    let b = and_parts (what_test ds s.number s.what) (stmts_test ds (s.number + 1) ss) a.1 in
    (leb-true n s.number a.0, ((what_kept ds s.number s.what b.0).0, stmts_fit ds (s.number + 1) ss b.1))

pub stmts_in_limit : (ds : List Decl) (n : ℕ) (ss : List Stmt) → stmts_test ds n ss ≡ true → StmtsInLimit ss
stmts_in_limit ds n [] h = tt
stmts_in_limit ds n (s ∷ ss) h =
    let a = and_parts (nat_le n s.number) (what_test ds s.number s.what && stmts_test ds (s.number + 1) ss) h in
    let b = and_parts (what_test ds s.number s.what) (stmts_test ds (s.number + 1) ss) a.1 in
    ((what_kept ds s.number s.what b.0).1, stmts_in_limit ds (s.number + 1) ss b.1)
