-- What a model within the limits weighs at most.
use Rattle.std.proofs.Common.{◌≡◌, ℕ, zero, suc, ◌+◌, ◌*◌, ◌^◌, ◌<◌, ◌≤◌, ℤ, Bool, true, false, List, [], ◌∷◌, ◌++◌, map, length, Option, Some, None, refl, ◌∙◌, arith, length-append}
use Rattle.std.specs.Prelude.{slice_get, nat_lt, ◌==◌, if◌then◌else◌}
use Rattle.std.specs.Option.{option_map}
use Rattle.std.proofs.Math.Nat.{div-le_self}
use Rattle.std.proofs.lemmas.Nat.{mul-le}
use Rattle.core_cost.specs.declared.shape.Shape.{Shape}
use Rattle.core_cost.specs.Arithmetic.{pairs_of_values}
use Rattle.core_cost.specs.Sums.{spans_of}
use Rattle.core_cost.specs.Relations.{AreShapes}
use Rattle.core_cost.proofs.Monotone.{ladder_lem}
use Rattle.core_cost.proofs.ShapeLaws.{IsShape-units}
use Rattle.model_meaning.specs.declared.what.BoolTerm.{BoolTerm}
use Rattle.model_meaning.specs.declared.what.IntTerm.{IntTerm}
use Rattle.model_meaning.specs.declared.what.IntTerm.TheVariants as int_term
use Rattle.model_meaning.specs.declared.what.What.{What}
use Rattle.model_meaning.specs.declared.what.What.TheVariants.{
  BoolToInt,
  BoolEq,
  BoolOp,
  BoolArray,
  BoolArrayReified,
  Compare,
  CompareReified,
  BoolSum,
  BoolLinear,
  IntSum,
  IntLinear,
  IntOp,
  Absolute,
  IntArray,
  IntAllDifferent,
  Lexicographic,
}
use Rattle.model_meaning.specs.declared.statement.Relation.{Relation}
use Rattle.model_meaning.specs.declared.statement.Relation.TheVariants as relation
use Rattle.model_meaning.specs.declared.statement.Arithmetic.{Arithmetic}
use Rattle.model_meaning.specs.declared.statement.Arithmetic.TheVariants as arithmetic
use Rattle.model_meaning.specs.declared.statement.Aggregate.{Aggregate}
use Rattle.model_meaning.specs.declared.statement.Aggregate.TheVariants as aggregate
use Rattle.model_meaning.specs.declared.statement.AllDifferent.{AllDifferent}
use Rattle.model_meaning.specs.declared.statement.AllDifferent.TheVariants as all_different
use Rattle.model_meaning.specs.declared.statement.Order.{Order}
use Rattle.model_meaning.specs.declared.model.Kind.{Kind}
use Rattle.model_meaning.specs.declared.model.Kind.TheVariants as kind
use Rattle.model_meaning.specs.declared.model.Decl.{Decl}
use Rattle.model_meaning.specs.declared.model.Stmt.{Stmt}
use Rattle.model_meaning.specs.declared.model.Model.{Model}
use Rattle.model_meaning.specs.Holds.{terms_or_none}
use Rattle.model_meaning.specs.Arguments.{Argument, Truth, Truths, Numbers, given}
use Rattle.model_meaning.specs.Sizes.{arguments_members, what_members, members_of}
use Rattle.model_meaning.specs.Limits.{InLimit, AllInLimit, TermInLimit, WhatInLimit, KindInLimit, DeclsInLimit, StmtsInLimit, InLimits}
use Rattle.value_lists.specs.ValueLists.{last_of}
use Rattle.model_weight.specs.Shapes.{steps_of, shape_of, least_of, greatest_of, domain_at, domain_of, steps_in, shape_in, all_steps}
use Rattle.model_weight.specs.Linear.{scaled_truths, scaled_numbers, numbers, with_steps, weight_of_linear}
use Rattle.model_weight.specs.Statements.{steps_of_remainder, steps_of_quotient, weight_of_operation, weight_of_aggregate, weight_of_all_different, weight_of_order, weight_of_what}
use Rattle.model_items.specs.Items.{Declaration, Statement, Definition, stmts_before, stmts_from, declared_item, behind_declared, items_of}
use Rattle.model_weight.specs.Weight.{weight_of_declaration, weight_of_item, weight_of_items, weight_of}
use Rattle.model_weight.proofs.Spans.{at_least_zero-bound, last-limit, steps-bound, kind-span, kind-shape, span-bound, shape-in, numbers-spans, scaled_numbers-spans, scaled_truths-spans, pushed-spans}
use Rattle.model_weight.proofs.MemberSteps.{with_steps-append}
use Rattle.model_weight.proofs.ItemSums.{weights-append, before-limit, rest-limit}
use Rattle.model_weight.proofs.LinearBounds.{AreShapes-numbers, AreShapes-scaled_numbers, AreShapes-scaled_truths, length-with_steps, comparison-bound, sum3-bound, linear-limit}
use Rattle.model_weight.proofs.LineBounds.{steps_in-bound, array-bound, reified_array-bound, weight_of_count-limit, max-limit, all_diff-limit, reified-limit, numbers_order-limit, truths_order-limit}

-- Linear sums.

linear-line : (rel : Relation) (members : List Shape) (right : Shape) (k m : ℕ) → k ≤ m → m ≤ 2 ^ 24 → length members ≤ k
    → spans_of (with_steps members) ≤ 2 ^ 61 * k → right.span ≤ 2 ^ 31 → AreShapes (with_steps (members ++ right ∷ []))
    → weight_of_linear rel members right ≤ 2 ^ 82 * (m + 1)
linear-line rel members right k m h limit few spans last shapes =
    let all = pushed-spans (with_steps members) (with_steps (members ++ right ∷ [])) right (with_steps-append members (right ∷ []) ∙ pushed) in
    let kept = length-with_steps (members ++ right ∷ []) in
    let longer = length-append members (right ∷ []) in
    let weight = linear-limit (k + 1) rel (with_steps (members ++ right ∷ [])) (omega arith) (omega arith) (omega arith) (omega arith) shapes in
    omega arith
  where
    pushed : with_steps members ++ with_steps (right ∷ []) ≡ with_steps members ++ with_steps (right ∷ [])
    pushed = refl

length-numbers : (ds : List Decl) (is : List IntTerm) → length (numbers ds is) ≤ length is
length-numbers ds [] = omega arith
length-numbers ds (i ∷ is) = omega (arith, length-numbers ds is)

length-scaled_numbers : (ds : List Decl) (cs : List ℤ) (is : List IntTerm) → length (scaled_numbers ds cs is) ≤ length is
length-scaled_numbers ds [] is = omega arith
length-scaled_numbers ds (c ∷ cs) [] = omega arith
length-scaled_numbers ds (c ∷ cs) (i ∷ is) = omega (arith, length-scaled_numbers ds cs is)

length-scaled_truths : (cs : List ℤ) (xs : List BoolTerm) → length (scaled_truths cs xs) ≤ length xs
length-scaled_truths [] xs = omega arith
length-scaled_truths (c ∷ cs) [] = omega arith
length-scaled_truths (c ∷ cs) (x ∷ xs) = omega (arith, length-scaled_truths cs xs)

numbers-limit : (ds : List Decl) (rel : Relation) (is : List IntTerm) (i : IntTerm) (m : ℕ) → DeclsInLimit ds → length is ≤ m → m ≤ 2 ^ 24
    → weight_of_linear rel (numbers ds is) (shape_in ds i) ≤ 2 ^ 82 * (m + 1)
numbers-limit ds rel is i m limit h k =
    linear-line rel (numbers ds is) (shape_in ds i) (length is) m h k (length-numbers ds is) (numbers-spans ds is limit) (span-bound ds i limit)
    (AreShapes-numbers ds limit is (shape_in ds i) (shape-in ds i limit))

-- Operations.

domain-limit : (ds : List Decl) (i : IntTerm) → DeclsInLimit ds → TermInLimit i → KindInLimit (domain_of ds i)
domain-limit ds (int_term.Number n) limit h = (h, h)
domain-limit ds (int_term.Of place) limit h = declared ds place limit
  where
    declared : (ds : List Decl) (place : ℕ) → DeclsInLimit ds → KindInLimit (domain_at (slice_get ds place))
    declared [] place limit = (omega arith, omega arith)
    declared (d ∷ ds) zero limit = limit.0
    declared (d ∷ ds) (suc place) limit = declared ds place limit.1

listed-last : (vs : List ℤ) → AllInLimit vs → InLimit (last_of vs)
listed-last [] h = omega arith
listed-last (v ∷ vs) h = last-limit v vs h

greatest-bound : (k : Kind) → KindInLimit k → greatest_of k ≤ 2 ^ 30
greatest-bound kind.Bool h = omega arith
greatest-bound (kind.Range low high) h = at_least_zero-bound high (2 ^ 30) h.1
greatest-bound (kind.Listed vs) h = at_least_zero-bound (last_of vs) (2 ^ 30) (listed-last vs h.0)

pairs-limit : (n m : ℕ) → n ≤ 2 ^ 31 → m ≤ 2 ^ 31 → pairs_of_values n m ≤ 2 ^ 64
pairs-limit n m h k = mul-le (n + 1) (m + 1) (2 ^ 32) (2 ^ 32) (omega arith) (omega arith)

operation-limit : (o : Arithmetic) (i j k : Kind) → KindInLimit i → KindInLimit j → KindInLimit k → weight_of_operation o i j k ≤ 2 ^ 82
operation-limit arithmetic.Plus i j k hi hj hk =
    let a = kind-span i hi in
    let b = kind-span j hj in
    let p = steps-bound i hi in
    let q = steps-bound j hj in
    let r = steps-bound k hk in
    let l = sum3-bound (shape_of i) (shape_of j) (steps_of k) (kind-shape i hi) (kind-shape j hj) (omega arith) (omega arith) in
    omega arith
operation-limit arithmetic.Times i j k hi hj hk =
    let p = steps-bound i hi in
    let q = steps-bound j hj in
    let r = steps-bound k hk in
    let l = pairs-limit (steps_of i) (steps_of j) p q in
    sums (pairs_of_values (steps_of i) (steps_of j)) _ _ _ l (omega (arith, ladder_lem (steps_of i))) (omega (arith, ladder_lem (steps_of j))) (omega (arith, ladder_lem (steps_of k)))
  where
    sums : (x a b c : ℕ) → x ≤ 2 ^ 64 → a ≤ 2 ^ 32 → b ≤ 2 ^ 32 → c ≤ 2 ^ 32 → 10 * x + a + b + c ≤ 2 ^ 82
    sums x a b c p q r s = omega arith
operation-limit arithmetic.Div i j k hi hj hk =
    let p = steps-bound i hi in
    let q = steps-bound j hj in
    let r = steps-bound k hk in
    let g = greatest-bound i hi in
    let s : steps_of_remainder i j ≤ 2 ^ 30 = omega arith in
    let l = pairs-limit (steps_of i) (steps_of j) p q in
    sums (pairs_of_values (steps_of i) (steps_of j)) (steps_of_remainder i j) _ _ _ _ l s (omega (arith, ladder_lem (steps_of i))) (omega (arith, ladder_lem (steps_of j)))
    (omega (arith, ladder_lem (steps_of k))) (omega (arith, ladder_lem (steps_of_remainder i j)))
  where
    sums : (x f a b c d : ℕ) → x ≤ 2 ^ 64 → f ≤ 2 ^ 30 → a ≤ 2 ^ 32 → b ≤ 2 ^ 32 → c ≤ 2 ^ 32 → d ≤ 2 ^ 32 → f + (20 * x + a + b + c + d) ≤ 2 ^ 82
    sums x f a b c d p t q r s u = omega arith
operation-limit arithmetic.Mod i j k hi hj hk =
    let p = steps-bound i hi in
    let q = steps-bound j hj in
    let r = steps-bound k hk in
    let g = greatest-bound i hi in
    let s : steps_of_quotient i j ≤ 2 ^ 30 = omega (arith, div-le_self (greatest_of i) (least_of j)) in
    let l = pairs-limit (steps_of i) (steps_of j) p q in
    sums (pairs_of_values (steps_of i) (steps_of j)) (steps_of_quotient i j) _ _ _ _ l s (omega (arith, ladder_lem (steps_of i))) (omega (arith, ladder_lem (steps_of j)))
    (omega (arith, ladder_lem (steps_of_quotient i j))) (omega (arith, ladder_lem (steps_of k)))
  where
    sums : (x f a b c d : ℕ) → x ≤ 2 ^ 64 → f ≤ 2 ^ 30 → a ≤ 2 ^ 32 → b ≤ 2 ^ 32 → c ≤ 2 ^ 32 → d ≤ 2 ^ 32 → f + (20 * x + a + b + c + d) ≤ 2 ^ 82
    sums x f a b c d p t q r s u = omega arith
operation-limit arithmetic.Max i j k hi hj hk =
    omega (arith, steps-bound i hi, steps-bound j hj, steps-bound k hk, ladder_lem (steps_of i), ladder_lem (steps_of j), ladder_lem (steps_of k))
operation-limit arithmetic.Min i j k hi hj hk =
    omega (arith, steps-bound i hi, steps-bound j hj, steps-bound k hk, ladder_lem (steps_of i), ladder_lem (steps_of j), ladder_lem (steps_of k))

-- Lists of integers.

aggregate-limit : (o : Aggregate) (ds : List Decl) (is : List IntTerm) (i : IntTerm) → DeclsInLimit ds → length is ≤ 2 ^ 24 → weight_of_aggregate o ds is i ≤ 2 ^ 82 * (length is + 1)
aggregate-limit aggregate.Plus ds is i limit h = numbers-limit ds relation.Eq is i (length is) limit (omega arith) h
aggregate-limit aggregate.Max ds is i limit h = omega (arith, max-limit ds limit is (steps_in ds i) (steps_in-bound ds i limit))
aggregate-limit aggregate.Min ds is i limit h = omega (arith, max-limit ds limit is (steps_in ds i) (steps_in-bound ds i limit))

all_different-limit : (d : AllDifferent) (ds : List Decl) (is : List IntTerm) → DeclsInLimit ds → length is ≤ 2 ^ 24 → weight_of_all_different d (all_steps ds is) ≤ 2 ^ 82 * (length is + 1)
all_different-limit all_different.Plain ds is limit h = omega (arith, all_diff-limit ds limit is)
all_different-limit all_different.Reified ds is limit h = omega (arith, reified-limit ds limit is h)
all_different-limit all_different.Conditional ds is limit h = omega (arith, all_diff-limit ds limit is)

given-truths : (xs : Option (List BoolTerm)) (rest : List (Option Argument)) → arguments_members (given (option_map Truths xs ∷ rest)) ≡ length (terms_or_none xs) + arguments_members (given rest)
given-truths None rest = omega arith
given-truths (Some xs) rest = refl

given-numbers : (is : Option (List IntTerm)) (rest : List (Option Argument)) → arguments_members (given (option_map Numbers is ∷ rest)) ≡ length (terms_or_none is) + arguments_members (given rest)
given-numbers None rest = omega arith
given-numbers (Some is) rest = refl

order-limit : (o : Order) (ds : List Decl) (xs ys : List BoolTerm) (is js : List IntTerm) (m : ℕ) → DeclsInLimit ds → length xs ≤ m → length is ≤ m → weight_of_order o ds xs ys is js ≤ 2 ^ 82 * (m + 1)
order-limit o ds xs ys is js m limit h k = by_kind o.of_booleans (omega (arith, truths_order-limit xs ys)) (omega (arith, numbers_order-limit ds is js limit))
  where
    by_kind : {a b : ℕ} (t : Bool) → a ≤ 2 ^ 82 * (m + 1) → b ≤ 2 ^ 82 * (m + 1) → (if t then a else b) ≤ 2 ^ 82 * (m + 1)
    by_kind true p q = p
    by_kind false p q = q

-- A statement.

compares-limit : (ds : List Decl) (rel : Relation) (i j : IntTerm) → DeclsInLimit ds → weight_of_what ds (Compare [] rel i j) ≤ 2 ^ 82
compares-limit ds rel i j limit = omega (arith, comparison-bound rel (steps_in ds i) (steps_in ds j), steps_in-bound ds i limit, steps_in-bound ds j limit)

what-limit : (ds : List Decl) (w : What) → DeclsInLimit ds → WhatInLimit w → weight_of_what ds w ≤ 2 ^ 82 * (what_members w + 1)
what-limit ds (BoolToInt x i) limit h = omega (arith, comparison-bound relation.Eq (steps_in ds i) 1, steps_in-bound ds i limit)
what-limit ds (BoolEq x y) limit h = omega arith
what-limit ds (BoolOp name op x y z) limit h = omega (arith, reified_array-bound op 2)
what-limit ds (BoolArray name op xs) limit h = omega (arith, array-bound op (length xs))
what-limit ds (BoolArrayReified name op xs z) limit h = omega (arith, reified_array-bound op (length xs))
what-limit ds (Compare name rel i j) limit h = omega (arith, compares-limit ds rel i j limit)
what-limit ds (CompareReified name rel i j z) limit h = omega (arith, compares-limit ds rel i j limit)
what-limit ds (BoolSum name rel xs i) limit h = omega (arith, weight_of_count-limit rel (length xs) (steps_in ds i) (omega (arith, h.1)) (steps_in-bound ds i limit))
what-limit ds (BoolLinear name rel cs xs i) limit h =
    linear-line rel (scaled_truths cs xs) (shape_in ds i) (length xs) (what_members (BoolLinear name rel cs xs i)) (omega arith) h.1 (length-scaled_truths cs xs)
    (scaled_truths-spans cs xs h.0.0) (span-bound ds i limit) (AreShapes-scaled_truths cs xs (shape_in ds i) (shape-in ds i limit))
what-limit ds (IntSum name rel is i) limit h = numbers-limit ds rel is i (what_members (IntSum name rel is i)) limit (omega arith) h.1
what-limit ds (IntLinear name rel cs is i) limit h =
    linear-line rel (scaled_numbers ds cs is) (shape_in ds i) (length is) (what_members (IntLinear name rel cs is i)) (omega arith) h.1 (length-scaled_numbers ds cs is)
    (scaled_numbers-spans ds cs is limit h.0.0) (span-bound ds i limit) (AreShapes-scaled_numbers ds limit cs is (shape_in ds i) (shape-in ds i limit))
what-limit ds (IntOp name o i j k) limit h =
    omega (arith, operation-limit o (domain_of ds i) (domain_of ds j) (domain_of ds k) (domain-limit ds i limit h.0.0) (domain-limit ds j limit h.0.1.0) (domain-limit ds k limit h.0.1.1.0))
what-limit ds (Absolute i j) limit h =
    omega (arith, steps_in-bound ds i limit, steps_in-bound ds j limit, ladder_lem (steps_in ds i), ladder_lem (steps_in ds j))
what-limit ds (IntArray name o is i) limit h = omega (arith, aggregate-limit o ds is i limit (omega (arith, h.1)))
what-limit ds (IntAllDifferent name d is z xs) limit h = omega (arith, all_different-limit d ds is limit (omega (arith, h.1)))
what-limit ds (Lexicographic name o xs ys is js z) limit h =
    let behind = option_map Truth z ∷ [] in
    let a = given-truths xs (option_map Truths ys ∷ option_map Numbers is ∷ option_map Numbers js ∷ behind) in
    let b = given-truths ys (option_map Numbers is ∷ option_map Numbers js ∷ behind) in
    let c = given-numbers is (option_map Numbers js ∷ behind) in
    order-limit o ds (terms_or_none xs) (terms_or_none ys) (terms_or_none is) (terms_or_none js) (what_members (Lexicographic name o xs ys is js z)) limit
    (omega (arith, a)) (omega (arith, a, b, c))

-- All items.

-- the statements and the members of their lists
abbrev size : List Stmt → ℕ
size [] = 0
size (s ∷ ss) = what_members s.what + 1 + size ss

size-is : (ss : List Stmt) → size ss ≡ length ss + members_of ss
size-is [] = refl
size-is (s ∷ ss) = omega (arith, size-is ss)

size-parts : (n : ℕ) (ss : List Stmt) → size (stmts_before n ss) + size (stmts_from n ss) ≡ size ss
size-parts n [] = refl
size-parts n (s ∷ ss) = by_test (nat_lt s.number n) (size-parts n ss)
  where
    by_test : (b : Bool) → size (stmts_before n ss) + size (stmts_from n ss) ≡ size ss
        → size (if b then s ∷ stmts_before n ss else []) + size (if b then stmts_from n ss else s ∷ ss) ≡ size (s ∷ ss)
    by_test true e = omega arith
    by_test false e = omega arith

size-behind : (d : Decl) (ss : List Stmt) → size (behind_declared d ss) ≤ size ss
size-behind d [] = omega arith
size-behind d (s ∷ ss) = by_test (s.number == d.number)
  where
    by_test : (b : Bool) → size (if b then ss else s ∷ ss) ≤ size (s ∷ ss)
    by_test true = omega arith
    by_test false = omega arith

statements-limit : (all : List Decl) (ss : List Stmt) → DeclsInLimit all → StmtsInLimit ss → weight_of_items all (map Statement ss) ≤ 2 ^ 82 * size ss
statements-limit all [] limit h = omega arith
statements-limit all (s ∷ ss) limit h = omega (arith, what-limit all s.what limit h.0, statements-limit all ss limit h.1)

declaration-limit : (k : Kind) → KindInLimit k → weight_of_declaration k ≤ 2 ^ 82
declaration-limit kind.Bool h = omega arith
declaration-limit (kind.Range low high) h = omega (arith, steps-bound (kind.Range low high) h, ladder_lem (steps_of (kind.Range low high)))
declaration-limit (kind.Listed vs) h = omega (arith, steps-bound (kind.Listed vs) h, ladder_lem (steps_of (kind.Listed vs)))

declared-limit : (all : List Decl) (d : Decl) (ss : List Stmt) → KindInLimit d.kind → weight_of_item all (declared_item d ss) ≤ 2 ^ 82
declared-limit all d [] h = declaration-limit d.kind h
declared-limit all d (s ∷ ss) h = by_test (s.number == d.number)
  where
    by_test : (b : Bool) → weight_of_item all (if b then Definition d s else Declaration d) ≤ 2 ^ 82
    by_test true = omega arith
    by_test false = declaration-limit d.kind h

items-limit : (all ds : List Decl) (ss : List Stmt) → DeclsInLimit all → DeclsInLimit ds → StmtsInLimit ss → weight_of_items all (items_of ds ss) ≤ 2 ^ 82 * (length ds + size ss)
items-limit all [] ss limit h k = omega (arith, statements-limit all ss limit k)
items-limit all (d ∷ ds) ss limit h k =
    let before = stmts_before d.number ss in
    let from = stmts_from d.number ss in
    let behind = behind_declared d from in
    let parts = weights-append all (map Statement before) (declared_item d from ∷ items_of ds behind) in
    sums (weight_of_items all (map Statement before)) (weight_of_item all (declared_item d from)) (weight_of_items all (items_of ds behind)) (length ds) (size before) (size from) (size behind) _ (size ss) parts
    (statements-limit all before limit (before-limit d.number ss k)) (declared-limit all d from h.0)
    (items-limit all ds behind limit h.1 (rest-limit d ss k)) (size-parts d.number ss) (size-behind d from)
  where
    sums : (a b c n p q r w s : ℕ) → w ≡ a + (b + c) → a ≤ 2 ^ 82 * p → b ≤ 2 ^ 82 → c ≤ 2 ^ 82 * (n + r) → p + q ≡ s → r ≤ q → w ≤ 2 ^ 82 * (suc n + s)
    sums a b c n p q r w s e x y z f g = omega arith

pub weight-fits : (model : Model) → InLimits model → length model.decls + length model.stmts + members_of model.stmts < 2 ^ 45 → weight_of model < 2 ^ 128
weight-fits model limit few =
    let l = items-limit model.decls model.decls model.stmts limit.0 limit.0 limit.1 in
    let e = size-is model.stmts in
    omega arith
