-- A statement without a fresh linear sum weighs exactly what it is lowered to, line by line of the table.
use Rattle.std.proofs.Common.{◌≡◌, ℕ, zero, suc, ◌+◌, ◌-◌, ◌/◌, ℤ, pos, negsuc, ◌-ℤ◌, min, Bool, true, false, List, [], ◌∷◌, ◌++◌, length, length-append, map, Some, None, refl, sym, ap, ap₂, subst, ◌∙◌, arith}
use Rattle.std.specs.Prelude.{Option, option_map, if◌then◌else◌}
use Rattle.std.specs.List.{zip}
use Rattle.std.proofs.lemmas.Int.{ints}
use Rattle.std.proofs.lemmas.List.{length-map}
use Rattle.order_ints.specs.declared.atom.Atom.{Atom}
use Rattle.order_ints.specs.declared.atom.Atom.TheVariants.{True}
use Rattle.order_ints.specs.declared.order_int.OrdInt.{OrdInt}
use Rattle.order_ints.specs.declared.order_int.MapValue.{MapValue}
use Rattle.order_ints.specs.OrderRange.{low_of, high_of}
use Rattle.order_ints.specs.OrderChange.{negated_of}
use Rattle.order_ints.specs.Truth.{not_atom}
use Rattle.core_cost.specs.declared.shape.Shape.{Shape}
use Rattle.core_cost.specs.Comparisons.{cost_of_leq, cost_of_eq, cost_of_lex}
use Rattle.core_cost.specs.Counts.{cost_of_count}
use Rattle.core_cost.specs.ListForms.{cost_of_parity}
use Rattle.core_cost.specs.Arithmetic.{cost_of_max, cost_of_all_diff, cost_of_prod, cost_of_div_mod}
use Rattle.core_cost.specs.Sums.{cost_of_sum3}
use Rattle.core_forms.specs.declared.form.Core.{Core}
use Rattle.core_forms.specs.declared.form.Core.TheVariants as core
use Rattle.core_forms.specs.Shapes.{steps_of, shape_of, shapes_of, numbers_of_steps, pairs_of_steps}
use Rattle.core_forms.specs.Cost.{cost_of}
use Rattle.core_forms.specs.Cores.{costs_of}
use Rattle.core_forms.proofs.CoreLists.{costs_of-append}
use Rattle.model_meaning.specs.declared.model.Decl.{Decl}
use Rattle.model_meaning.specs.declared.model.Kind.{Kind}
use Rattle.model_meaning.specs.declared.what.BoolTerm.{BoolTerm}
use Rattle.model_meaning.specs.declared.what.IntTerm.{IntTerm}
use Rattle.model_meaning.specs.declared.what.IntTerm.TheVariants as int_term
use Rattle.model_meaning.specs.declared.what.What.{What}
use Rattle.model_meaning.specs.declared.what.What.TheVariants.{
  BoolToInt,
  BoolEq,
  BoolOp,
  BoolArray,
  BoolArrayReified,
  Compare,
  CompareReified,
  BoolSum,
  BoolLinear,
  IntSum,
  IntLinear,
  IntOp,
  Absolute,
  IntArray,
  IntAllDifferent,
  Lexicographic,
}
use Rattle.model_meaning.specs.declared.wanted.Wanted.TheVariants as wanted
use Rattle.model_meaning.specs.declared.statement.Operator.{Operator}
use Rattle.model_meaning.specs.declared.statement.Operator.TheVariants as operator
use Rattle.model_meaning.specs.declared.statement.Arithmetic.{Arithmetic}
use Rattle.model_meaning.specs.declared.statement.Arithmetic.TheVariants as arithmetic
use Rattle.model_meaning.specs.declared.statement.Aggregate.{Aggregate}
use Rattle.model_meaning.specs.declared.statement.Aggregate.TheVariants as aggregate
use Rattle.model_meaning.specs.declared.statement.Relation.{Relation}
use Rattle.model_meaning.specs.declared.statement.Relation.TheVariants as relation
use Rattle.model_meaning.specs.declared.statement.AllDifferent.{AllDifferent}
use Rattle.model_meaning.specs.declared.statement.AllDifferent.TheVariants as all_different
use Rattle.model_meaning.specs.declared.statement.Order.{Order}
use Rattle.model_meaning.specs.Arguments.{Argument, Truth, Truths, Numbers, given}
use Rattle.model_meaning.specs.Domains.{at_least_zero}
use Rattle.model_meaning.specs.Holds.{terms_or_none}
use Rattle.model_meaning.specs.Signatures.{all_different_signature, lex_signature}
use Rattle.model_meaning.specs.WellTyped.{NumberFits, NumbersFit, ArgumentsFit, WhatFits}
use Rattle.statement_lower.specs.Terms.{atom_of, atoms_of, integer_of, integers_of, atom_or_true, word_of}
use Rattle.statement_lower.specs.Comparison.{comparison_core}
use Rattle.statement_lower.specs.Linear.{equal_sum, linear_made}
use Rattle.statement_lower.specs.Pairs.{each_vars, each_atoms, each_equal, pairs_vars, pairs_atoms, pairs_equal, difference_made}
use Rattle.statement_lower.specs.Lines.{made_here, bit_core, scaled_truths, scaled_integers, array_cores, operator_made, fresh_range, compared_count, count_made, least_core, most_remainder, most_quotient, operation_made, absolute_core, aggregate_made, different_made, order_core, made_of}
use Rattle.model_weight.specs.Shapes as counted
use Rattle.model_weight.specs.Linear as linear
use Rattle.model_weight.specs.Comparisons.{weight_of_comparison, weight_of_fresh_count, weight_of_count}
use Rattle.model_weight.specs.Pairs.{weight_of_pairs_with, weight_of_pairs, count_of_pairs, weight_of_reified_all_different}
use Rattle.model_weight.specs.Statements.{weight_of_array, weight_of_reified_array, steps_of_remainder, steps_of_quotient, weight_of_operation, weight_of_aggregate, weight_of_all_different, weight_of_order, truth_steps, weight_of_what}
use Rattle.weight_laws.specs.Size.{size_of_made}
use Rattle.weight_laws.specs.StatementLaws.{HasNoFreshSum}
use Rattle.weight_laws.proofs.Integers.{EntriesAre}
use Rattle.weight_laws.proofs.Lists.{negated-steps, numbers-negated}
use Rattle.weight_laws.proofs.OperatorCosts.{equal-costs}
use Rattle.weight_laws.proofs.ComparisonCosts.{fresh-steps}
use Rattle.weight_laws.proofs.ExactShapes.{IsExact, exact-steps, exact-term, bits-same, truths-same, steps-same, shape-same, numbers-same, pairs-same, shapes-same, multiples-same, equal-sum-same}

one-same : (vars : ℕ) (c : Core) (w : ℕ) → cost_of c ≡ w → size_of_made (made_here vars (c ∷ [])) ≡ vars + w
one-same vars c w e = omega (arith, e)

-- Comparisons and counts.

comparison-same : (rel : Relation) (r : Atom) (a b : OrdInt) (n m : ℕ) → steps_of a ≡ n → steps_of b ≡ m → cost_of (comparison_core rel r a b) ≡ weight_of_comparison rel n m
comparison-same relation.Leq r a b n m h k = λ t. cost_of_leq (h t) (k t)
comparison-same relation.Geq r a b n m h k = λ t. cost_of_leq (k t) (h t)
comparison-same relation.Eq r a b n m h k = λ t. cost_of_eq (h t) (k t)
comparison-same relation.Lt r a b n m h k = λ t. cost_of_leq (k t) (h t)
comparison-same relation.Gt r a b n m h k = λ t. cost_of_leq (h t) (k t)
comparison-same relation.Neq r a b n m h k = λ t. cost_of_eq (h t) (k t)

fresh-count-same : (vars : ℕ) (rel : Relation) (atoms : List Atom) (a : OrdInt) (m : ℕ) → steps_of a ≡ m
    → size_of_made (compared_count vars rel atoms a) ≡ vars + weight_of_fresh_count rel (length atoms) m
fresh-count-same vars rel atoms a m h =
    let k : ℕ = length atoms in
    let steps = fresh-steps vars k in
    let count : cost_of_count k (steps_of (fresh_range vars k)) ≡ cost_of_count k k = ap (λ (s : ℕ). cost_of_count k s) steps in
    let compare = comparison-same rel True (fresh_range vars k) a k m steps h in
    omega (arith, count, compare)

count-same : (vars : ℕ) (rel : Relation) (atoms : List Atom) (a : OrdInt) (m : ℕ) → steps_of a ≡ m
    → size_of_made (count_made vars rel atoms a) ≡ vars + weight_of_count rel (length atoms) m
count-same vars relation.Leq atoms a m h = fresh-count-same vars relation.Leq atoms a m h
count-same vars relation.Geq atoms a m h = fresh-count-same vars relation.Geq atoms a m h
count-same vars relation.Eq atoms a m h =
    let count : cost_of_count (length atoms) (steps_of a) ≡ cost_of_count (length atoms) m = ap (λ (s : ℕ). cost_of_count (length atoms) s) h in
    one-same vars (core.Count atoms a) (cost_of_count (length atoms) m) count
count-same vars relation.Lt atoms a m h = fresh-count-same vars relation.Lt atoms a m h
count-same vars relation.Gt atoms a m h = fresh-count-same vars relation.Gt atoms a m h
count-same vars relation.Neq atoms a m h = fresh-count-same vars relation.Neq atoms a m h

-- Operators.

array-same : (op : Operator) (atoms : List Atom) → costs_of (array_cores op atoms) ≡ weight_of_array op (length atoms)
array-same operator.Or atoms = omega arith
array-same operator.And atoms = omega arith
array-same operator.Xor atoms = omega arith
array-same operator.Iff [] = omega arith
array-same operator.Iff (x ∷ atoms) = omega (arith, equal-costs x atoms)

operator-same : (vars : ℕ) (op : Operator) (atoms : List Atom) (z : Atom) → size_of_made (operator_made vars op atoms z) ≡ vars + weight_of_reified_array op (length atoms)
operator-same vars operator.Or atoms z = omega (arith, length-map atoms not_atom)
operator-same vars operator.And atoms z = omega arith
operator-same vars operator.Xor atoms z =
    let e = length-append atoms (z ∷ []) in
    let same : cost_of_parity (length (atoms ++ z ∷ [])) ≡ cost_of_parity (length atoms + 1) = rw e refl in
    omega (arith, same)
operator-same vars operator.Iff atoms z = omega (arith, length-map atoms not_atom)

-- Operations.

less-one-same : (z : ℤ) → at_least_zero (z -ℤ pos 1) ≡ at_least_zero z - 1
less-one-same (pos zero) = omega arith
less-one-same (pos (suc n)) = let e : pos (suc n) -ℤ pos 1 ≡ pos n = omega (arith, ints) in rw e (omega arith)
less-one-same (negsuc n) = omega arith

remainder-same : (i j : Kind) (a b : OrdInt) → IsExact i a → IsExact j b → most_remainder a b ≡ steps_of_remainder i j
remainder-same i j a b h k = ap₂ (λ (x y : ℕ). min x y) h.greatest (less-one-same (high_of b) ∙ ap (λ (g : ℕ). g - 1) k.greatest)

quotient-same : (i j : Kind) (a b : OrdInt) → IsExact i a → IsExact j b → most_quotient a b ≡ steps_of_quotient i j
quotient-same i j a b h k = ap₂ (λ (x y : ℕ). x / y) h.greatest k.least

operation-same : (vars : ℕ) (o : Arithmetic) (a b c : OrdInt) (i j k : Kind) → IsExact i a → IsExact j b → IsExact k c
    → size_of_made (operation_made vars o a b c) ≡ vars + weight_of_operation o i j k
operation-same vars arithmetic.Plus a b c i j k ha hb hc =
    let sa = ha.shape in
    let sb = hb.shape in
    let sc = exact-steps k c hc in
    one-same vars (core.Sum3 a b c) (weight_of_operation arithmetic.Plus i j k) (λ t. cost_of_sum3 (sa t) (sb t) (sc t))
operation-same vars arithmetic.Times a b c i j k ha hb hc =
    let sa = exact-steps i a ha in
    let sb = exact-steps j b hb in
    let sc = exact-steps k c hc in
    one-same vars (core.Prod a b c) (weight_of_operation arithmetic.Times i j k) (λ t. cost_of_prod (sa t) (sb t) (sc t))
operation-same vars arithmetic.Div a b c i j k ha hb hc =
    let sa = exact-steps i a ha in
    let sb = exact-steps j b hb in
    let sc = exact-steps k c hc in
    let fresh = remainder-same i j a b ha hb in
    let steps : steps_of (fresh_range vars (most_remainder a b)) ≡ steps_of_remainder i j = fresh-steps vars (most_remainder a b) ∙ fresh in
    let cost : cost_of (core.DivMod a b c (fresh_range vars (most_remainder a b))) ≡ cost_of_div_mod (counted.steps_of i) (counted.steps_of j) (counted.steps_of k) (steps_of_remainder i j) =
    λ t. cost_of_div_mod (sa t) (sb t) (sc t) (steps t) in
    omega (arith, cost, fresh)
operation-same vars arithmetic.Mod a b c i j k ha hb hc =
    let sa = exact-steps i a ha in
    let sb = exact-steps j b hb in
    let sc = exact-steps k c hc in
    let fresh = quotient-same i j a b ha hb in
    let steps : steps_of (fresh_range vars (most_quotient a b)) ≡ steps_of_quotient i j = fresh-steps vars (most_quotient a b) ∙ fresh in
    let cost : cost_of (core.DivMod a b (fresh_range vars (most_quotient a b)) c) ≡ cost_of_div_mod (counted.steps_of i) (counted.steps_of j) (steps_of_quotient i j) (counted.steps_of k) =
    λ t. cost_of_div_mod (sa t) (sb t) (steps t) (sc t) in
    omega (arith, cost, fresh)
operation-same vars arithmetic.Max a b c i j k ha hb hc =
    let sa = exact-steps i a ha in
    let sb = exact-steps j b hb in
    let sc = exact-steps k c hc in
    one-same vars (core.Max (a ∷ b ∷ []) c) (weight_of_operation arithmetic.Max i j k) (λ t. cost_of_max (sa t ∷ sb t ∷ []) (sc t))
operation-same vars arithmetic.Min a b c i j k ha hb hc =
    let sa = negated-steps a ∙ exact-steps i a ha in
    let sb = negated-steps b ∙ exact-steps j b hb in
    let sc = negated-steps c ∙ exact-steps k c hc in
    one-same vars (least_core (a ∷ b ∷ []) c) (weight_of_operation arithmetic.Min i j k) (λ t. cost_of_max (sa t ∷ sb t ∷ []) (sc t))

-- Members that differ: one beside each later one, and each two.

each-same : (vars : ℕ) (a : OrdInt) (ints : List OrdInt) → each_vars vars ints + costs_of (each_equal vars a ints) ≡ vars + weight_of_pairs_with (steps_of a) (numbers_of_steps ints)
each-same vars a [] = omega arith
each-same vars a (b ∷ ints) = let rest = each-same (vars + 1) a ints in omega (arith, rest)

each-many : (vars : ℕ) (ints : List OrdInt) → length (each_atoms vars ints) ≡ length (numbers_of_steps ints)
each-many vars [] = refl
each-many vars (b ∷ ints) = ap suc (each-many (vars + 1) ints)

two-same : (vars : ℕ) (ints : List OrdInt) → pairs_vars vars ints + costs_of (pairs_equal vars ints) ≡ vars + weight_of_pairs (numbers_of_steps ints)
two-same vars [] = omega arith
two-same vars (a ∷ ints) =
    let here = each-same vars a ints in
    let rest = two-same (each_vars vars ints) ints in
    let both = costs_of-append (each_equal vars a ints) (pairs_equal (each_vars vars ints) ints) in
    omega (arith, here, rest, both)

two-many : (vars : ℕ) (ints : List OrdInt) → length (pairs_atoms vars ints) ≡ count_of_pairs (numbers_of_steps ints)
two-many vars [] = refl
two-many vars (a ∷ ints) =
    let here = each-many vars ints in
    let rest = two-many (each_vars vars ints) ints in
    let both = length-append (each_atoms vars ints) (pairs_atoms (each_vars vars ints) ints) in
    omega (arith, here, rest, both)

difference-same : (vars : ℕ) (ints : List OrdInt) (z : Atom) → size_of_made (difference_made vars ints z) ≡ vars + weight_of_reified_all_different (numbers_of_steps ints)
difference-same vars ints z =
    let pairs = two-same vars ints in
    let atoms = two-many vars ints in
    let none : Core = core.Conj z (map not_atom (pairs_atoms vars ints)) in
    let both = costs_of-append (pairs_equal vars ints) (none ∷ []) in
    let many = length-map (pairs_atoms vars ints) not_atom in
    omega (arith, pairs, atoms, both, many)

-- The integers of an order, which are all that is given where it is not of Booleans.

abbrev given_words : Option (List BoolTerm) → Option (List BoolTerm) → Option (List IntTerm) → Option (List IntTerm) → Option BoolTerm → List Argument
given_words xs ys is js z = given (option_map Truths xs ∷ option_map Truths ys ∷ option_map Numbers is ∷ option_map Numbers js ∷ option_map Truth z ∷ [])

module _ (ds : List Decl) (n : ℕ) where
  numbers-reified : (xs ys : Option (List BoolTerm)) (is js : Option (List IntTerm)) (z : Option BoolTerm)
      → ArgumentsFit ds n (wanted.Numbers ∷ wanted.Numbers ∷ wanted.Truth ∷ []) (given_words xs ys is js z)
      → NumbersFit ds n (terms_or_none is) × NumbersFit ds n (terms_or_none js)
  numbers-reified (Some xs) ys is js z h = absurd h.0
  numbers-reified None (Some ys) is js z h = absurd h.0
  numbers-reified None None (Some is) (Some js) z h = (h.0, h.1.0)
  numbers-reified None None (Some is) None (Some z) h = absurd h.1.0
  numbers-reified None None (Some is) None None h = absurd h.1
  numbers-reified None None None (Some js) (Some z) h = absurd h.1.0
  numbers-reified None None None (Some js) None h = absurd h.1
  numbers-reified None None None None (Some z) h = absurd h.0
  numbers-reified None None None None None h = absurd h

  numbers-plain : (xs ys : Option (List BoolTerm)) (is js : Option (List IntTerm)) (z : Option BoolTerm)
      → ArgumentsFit ds n (wanted.Numbers ∷ wanted.Numbers ∷ []) (given_words xs ys is js z)
      → NumbersFit ds n (terms_or_none is) × NumbersFit ds n (terms_or_none js)
  numbers-plain (Some xs) ys is js z h = absurd h.0
  numbers-plain None (Some ys) is js z h = absurd h.0
  numbers-plain None None (Some is) (Some js) z h = (h.0, h.1.0)
  numbers-plain None None (Some is) None (Some z) h = absurd h.1.0
  numbers-plain None None (Some is) None None h = absurd h.1
  numbers-plain None None None (Some js) (Some z) h = absurd h.1.0
  numbers-plain None None None (Some js) None h = absurd h.1
  numbers-plain None None None None (Some z) h = absurd h.0
  numbers-plain None None None None None h = absurd h

module _ (vars n : ℕ) (ds more : List Decl) (entries : List MapValue) (h : EntriesAre ds entries) where
  -- Lists of integers.

  abbrev lists : List Decl
  lists = ds ++ more

  linear-same : (rel : Relation) (ints : List OrdInt) (shapes : List Shape) (i : IntTerm) → rel ≡ relation.Eq → shapes_of ints ≡ shapes → NumberFits ds n i
      → size_of_made (linear_made vars rel ints (integer_of entries i)) ≡ vars + linear.weight_of_linear rel shapes (counted.shape_in lists i)
  linear-same rel ints shapes i is e k =
      subst (λ (r : Relation). size_of_made (linear_made vars r ints (integer_of entries i)) ≡ vars + linear.weight_of_linear r shapes (counted.shape_in lists i)) (sym is)
      (one-same vars (equal_sum ints (integer_of entries i)) (linear.weight_of_linear relation.Eq shapes (counted.shape_in lists i))
      (equal-sum-same ints shapes (integer_of entries i) (counted.shape_in lists i) e (shape-same n ds more entries h i k)))

  aggregate-same : (o : Aggregate) (is : List IntTerm) (i : IntTerm) → NumbersFit ds n is → NumberFits ds n i
      → size_of_made (aggregate_made vars o (integers_of entries is) (integer_of entries i)) ≡ vars + weight_of_aggregate o lists is i
  aggregate-same aggregate.Plus is i l k = linear-same relation.Eq (integers_of entries is) (linear.numbers lists is) i refl (shapes-same n ds more entries h is l) k
  aggregate-same aggregate.Max is i l k =
      let members = numbers-same n ds more entries h is l in
      let value = steps-same n ds more entries h i k in
      one-same vars (core.Max (integers_of entries is) (integer_of entries i)) (weight_of_aggregate aggregate.Max lists is i) (λ t. cost_of_max (members t) (value t))
  aggregate-same aggregate.Min is i l k =
      let members = numbers-negated (integers_of entries is) ∙ numbers-same n ds more entries h is l in
      let value = negated-steps (integer_of entries i) ∙ steps-same n ds more entries h i k in
      one-same vars (least_core (integers_of entries is) (integer_of entries i)) (weight_of_aggregate aggregate.Min lists is i) (λ t. cost_of_max (members t) (value t))

  different-same : (d : AllDifferent) (is : List IntTerm) (z : Atom) (cs : List Atom) → NumbersFit ds n is
      → size_of_made (different_made vars d (integers_of entries is) z cs) ≡ vars + weight_of_all_different d (counted.all_steps lists is)
  different-same all_different.Plain is z cs l =
      one-same vars (core.AllDiff (integers_of entries is) (map (λ _. True) (integers_of entries is))) (cost_of_all_diff (counted.all_steps lists is))
      (ap (λ (ns : List ℕ). cost_of_all_diff ns) (numbers-same n ds more entries h is l))
  different-same all_different.Reified is z cs l =
      difference-same vars (integers_of entries is) z ∙ ap (λ (ns : List ℕ). vars + weight_of_reified_all_different ns) (numbers-same n ds more entries h is l)
  different-same all_different.Conditional is z cs l =
      one-same vars (core.AllDiff (integers_of entries is) cs) (cost_of_all_diff (counted.all_steps lists is))
      (ap (λ (ns : List ℕ). cost_of_all_diff ns) (numbers-same n ds more entries h is l))

  members-fit : (d : AllDifferent) (is : List IntTerm) (rest : List Argument) → ArgumentsFit ds n (all_different_signature d) (Numbers is ∷ rest) → NumbersFit ds n is
  members-fit all_different.Plain is rest f = f.0
  members-fit all_different.Reified is rest f = f.0
  members-fit all_different.Conditional is rest f = f.0

  order-same : (booleans strict reified : Bool) (r : Atom) (xs ys : Option (List BoolTerm)) (is js : Option (List IntTerm)) (z : Option BoolTerm)
      → ArgumentsFit ds n (lex_signature (record { of_booleans = booleans; strict = strict; reified = reified })) (given_words xs ys is js z)
      → cost_of (core.Lex r strict (word_of entries booleans (terms_or_none xs) (terms_or_none is)) (word_of entries booleans (terms_or_none ys) (terms_or_none js)))
      ≡ (if booleans then cost_of_lex (zip (truth_steps (terms_or_none xs)) (truth_steps (terms_or_none ys))) else cost_of_lex (zip (counted.all_steps lists (terms_or_none is)) (counted.all_steps lists (terms_or_none js))))
  order-same true strict reified r xs ys is js z f = ap (λ (ps : List (ℕ × ℕ)). cost_of_lex ps) (bits-same entries (terms_or_none xs) (terms_or_none ys))
  order-same false strict true r xs ys is js z f =
      let fit = numbers-reified ds n xs ys is js z f in
      ap (λ (ps : List (ℕ × ℕ)). cost_of_lex ps) (pairs-same n ds more entries h (terms_or_none is) (terms_or_none js) fit.0 fit.1)
  order-same false strict false r xs ys is js z f =
      let fit = numbers-plain ds n xs ys is js z f in
      ap (λ (ps : List (ℕ × ℕ)). cost_of_lex ps) (pairs-same n ds more entries h (terms_or_none is) (terms_or_none js) fit.0 fit.1)

  -- All lines.

  pub statement-same : (w : What) → WhatFits ds n w → HasNoFreshSum w → size_of_made (made_of vars entries w) ≡ vars + weight_of_what lists w
  statement-same (BoolToInt x (int_term.Number z)) fit none = absurd fit.arguments.1.0
  statement-same (BoolToInt x (int_term.Of p)) fit none =
      let i : IntTerm = int_term.Of p in
      let steps = steps-same (n + 1) ds more entries h i fit.arguments.1.0 in
      one-same vars (bit_core (atom_of entries x) (integer_of entries i)) (weight_of_what lists (BoolToInt x i)) (λ t. cost_of_eq (steps t) 1)
  statement-same (BoolEq x y) fit none = omega arith
  statement-same (BoolOp name op x y z) fit none = operator-same vars op (atom_of entries x ∷ atom_of entries y ∷ []) (atom_of entries z)
  statement-same (BoolArray name op xs) fit none =
      let costs = array-same op (atoms_of entries xs) in
      let same : weight_of_array op (length (atoms_of entries xs)) ≡ weight_of_array op (length xs) = ap (λ (k : ℕ). weight_of_array op k) (length-map xs (atom_of entries)) in
      omega (arith, costs, same)
  statement-same (BoolArrayReified name op xs z) fit none =
      let size = operator-same vars op (atoms_of entries xs) (atom_of entries z) in
      let same : weight_of_reified_array op (length (atoms_of entries xs)) ≡ weight_of_reified_array op (length xs) = ap (λ (k : ℕ). weight_of_reified_array op k) (length-map xs (atom_of entries)) in
      omega (arith, size, same)
  statement-same (Compare name rel i j) fit none =
      one-same vars (comparison_core rel True (integer_of entries i) (integer_of entries j)) (weight_of_what lists (Compare name rel i j))
      (comparison-same rel True (integer_of entries i) (integer_of entries j) (counted.steps_in lists i) (counted.steps_in lists j) (steps-same n ds more entries h i fit.arguments.0) (steps-same n ds more entries h j fit.arguments.1.0))
  statement-same (CompareReified name rel i j z) fit none =
      one-same vars (comparison_core rel (atom_of entries z) (integer_of entries i) (integer_of entries j)) (weight_of_what lists (CompareReified name rel i j z))
      (comparison-same rel (atom_of entries z) (integer_of entries i) (integer_of entries j) (counted.steps_in lists i) (counted.steps_in lists j) (steps-same n ds more entries h i fit.arguments.0) (steps-same n ds more entries h j fit.arguments.1.0))
  statement-same (BoolSum name rel xs i) fit none =
      let size = count-same vars rel (atoms_of entries xs) (integer_of entries i) (counted.steps_in lists i) (steps-same n ds more entries h i fit.arguments.1.0) in
      let same : weight_of_count rel (length (atoms_of entries xs)) (counted.steps_in lists i) ≡ weight_of_count rel (length xs) (counted.steps_in lists i) =
      ap (λ (k : ℕ). weight_of_count rel k (counted.steps_in lists i)) (length-map xs (atom_of entries)) in
      omega (arith, size, same)
  statement-same (BoolLinear name rel cs xs i) fit none = linear-same rel (scaled_truths entries cs xs) (linear.scaled_truths cs xs) i none (truths-same entries cs xs) fit.arguments.1.1.0
  statement-same (IntSum name rel is i) fit none =
      linear-same rel (integers_of entries is) (linear.numbers lists is) i none (shapes-same n ds more entries h is fit.arguments.0) fit.arguments.1.0
  statement-same (IntLinear name rel cs is i) fit none =
      linear-same rel (scaled_integers entries cs is) (linear.scaled_numbers lists cs is) i none (multiples-same n ds more entries h cs is fit.arguments.1.0) fit.arguments.1.1.0
  statement-same (IntOp name o i j k) fit none =
      operation-same vars o (integer_of entries i) (integer_of entries j) (integer_of entries k) (counted.domain_of lists i) (counted.domain_of lists j) (counted.domain_of lists k)
      (exact-term n ds more entries h i fit.arguments.0) (exact-term n ds more entries h j fit.arguments.1.0) (exact-term n ds more entries h k fit.arguments.1.1.0)
  statement-same (Absolute i j) fit none =
      let a : OrdInt = integer_of entries i in
      let members = steps-same n ds more entries h i fit.arguments.0 in
      let negated = negated-steps a ∙ members in
      let value = steps-same n ds more entries h j fit.arguments.1.0 in
      one-same vars (absolute_core a (integer_of entries j)) (weight_of_what lists (Absolute i j)) (λ t. cost_of_max (members t ∷ negated t ∷ []) (value t))
  statement-same (IntArray name o is i) fit none = aggregate-same o is i fit.arguments.0 fit.arguments.1.0
  statement-same (IntAllDifferent name d is z xs) fit none =
      different-same d is (atom_or_true entries z) (atoms_of entries (terms_or_none xs)) (members-fit d is (given (option_map Truth z ∷ option_map Truths xs ∷ [])) fit.arguments)
  statement-same (Lexicographic name o xs ys is js z) fit none =
      one-same vars (order_core entries o (terms_or_none xs) (terms_or_none ys) (terms_or_none is) (terms_or_none js) z) (weight_of_what lists (Lexicographic name o xs ys is js z))
      (order-same o.of_booleans o.strict o.reified (if o.reified then atom_or_true entries z else True) xs ys is js z fit.arguments)
