-- What a statement is lowered to is no larger than its weight, line by line of the table.
use Rattle.std.proofs.Common.{◌≡◌, ℕ, ◌+◌, ◌≤◌, Bool, true, false, List, [], ◌∷◌, ◌++◌, length, map, ap, arith}
use Rattle.std.specs.Prelude.{Option, if◌then◌else◌}
use Rattle.std.specs.List.{zip}
use Rattle.std.proofs.lemmas.List.{length-map}
use Rattle.order_ints.specs.declared.atom.Atom.{Atom}
use Rattle.order_ints.specs.declared.atom.Atom.TheVariants.{True}
use Rattle.order_ints.specs.declared.order_int.OrdInt.{OrdInt}
use Rattle.order_ints.specs.declared.order_int.MapValue.{MapValue}
use Rattle.core_cost.specs.Comparisons.{cost_of_lex}
use Rattle.core_cost.proofs.Monotone.{eq-mono, all_diff-mono, lex-mono}
use Rattle.core_forms.specs.declared.form.Core.TheVariants as core
use Rattle.core_forms.specs.Shapes.{steps_of, pairs_of_steps, numbers_of_steps}
use Rattle.core_forms.specs.Cost.{cost_of}
use Rattle.core_forms.specs.Cores.{costs_of}
use Rattle.model_meaning.specs.declared.model.Decl.{Decl}
use Rattle.model_meaning.specs.declared.what.BoolTerm.{BoolTerm}
use Rattle.model_meaning.specs.declared.what.IntTerm.{IntTerm}
use Rattle.model_meaning.specs.declared.what.What.{What}
use Rattle.model_meaning.specs.declared.what.What.TheVariants.{
  BoolToInt,
  BoolEq,
  BoolOp,
  BoolArray,
  BoolArrayReified,
  Compare,
  CompareReified,
  BoolSum,
  BoolLinear,
  IntSum,
  IntLinear,
  IntOp,
  Absolute,
  IntArray,
  IntAllDifferent,
  Lexicographic,
}
use Rattle.model_meaning.specs.declared.statement.Operator.{Operator}
use Rattle.model_meaning.specs.declared.statement.Aggregate.{Aggregate}
use Rattle.model_meaning.specs.declared.statement.Aggregate.TheVariants as aggregate
use Rattle.model_meaning.specs.declared.statement.Relation.TheVariants as relation
use Rattle.model_meaning.specs.declared.statement.AllDifferent.{AllDifferent}
use Rattle.model_meaning.specs.declared.statement.AllDifferent.TheVariants as all_different
use Rattle.model_meaning.specs.declared.statement.Order.{Order}
use Rattle.model_meaning.specs.Holds.{terms_or_none}
use Rattle.model_meaning.specs.WellTyped.{NumberFits, NumbersFit, WhatFits}
use Rattle.statement_lower.specs.Terms.{atom_of, atoms_of, integer_of, integers_of, atom_or_true, word_of}
use Rattle.statement_lower.specs.Comparison.{comparison_core}
use Rattle.statement_lower.specs.Lines.{made_here, bit_core, scaled_truths, scaled_integers, array_cores, operator_made, least_core, absolute_core, aggregate_made, different_made, order_core, made_of}
use Rattle.model_weight.specs.Shapes.{steps_in, shape_in, domain_of, all_steps}
use Rattle.model_weight.specs.Linear.{numbers}
use Rattle.model_weight.specs.Linear as linear
use Rattle.model_weight.specs.Comparisons.{weight_of_count}
use Rattle.model_weight.specs.Statements.{weight_of_array, weight_of_reified_array, weight_of_aggregate, weight_of_all_different, weight_of_order, truth_steps, weight_of_what}
use Rattle.weight_laws.specs.Size.{size_of_made}
use Rattle.weight_laws.proofs.Integers.{EntriesAre, integer-in}
use Rattle.weight_laws.proofs.Lists.{few-steps, numbers-few, pairs-few, bits-few, like-bits, like-integer, like-integers, like-multiples}
use Rattle.weight_laws.proofs.OperatorCosts.{one-core, array-costs, array-count, operator-size, operator-count}
use Rattle.weight_laws.proofs.ComparisonCosts.{comparison-cost, count-size, count-count}
use Rattle.weight_laws.proofs.DifferenceCosts.{difference-size, difference-count}
use Rattle.weight_laws.proofs.LinearCosts.{linear-size, linear-count}
use Rattle.weight_laws.proofs.OperationCosts.{greatest-cost, least-cost, absolute-cost, operation-size, operation-count}

-- Lists of atoms are as long as the lists of terms.

array-line : (vars : ℕ) (entries : List MapValue) (op : Operator) (xs : List BoolTerm)
    → size_of_made (made_here vars (array_cores op (atoms_of entries xs))) ≤ vars + weight_of_array op (length xs)
array-line vars entries op xs =
    let costs = array-costs op (atoms_of entries xs) in
    let same : weight_of_array op (length (atoms_of entries xs)) ≡ weight_of_array op (length xs) = ap (weight_of_array op) (length-map xs (atom_of entries)) in
    omega (arith, costs, same)

operator-line : (vars : ℕ) (entries : List MapValue) (op : Operator) (xs : List BoolTerm) (z : Atom)
    → size_of_made (operator_made vars op (atoms_of entries xs) z) ≤ vars + weight_of_reified_array op (length xs)
operator-line vars entries op xs z =
    let size = operator-size vars op (atoms_of entries xs) z in
    let same : weight_of_reified_array op (length (atoms_of entries xs)) ≡ weight_of_reified_array op (length xs) = ap (weight_of_reified_array op) (length-map xs (atom_of entries)) in
    omega (arith, size, same)

module _ (vars : ℕ) (ds more : List Decl) (entries : List MapValue) (h : EntriesAre ds entries) where
  -- Lists of integers.

  aggregate-line : (n : ℕ) (o : Aggregate) (is : List IntTerm) (i : IntTerm) → NumbersFit ds n is → NumberFits ds n i
      → size_of_made (aggregate_made vars o (integers_of entries is) (integer_of entries i)) ≤ vars + weight_of_aggregate o (ds ++ more) is i
  aggregate-line n aggregate.Plus is i l k =
      linear-size vars relation.Eq (integers_of entries is) (numbers (ds ++ more) is) (integer_of entries i) (shape_in (ds ++ more) i)
      (like-integers n ds more entries h is l) (like-integer n ds more entries h i k)
  aggregate-line n aggregate.Max is i l k =
      one-core vars (core.Max (integers_of entries is) (integer_of entries i)) (weight_of_aggregate aggregate.Max (ds ++ more) is i)
      (greatest-cost (integers_of entries is) (integer_of entries i) (all_steps (ds ++ more) is) (steps_in (ds ++ more) i) (numbers-few ds more entries h is) (few-steps ds more entries h i))
  aggregate-line n aggregate.Min is i l k =
      one-core vars (least_core (integers_of entries is) (integer_of entries i)) (weight_of_aggregate aggregate.Min (ds ++ more) is i)
      (least-cost (integers_of entries is) (integer_of entries i) (all_steps (ds ++ more) is) (steps_in (ds ++ more) i) (numbers-few ds more entries h is) (few-steps ds more entries h i))

  difference-line : (d : AllDifferent) (is : List IntTerm) (z : Atom) (cs : List Atom)
      → size_of_made (different_made vars d (integers_of entries is) z cs) ≤ vars + weight_of_all_different d (all_steps (ds ++ more) is)
  difference-line all_different.Plain is z cs =
      one-core vars (core.AllDiff (integers_of entries is) (map (λ _. True) (integers_of entries is))) (weight_of_all_different all_different.Plain (all_steps (ds ++ more) is))
      (all_diff-mono (numbers_of_steps (integers_of entries is)) (all_steps (ds ++ more) is) (numbers-few ds more entries h is))
  difference-line all_different.Reified is z cs = difference-size vars (integers_of entries is) z (all_steps (ds ++ more) is) (numbers-few ds more entries h is)
  difference-line all_different.Conditional is z cs =
      one-core vars (core.AllDiff (integers_of entries is) cs) (weight_of_all_different all_different.Conditional (all_steps (ds ++ more) is))
      (all_diff-mono (numbers_of_steps (integers_of entries is)) (all_steps (ds ++ more) is) (numbers-few ds more entries h is))

  order-cost : (b strict : Bool) (r : Atom) (xs ys : List BoolTerm) (is js : List IntTerm)
      → cost_of (core.Lex r strict (word_of entries b xs is) (word_of entries b ys js))
      ≤ (if b then cost_of_lex (zip (truth_steps xs) (truth_steps ys)) else cost_of_lex (zip (all_steps (ds ++ more) is) (all_steps (ds ++ more) js)))
  order-cost true strict r xs ys is js =
      lex-mono (pairs_of_steps (word_of entries true xs is) (word_of entries true ys js)) (zip (truth_steps xs) (truth_steps ys)) (bits-few entries xs ys)
  order-cost false strict r xs ys is js =
      lex-mono (pairs_of_steps (integers_of entries is) (integers_of entries js)) (zip (all_steps (ds ++ more) is) (all_steps (ds ++ more) js)) (pairs-few ds more entries h is js)

  order-line : (o : Order) (xs ys : List BoolTerm) (is js : List IntTerm) (z : Option BoolTerm)
      → size_of_made (made_here vars (order_core entries o xs ys is js z ∷ [])) ≤ vars + weight_of_order o (ds ++ more) xs ys is js
  order-line o xs ys is js z =
      one-core vars (order_core entries o xs ys is js z) (weight_of_order o (ds ++ more) xs ys is js)
      (order-cost o.of_booleans o.strict (if o.reified then atom_or_true entries z else True) xs ys is js)

  -- All lines.

  pub statement-size : (n : ℕ) (w : What) → WhatFits ds n w → size_of_made (made_of vars entries w) ≤ vars + weight_of_what (ds ++ more) w
  statement-size n (BoolToInt x i) fit =
      one-core vars (bit_core (atom_of entries x) (integer_of entries i)) (weight_of_what (ds ++ more) (BoolToInt x i))
      (eq-mono (steps_of (integer_of entries i)) 1 (steps_in (ds ++ more) i) 1 (few-steps ds more entries h i) (omega arith))
  statement-size n (BoolEq x y) fit = omega arith
  statement-size n (BoolOp name op x y z) fit = operator-size vars op (atom_of entries x ∷ atom_of entries y ∷ []) (atom_of entries z)
  statement-size n (BoolArray name op xs) fit = array-line vars entries op xs
  statement-size n (BoolArrayReified name op xs z) fit = operator-line vars entries op xs (atom_of entries z)
  statement-size n (Compare name rel i j) fit =
      one-core vars (comparison_core rel True (integer_of entries i) (integer_of entries j)) (weight_of_what (ds ++ more) (Compare name rel i j))
      (comparison-cost rel True (integer_of entries i) (integer_of entries j) (steps_in (ds ++ more) i) (steps_in (ds ++ more) j) (few-steps ds more entries h i) (few-steps ds more entries h j))
  statement-size n (CompareReified name rel i j z) fit =
      one-core vars (comparison_core rel (atom_of entries z) (integer_of entries i) (integer_of entries j)) (weight_of_what (ds ++ more) (CompareReified name rel i j z))
      (comparison-cost rel (atom_of entries z) (integer_of entries i) (integer_of entries j) (steps_in (ds ++ more) i) (steps_in (ds ++ more) j) (few-steps ds more entries h i) (few-steps ds more entries h j))
  statement-size n (BoolSum name rel xs i) fit =
      let size = count-size vars rel (atoms_of entries xs) (integer_of entries i) (steps_in (ds ++ more) i) (few-steps ds more entries h i) in
      let same : weight_of_count rel (length (atoms_of entries xs)) (steps_in (ds ++ more) i) ≡ weight_of_count rel (length xs) (steps_in (ds ++ more) i) =
      ap (λ k. weight_of_count rel k (steps_in (ds ++ more) i)) (length-map xs (atom_of entries)) in
      omega (arith, size, same)
  statement-size n (BoolLinear name rel cs xs i) fit =
      linear-size vars rel (scaled_truths entries cs xs) (linear.scaled_truths cs xs) (integer_of entries i) (shape_in (ds ++ more) i)
      (like-bits entries cs xs) (like-integer n ds more entries h i fit.arguments.1.1.0)
  statement-size n (IntSum name rel is i) fit =
      linear-size vars rel (integers_of entries is) (numbers (ds ++ more) is) (integer_of entries i) (shape_in (ds ++ more) i)
      (like-integers n ds more entries h is fit.arguments.0) (like-integer n ds more entries h i fit.arguments.1.0)
  statement-size n (IntLinear name rel cs is i) fit =
      linear-size vars rel (scaled_integers entries cs is) (linear.scaled_numbers (ds ++ more) cs is) (integer_of entries i) (shape_in (ds ++ more) i)
      (like-multiples n ds more entries h cs is fit.arguments.1.0) (like-integer n ds more entries h i fit.arguments.1.1.0)
  statement-size n (IntOp name o i j k) fit =
      operation-size vars o (integer_of entries i) (integer_of entries j) (integer_of entries k) (domain_of (ds ++ more) i) (domain_of (ds ++ more) j) (domain_of (ds ++ more) k)
      (integer-in ds more entries h i) (integer-in ds more entries h j) (integer-in ds more entries h k)
  statement-size n (Absolute i j) fit =
      one-core vars (absolute_core (integer_of entries i) (integer_of entries j)) (weight_of_what (ds ++ more) (Absolute i j))
      (absolute-cost (integer_of entries i) (integer_of entries j) (steps_in (ds ++ more) i) (steps_in (ds ++ more) j) (few-steps ds more entries h i) (few-steps ds more entries h j))
  statement-size n (IntArray name o is i) fit = aggregate-line n o is i fit.arguments.0 fit.arguments.1.0
  statement-size n (IntAllDifferent name d is z xs) fit = difference-line d is (atom_or_true entries z) (atoms_of entries (terms_or_none xs))
  statement-size n (Lexicographic name o xs ys is js z) fit = order-line o (terms_or_none xs) (terms_or_none ys) (terms_or_none is) (terms_or_none js) z

-- The number of cores.

aggregate-count : (vars : ℕ) (o : Aggregate) (ints : List OrdInt) (a : OrdInt)
    → length (aggregate_made vars o ints a).cores ≤ 1 + costs_of (aggregate_made vars o ints a).cores
aggregate-count vars aggregate.Plus ints a = linear-count vars relation.Eq ints a
aggregate-count vars aggregate.Max ints a = omega arith
aggregate-count vars aggregate.Min ints a = omega arith

difference-count-line : (vars : ℕ) (d : AllDifferent) (ints : List OrdInt) (z : Atom) (cs : List Atom)
    → length (different_made vars d ints z cs).cores ≤ 1 + costs_of (different_made vars d ints z cs).cores
difference-count-line vars all_different.Plain ints z cs = omega arith
difference-count-line vars all_different.Reified ints z cs = difference-count vars ints z
difference-count-line vars all_different.Conditional ints z cs = omega arith

pub statement-count : (vars : ℕ) (entries : List MapValue) (w : What) → length (made_of vars entries w).cores ≤ 1 + costs_of (made_of vars entries w).cores
statement-count vars entries (BoolToInt x i) = omega arith
statement-count vars entries (BoolEq x y) = omega arith
statement-count vars entries (BoolOp name op x y z) = operator-count vars op (atom_of entries x ∷ atom_of entries y ∷ []) (atom_of entries z)
statement-count vars entries (BoolArray name op xs) = array-count op (atoms_of entries xs)
statement-count vars entries (BoolArrayReified name op xs z) = operator-count vars op (atoms_of entries xs) (atom_of entries z)
statement-count vars entries (Compare name rel i j) = omega arith
statement-count vars entries (CompareReified name rel i j z) = omega arith
statement-count vars entries (BoolSum name rel xs i) = count-count vars rel (atoms_of entries xs) (integer_of entries i)
statement-count vars entries (BoolLinear name rel cs xs i) = linear-count vars rel (scaled_truths entries cs xs) (integer_of entries i)
statement-count vars entries (IntSum name rel is i) = linear-count vars rel (integers_of entries is) (integer_of entries i)
statement-count vars entries (IntLinear name rel cs is i) = linear-count vars rel (scaled_integers entries cs is) (integer_of entries i)
statement-count vars entries (IntOp name o i j k) = operation-count vars o (integer_of entries i) (integer_of entries j) (integer_of entries k)
statement-count vars entries (Absolute i j) = omega arith
statement-count vars entries (IntArray name o is i) = aggregate-count vars o (integers_of entries is) (integer_of entries i)
statement-count vars entries (IntAllDifferent name d is z xs) = difference-count-line vars d (integers_of entries is) (atom_or_true entries z) (atoms_of entries (terms_or_none xs))
statement-count vars entries (Lexicographic name o xs ys is js z) = omega arith
