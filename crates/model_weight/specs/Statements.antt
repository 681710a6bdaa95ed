-- The weight of a statement, line by line: the fresh variables and the costs of the cores that it is lowered to. A
-- Boolean that is taken as an integer has one step.
use Rattle.std.specs.Prelude.{ℕ, ◌+◌, ◌-◌, ◌*◌, ◌/◌, min, List, [], ◌∷◌, map, length}
use Rattle.std.specs.Prelude.{if◌then◌else◌}
use Rattle.std.specs.List.{zip}
use Rattle.core_cost.specs.ListForms.{cost_of_clause, cost_of_conj, cost_of_parity}
use Rattle.core_cost.specs.Comparisons.{cost_of_eq, cost_of_lex}
use Rattle.core_cost.specs.Arithmetic.{cost_of_max, cost_of_all_diff, cost_of_prod, cost_of_div_mod}
use Rattle.core_cost.specs.Sums.{cost_of_sum3}
use Rattle.model_meaning.specs.declared.what.BoolTerm.{BoolTerm}
use Rattle.model_meaning.specs.declared.what.IntTerm.{IntTerm}
use Rattle.model_meaning.specs.declared.what.What.{What}
use Rattle.model_meaning.specs.declared.what.What.TheVariants.{
  BoolToInt,
  BoolEq,
  BoolOp,
  BoolArray,
  BoolArrayReified,
  Compare,
  CompareReified,
  BoolSum,
  BoolLinear,
  IntSum,
  IntLinear,
  IntOp,
  Absolute,
  IntArray,
  IntAllDifferent,
  Lexicographic,
}
use Rattle.model_meaning.specs.declared.statement.Operator.{Operator}
use Rattle.model_meaning.specs.declared.statement.Operator.TheVariants as operator
use Rattle.model_meaning.specs.declared.statement.Relation.TheVariants as relation
use Rattle.model_meaning.specs.declared.statement.Arithmetic.{Arithmetic}
use Rattle.model_meaning.specs.declared.statement.Arithmetic.TheVariants as arithmetic
use Rattle.model_meaning.specs.declared.statement.Aggregate.{Aggregate}
use Rattle.model_meaning.specs.declared.statement.Aggregate.TheVariants as aggregate
use Rattle.model_meaning.specs.declared.statement.AllDifferent.{AllDifferent}
use Rattle.model_meaning.specs.declared.statement.AllDifferent.TheVariants as all_different
use Rattle.model_meaning.specs.declared.statement.Order.{Order}
use Rattle.model_meaning.specs.declared.model.Kind.{Kind}
use Rattle.model_meaning.specs.declared.model.Decl.{Decl}
use Rattle.model_meaning.specs.Holds.{terms_or_none}
use Rattle.model_weight.specs.Shapes.{steps_of, shape_of, least_of, greatest_of, domain_of, steps_in, shape_in}
use Rattle.model_weight.specs.Shapes.{all_steps}
use Rattle.model_weight.specs.Comparisons.{weight_of_comparison, weight_of_count}
use Rattle.model_weight.specs.Linear.{scaled_truths, scaled_numbers, numbers, weight_of_linear}
use Rattle.model_weight.specs.Pairs.{weight_of_reified_all_different}

-- an operator of k members is true. They are all equal where each is equal to its neighbour's
abbrev pub weight_of_array : Operator → ℕ → ℕ
weight_of_array operator.Or k = cost_of_clause k
weight_of_array operator.And k = cost_of_conj k
weight_of_array operator.Xor k = cost_of_parity k
weight_of_array operator.Iff k = (k - 1) * cost_of_parity 2

-- `bool_OP_reif`, `bool_array_OP_reif`: a Boolean is an operator of k members. They are all equal where one of two
-- fresh Booleans is true, which are the conjunction of the members and that of their negations
abbrev pub weight_of_reified_array : Operator → ℕ → ℕ
weight_of_reified_array operator.Or k = cost_of_conj k
weight_of_reified_array operator.And k = cost_of_conj k
weight_of_reified_array operator.Xor k = cost_of_parity (k + 1)
weight_of_reified_array operator.Iff k = 2 + cost_of_conj k + cost_of_conj k + cost_of_conj 2

-- how many steps a fresh remainder of a division has, which is at most the dividend and below the divisor; and how many
-- a fresh quotient
abbrev pub steps_of_remainder : Kind → Kind → ℕ
steps_of_remainder i j = min (greatest_of i) (greatest_of j - 1)

abbrev pub steps_of_quotient : Kind → Kind → ℕ
steps_of_quotient i j = greatest_of i / least_of j

-- the third integer is what the operation gives of the first two
abbrev pub weight_of_operation : Arithmetic → Kind → Kind → Kind → ℕ
weight_of_operation arithmetic.Plus i j k = cost_of_sum3 (shape_of i) (shape_of j) (steps_of k)
weight_of_operation arithmetic.Times i j k = cost_of_prod (steps_of i) (steps_of j) (steps_of k)
weight_of_operation arithmetic.Div i j k =
    steps_of_remainder i j + cost_of_div_mod (steps_of i) (steps_of j) (steps_of k) (steps_of_remainder i j)
weight_of_operation arithmetic.Mod i j k =
    steps_of_quotient i j + cost_of_div_mod (steps_of i) (steps_of j) (steps_of_quotient i j) (steps_of k)
weight_of_operation arithmetic.Max i j k = cost_of_max (steps_of i ∷ steps_of j ∷ []) (steps_of k)
weight_of_operation arithmetic.Min i j k = cost_of_max (steps_of i ∷ steps_of j ∷ []) (steps_of k)

-- an integer is the sum, the greatest or the least member
abbrev pub weight_of_aggregate : Aggregate → List Decl → List IntTerm → IntTerm → ℕ
weight_of_aggregate aggregate.Plus ds is i = weight_of_linear relation.Eq (numbers ds is) (shape_in ds i)
weight_of_aggregate aggregate.Max ds is i = cost_of_max (all_steps ds is) (steps_in ds i)
weight_of_aggregate aggregate.Min ds is i = cost_of_max (all_steps ds is) (steps_in ds i)

-- members differ, by their numbers of steps
abbrev pub weight_of_all_different : AllDifferent → List ℕ → ℕ
weight_of_all_different all_different.Plain ns = cost_of_all_diff ns
weight_of_all_different all_different.Reified ns = weight_of_reified_all_different ns
weight_of_all_different all_different.Conditional ns = cost_of_all_diff ns

-- one step for each Boolean
abbrev pub truth_steps : List BoolTerm → List ℕ
truth_steps xs = map (λ _. 1) xs

-- two lists are in order
abbrev pub weight_of_order : Order → List Decl → List BoolTerm → List BoolTerm → List IntTerm → List IntTerm
    → ℕ
weight_of_order o ds xs ys is js =
    if o.of_booleans then cost_of_lex (zip (truth_steps xs) (truth_steps ys))
    else cost_of_lex (zip (all_steps ds is) (all_steps ds js))

-- a statement among declarations
abbrev pub weight_of_what : List Decl → What → ℕ
weight_of_what ds (BoolToInt x i) = cost_of_eq (steps_in ds i) 1
weight_of_what ds (BoolEq x y) = cost_of_parity 2
weight_of_what ds (BoolOp name op x y z) = weight_of_reified_array op 2
weight_of_what ds (BoolArray name op xs) = weight_of_array op (length xs)
weight_of_what ds (BoolArrayReified name op xs z) = weight_of_reified_array op (length xs)
weight_of_what ds (Compare name rel i j) = weight_of_comparison rel (steps_in ds i) (steps_in ds j)
weight_of_what ds (CompareReified name rel i j z) = weight_of_comparison rel (steps_in ds i) (steps_in ds j)
weight_of_what ds (BoolSum name rel xs i) = weight_of_count rel (length xs) (steps_in ds i)
weight_of_what ds (BoolLinear name rel cs xs i) = weight_of_linear rel (scaled_truths cs xs) (shape_in ds i)
weight_of_what ds (IntSum name rel is i) = weight_of_linear rel (numbers ds is) (shape_in ds i)
weight_of_what ds (IntLinear name rel cs is i) = weight_of_linear rel (scaled_numbers ds cs is) (shape_in ds i)
weight_of_what ds (IntOp name o i j k) = weight_of_operation o (domain_of ds i) (domain_of ds j) (domain_of ds k)
weight_of_what ds (Absolute i j) = cost_of_max (steps_in ds i ∷ steps_in ds i ∷ []) (steps_in ds j)
weight_of_what ds (IntArray name o is i) = weight_of_aggregate o ds is i
weight_of_what ds (IntAllDifferent name d is z xs) = weight_of_all_different d (all_steps ds is)
weight_of_what ds (Lexicographic name o xs ys is js z) =
    weight_of_order o ds (terms_or_none xs) (terms_or_none ys) (terms_or_none is) (terms_or_none js)
