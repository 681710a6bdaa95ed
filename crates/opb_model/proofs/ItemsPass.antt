-- The items of a file's model have no fault, and say what the model declares and states.
use Rattle.std.proofs.Common.{arith, ◌≡◌, ℕ, zero, suc, ◌+◌, ◌-◌, ◌<◌, ◌≤◌, ◌^◌, Bool, true, false, List, [], ◌∷◌, ◌++◌, append-nil, map, codes, length, refl, ap, sym, subst, ◌∙◌, ℤ, ◌≤ℤ◌, Some, None}
use Rattle.std.specs.Prelude.{◌==◌, slice_get, int_lt, if◌then◌else◌}
use Rattle.std.proofs.lemmas.Int.{ints}
use Rattle.std.proofs.lemmas.Bool.Decides.{nat_tests}
use Rattle.bumblebee_reader.specs.declared.syntax.Term.{Term as Word}
use Rattle.bumblebee_reader.specs.declared.syntax.Term.TheVariants as word
use Rattle.model_meaning.specs.declared.what.BoolTerm.TheVariants as bool_term
use Rattle.model_meaning.specs.declared.statement.Statement.TheVariants as statement
use Rattle.model_meaning.specs.declared.model.Decl.{Decl}
use Rattle.model_meaning.specs.Names.{statement_of, lone_statement, operator_statement, relation_statement}
use Rattle.model_meaning.specs.Places.{place_of}
use Rattle.typed_model.specs.Scope.{kind_of, is_bool, truth, number, numeral, term_unknown, terms_unknown, is_truth, is_number, all_truths, all_numerals}
use Rattle.typed_model.specs.Faults.{item_fault, statement_fault}
use Rattle.typed_model.specs.Items.{declare_by, declarations_of, statements_of, what_of}
use Rattle.opb_front.specs.declared.items.Term.{Term}
use Rattle.opb_front.specs.declared.items.Comparison.{Comparison}
use Rattle.opb_front.specs.declared.items.Comparison.TheVariants.{AtLeast, AtMost, Equal}
use Rattle.opb_front.specs.declared.items.Constraint.{Constraint}
use Rattle.opb_front.specs.declared.items.Objective.{Objective}
use Rattle.opb_front.specs.Fits.{TermsFit, ConstraintsFit}
use Rattle.opb_model.specs.Models.{variable_name, cost_name, variable, variables_from, cost, relation_of, sum_name, coefficients, members, sum, constraint_stmts}
use Rattle.opb_model.specs.Items.{variable_item, variable_items, coefficient_word, literal_word, sum_item, cost_item, constraint_items}
use Rattle.opb_model.proofs.Passing.{Passes, none-passes, item-passes, then-passes}
use Rattle.opb_model.proofs.Names.{variable-placed, variable-missing, variable-at, cost-missing, cost-placed, cost-at}

-- The variables.

declares-bool : statement_of (codes "new_bool") ≡ Some statement.NewBool
unfolding statement_of lone_statement
declares-bool = refl

variable-fine : (n : ℕ) (ds : List Decl) (k : ℕ) → place_of (variable_name k) ds ≡ None → item_fault n false ds (variable_item k) ≡ None
unfolding item_fault statement_fault
variable-fine n ds k e = rw (declares-bool, e) refl

variable-declares : (ds : List Decl) (k : ℕ) → place_of (variable_name k) ds ≡ None → declarations_of k ds (variable_item k) ≡ variable k ∷ []
unfolding declare_by
variable-declares ds k e = rw (declares-bool, e) refl

variable-states : (n : ℕ) (ds : List Decl) (k : ℕ) → statements_of n ds (variable_item k) ≡ []
unfolding what_of
variable-states n ds k = rw declares-bool refl

variable-passes : (ds : List Decl) (k : ℕ) → place_of (variable_name k) ds ≡ None → Passes k ds (variable_item k ∷ []) (k + 1) (ds ++ variable k ∷ []) []
variable-passes ds k e = item-passes k ds (variable_item k) (variable k ∷ []) [] (variable-fine k ds k e) (variable-declares ds k e) (variable-states k _ k) refl

variables-more : (i n : ℕ) → variables_from i n ++ variable (i + n) ∷ [] ≡ variables_from i (suc n)
variables-more i zero = ap (λ m. variable m ∷ []) (omega arith)
variables-more i (suc n) =
    let e : i + suc n ≡ i + 1 + n = omega arith in
    ap (λ m. variable i ∷ (variables_from (i + 1) n ++ variable m ∷ [])) e ∙ ap (λ l. variable i ∷ l) (variables-more (i + 1) n)

one-more : (k : ℕ) → variables_from 1 k ++ variable (k + 1) ∷ [] ≡ variables_from 1 (k + 1)
one-more k =
    let e : k + 1 ≡ 1 + k = omega arith in
    let f : suc k ≡ k + 1 = omega arith in
    ap (λ m. variables_from 1 k ++ variable m ∷ []) e ∙ (variables-more 1 k ∙ ap (variables_from 1) f)

-- from the variables before to all of them
pub variables-pass : (k n m : ℕ) → k + n ≡ m → m < 2 ^ 63 → Passes (k + 1) (variables_from 1 k) (variable_items (k + 1) n) (m + 1) (variables_from 1 m) []
variables-pass k zero m e small =
    let same : k ≡ m = omega (arith, e) in
    subst (λ (l : ℕ). Passes (k + 1) (variables_from 1 k) [] (l + 1) (variables_from 1 l) []) same (none-passes (k + 1) (variables_from 1 k))
variables-pass k (suc n) m e small =
    let one = variable-passes (variables_from 1 k) (k + 1) (variable-missing k (omega (arith, e, small))) in
    let same = one-more k in
    let first = subst (λ (ds : List Decl). Passes (k + 1) (variables_from 1 k) (variable_item (k + 1) ∷ []) (k + 1 + 1) ds []) same one in
    then-passes (k + 1) (k + 1 + 1) (m + 1) _ _ _ _ _ [] [] first (variables-pass (k + 1) n m (omega (arith, e)) small)

-- The variables among all declarations.

pub record Knows (vars : ℕ) (ds : List Decl) : Type 0 where
  pub placed : (k : ℕ) → 1 ≤ k → k ≤ vars → place_of (variable_name k) ds ≡ Some (k - 1)
  pub there : (k : ℕ) → k < vars → slice_get ds k ≡ Some (variable (1 + k))

pub knows : (vars : ℕ) (ds : List Decl) → vars < 2 ^ 63 → Knows vars (variables_from 1 vars ++ ds)
knows vars ds small = record {
  placed = λ k h l. variable-placed k vars ds (omega (arith, l, small)) h l;
  there = λ k h. variable-at k 1 vars ds h;
}

-- The literals of a sum.

module _ (vars : ℕ) (ds : List Decl) (known : Knows vars ds) where
  literal-known : (b : Bool) (k : ℕ) → 1 ≤ k → k ≤ vars → term_unknown ds (if b then word.Plain (variable_name k) else word.Minus (variable_name k)) ≡ false
  literal-known true k h l = rw (known.placed k h l) refl
  literal-known false k h l = rw (known.placed k h l) refl

  kind-known : (k : ℕ) → 1 ≤ k → k ≤ vars → is_bool (kind_of (variable_name k) ds) ≡ true
  kind-known k h l = rw (known.placed k h l) (rw (known.there (k - 1) (omega (arith, h, l))) refl)

  literal-true : (b : Bool) (k : ℕ) → 1 ≤ k → k ≤ vars → is_truth ds (if b then word.Plain (variable_name k) else word.Minus (variable_name k)) ≡ true
  literal-true true k h l = kind-known k h l
  literal-true false k h l = kind-known k h l

  literal-placed : (b : Bool) (k : ℕ) → 1 ≤ k → k ≤ vars → truth ds (if b then word.Plain (variable_name k) else word.Minus (variable_name k)) ≡ bool_term.Of (k - 1) b
  literal-placed true k h l = rw (known.placed k h l) refl
  literal-placed false k h l = rw (known.placed k h l) refl

  literals-known : (ts : List Term) → TermsFit vars ts → terms_unknown ds (map literal_word ts) ≡ false
  literals-known [] h = refl
  literals-known (t ∷ ts) h = rw (literal-known t.literal.positive t.literal.index h.0.from_one h.0.to_last) (literals-known ts h.1)

  literals-true : (ts : List Term) → TermsFit vars ts → all_truths ds (map literal_word ts) ≡ true
  literals-true [] h = refl
  literals-true (t ∷ ts) h = rw (literal-true t.literal.positive t.literal.index h.0.from_one h.0.to_last) (literals-true ts h.1)

  literals-placed : (ts : List Term) → TermsFit vars ts → map (truth ds) (map literal_word ts) ≡ members ts
  literals-placed [] h = refl
  literals-placed (t ∷ ts) h =
      let first = literal-placed t.literal.positive t.literal.index h.0.from_one h.0.to_last in
      let rest = literals-placed ts h.1 in
      λ i. first i ∷ rest i

-- the coefficients of a sum

numbers-known : (ds : List Decl) (ts : List Term) → terms_unknown ds (map coefficient_word ts) ≡ false
numbers-known ds [] = refl
numbers-known ds (t ∷ ts) = numbers-known ds ts

numbers-numerals : (ts : List Term) → all_numerals (map coefficient_word ts) ≡ true
numbers-numerals [] = refl
numbers-numerals (t ∷ ts) = numbers-numerals ts

numbers-same : (ts : List Term) → map numeral (map coefficient_word ts) ≡ coefficients ts
numbers-same [] = refl
numbers-same (t ∷ ts) = ap (λ (l : List ℤ). t.coefficient ∷ l) (numbers-same ts)

lengths-equal : (ts : List Term) → length (map coefficient_word ts) ≡ length (map literal_word ts)
lengths-equal [] = refl
lengths-equal (t ∷ ts) = let e = lengths-equal ts in omega (arith, e)

lengths-same : (ts : List Term) → (length (map coefficient_word ts) == length (map literal_word ts)) ≡ true
lengths-same ts = let e = lengths-equal ts in grind (arith, nat_tests, e)

-- A sum.

sum-named : (c : Comparison) → statement_of (sum_name c) ≡ Some (statement.BoolLinear (relation_of c))
unfolding statement_of lone_statement operator_statement relation_statement
sum-named AtLeast = refl
sum-named AtMost = refl
sum-named Equal = refl

module _ (vars : ℕ) (ds : List Decl) (known : Knows vars ds) (c : Comparison) (ts : List Term) (few : TermsFit vars ts) (bound : Word)
    (bound_known : term_unknown ds bound ≡ false) (bound_number : is_number ds bound ≡ true) where
  sum-fine : (n : ℕ) → item_fault n false ds (sum_item c ts bound) ≡ None
  unfolding item_fault statement_fault
  sum-fine n =
      rw (sum-named c, numbers-known ds ts, literals-known vars ds known ts few, bound_known, numbers-numerals ts, literals-true vars ds known ts few, bound_number, lengths-same ts) refl

  sum-declares : (n : ℕ) → declarations_of n ds (sum_item c ts bound) ≡ []
  unfolding declare_by
  sum-declares n = rw (sum-named c) refl

  sum-states : (n : ℕ) → statements_of n ds (sum_item c ts bound) ≡ sum n c ts (number ds bound) ∷ []
  unfolding what_of
  sum-states n = rw (sum-named c, numbers-same ts, literals-placed vars ds known ts few) refl

  pub sum-passes : (n : ℕ) → Passes n ds (sum_item c ts bound ∷ []) (n + 1) ds (sum n c ts (number ds bound) ∷ [])
  sum-passes n =
      let nothing : ds ++ [] ≡ ds = append-nil ds in
      let states = subst (λ (es : List Decl). statements_of n es (sum_item c ts bound) ≡ sum n c ts (number ds bound) ∷ []) (sym nothing) (sum-states n) in
      subst (λ (es : List Decl). Passes n ds (sum_item c ts bound ∷ []) (n + 1) es (sum n c ts (number ds bound) ∷ [])) nothing
      (item-passes n ds (sum_item c ts bound) [] (sum n c ts (number ds bound) ∷ []) (sum-fine n) (sum-declares n) states refl)

-- The constraints.

pub constraints-pass : (vars : ℕ) (ds : List Decl) → Knows vars ds → (n : ℕ) (cs : List Constraint) → ConstraintsFit vars cs
    → Passes n ds (constraint_items cs) (n + length cs) ds (constraint_stmts n cs)
constraints-pass vars ds known n [] h =
    let e : n ≡ n + 0 = omega arith in
    subst (λ (m : ℕ). Passes n ds [] m ds []) e (none-passes n ds)
constraints-pass vars ds known n (c ∷ cs) h =
    let one = sum-passes vars ds known c.comparison c.terms h.0.0 (word.Number c.bound) refl refl n in
    let rest = constraints-pass vars ds known (n + 1) cs h.1 in
    let e : n + 1 + length cs ≡ n + suc (length cs) = omega arith in
    subst (λ (m : ℕ). Passes n ds (constraint_items (c ∷ cs)) m ds (constraint_stmts n (c ∷ cs))) e
    (then-passes n (n + 1) (n + 1 + length cs) ds ds ds _ _ _ _ one rest)

-- The cost.

declares-int : statement_of (codes "new_int") ≡ Some statement.NewInt
unfolding statement_of lone_statement
declares-int = refl

not-below : (low high : ℤ) → low ≤ℤ high → int_lt high low ≡ false
not-below low high h = grind (arith, ints, h)

module _ (vars : ℕ) (o : Objective) (sums : o.low ≤ℤ o.high) where
  cost-fine : item_fault (vars + 1) false (variables_from 1 vars) (cost_item o) ≡ None
  unfolding item_fault statement_fault
  cost-fine = rw (declares-int, cost-missing vars, not-below o.low o.high sums) refl

  cost-declares : declarations_of (vars + 1) (variables_from 1 vars) (cost_item o) ≡ cost (vars + 1) o ∷ []
  unfolding declare_by
  cost-declares = rw (declares-int, cost-missing vars) refl

  cost-states : (ds : List Decl) → statements_of (vars + 1) ds (cost_item o) ≡ []
  unfolding what_of
  cost-states ds = rw declares-int refl

  pub cost-passes : Passes (vars + 1) (variables_from 1 vars) (cost_item o ∷ []) (vars + 1 + 1) (variables_from 1 vars ++ cost (vars + 1) o ∷ []) []
  cost-passes = item-passes (vars + 1) (variables_from 1 vars) (cost_item o) (cost (vars + 1) o ∷ []) [] cost-fine cost-declares (cost-states _) refl

  -- and its place and kind
  pub cost-place : place_of cost_name (variables_from 1 vars ++ cost (vars + 1) o ∷ []) ≡ Some vars
  cost-place = cost-placed vars (cost (vars + 1) o) refl

  pub cost-there : slice_get (variables_from 1 vars ++ cost (vars + 1) o ∷ []) vars ≡ Some (cost (vars + 1) o)
  cost-there = cost-at 1 vars (cost (vars + 1) o)
