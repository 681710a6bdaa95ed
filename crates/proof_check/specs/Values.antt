-- Partial values: a variable has a truth value, or none yet.
use Rattle.std.specs.Prelude.{◌≡◌, ◌==◌, ℕ, Bool, false, not, ◌||◌, Option, None, Some, is_none}
use Rattle.std.specs.Prelude.{option_map, List, [], ◌∷◌, if◌then◌else◌}
use Rattle.std.specs.Bool.{beq}
use Rattle.order_ints.specs.declared.literal.Lit.{Lit}

-- the truth value of each variable that has one
abbrev pub Values : Type 0
Values = ℕ → Option Bool

-- no variable has a value
abbrev pub no_values : Values
no_values v = None

-- the values with a literal made true
abbrev pub set_value : Values → Lit → Values
set_value f l v = if v == l.var then Some l.positive else f v

-- the values that make the literals true; of two with one variable, the first
abbrev pub value_in : List Lit → Values
value_in [] v = None
value_in (l ∷ ls) v = set_value (value_in ls) l v

-- the truth value of a literal whose variable has one
abbrev pub lit_value : Values → Lit → Option Bool
lit_value f l = option_map (beq l.positive) (f l.var)

-- whether there is a value and it is false
abbrev pub is_no : Option Bool → Bool
is_no None = false
is_no (Some b) = not b

-- whether the literal is false
abbrev pub is_false : Values → Lit → Bool
is_false f l = is_no (lit_value f l)

-- whether the literal's variable has no value
abbrev pub is_free : Values → Lit → Bool
is_free f l = is_none (f l.var)

-- whether the variable is that of one of the literals
abbrev pub has_var : ℕ → List Lit → Bool
has_var v [] = false
has_var v (l ∷ ls) = (v == l.var) || has_var v ls

-- the literals' variables differ
abbrev pub VarsDiffer : List Lit → Type 0
VarsDiffer [] = Unit {0}
VarsDiffer (l ∷ ls) = (has_var l.var ls ≡ false) × VarsDiffer ls

-- so do those of each clause
abbrev pub ClauseVarsDiffer : List (List Lit) → Type 0
ClauseVarsDiffer [] = Unit {0}
ClauseVarsDiffer (c ∷ cs) = VarsDiffer c × ClauseVarsDiffer cs
