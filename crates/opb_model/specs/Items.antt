-- The items of a pseudo-Boolean file's model: what its text says.
use Rattle.std.specs.Prelude.{ℕ, zero, suc, ◌+◌, List, [], ◌∷◌, ◌++◌, map, codes, Option, Some, None}
use Rattle.std.specs.Prelude.{if◌then◌else◌}
use Rattle.bumblebee_reader.specs.declared.syntax.Term.{Term as Word}
use Rattle.bumblebee_reader.specs.declared.syntax.Term.TheVariants as word
use Rattle.bumblebee_reader.specs.declared.syntax.Arg.TheVariants.{One, Many}
use Rattle.bumblebee_reader.specs.declared.syntax.Item.{Item}
use Rattle.bumblebee_reader.specs.declared.syntax.Item.TheVariants.{Call, Goal}
use Rattle.bumblebee_reader.specs.declared.syntax.GoalKind.TheVariants.{Satisfy, Minimize}
use Rattle.bumblebee_reader.specs.declared.syntax.Syntax.{Syntax}
use Rattle.bumblebee_reader.specs.Canonical.{canonical}
use Rattle.opb_front.specs.declared.items.Term.{Term}
use Rattle.opb_front.specs.declared.items.Comparison.{Comparison}
use Rattle.opb_front.specs.declared.items.Comparison.TheVariants.{Equal}
use Rattle.opb_front.specs.declared.items.Constraint.{Constraint}
use Rattle.opb_front.specs.declared.items.Objective.{Objective}
use Rattle.opb_front.specs.declared.items.Opb.{Opb}
use Rattle.opb_model.specs.Models.{variable_name, cost_name, sum_name}

-- the variables
abbrev pub variable_item : ℕ → Item
variable_item index = Call (codes "new_bool") (One (word.Plain (variable_name index)) ∷ [])

abbrev pub variable_items : ℕ → ℕ → List Item
variable_items index zero = []
variable_items index (suc n) = variable_item index ∷ variable_items (index + 1) n

-- the terms of a sum: coefficients and literals, `-` before the name of a negated variable
abbrev pub coefficient_word : Term → Word
coefficient_word t = word.Number t.coefficient

abbrev pub literal_word : Term → Word
literal_word t = if t.literal.positive then word.Plain (variable_name t.literal.index)
    else word.Minus (variable_name t.literal.index)

-- a sum stands to a number, or to the cost, as it is to
abbrev pub sum_item : Comparison → List Term → Word → Item
sum_item c terms bound =
    Call (sum_name c) (Many (map coefficient_word terms) ∷ Many (map literal_word terms) ∷ One bound ∷ [])

-- the cost, and that it is the sum of the objective
abbrev pub cost_item : Objective → Item
cost_item o =
    Call (codes "new_int") (One (word.Plain cost_name) ∷ One (word.Number o.low) ∷ One (word.Number o.high) ∷ [])

abbrev pub cost_items : Option Objective → List Item
cost_items None = []
cost_items (Some o) = cost_item o ∷ sum_item Equal o.terms (word.Plain cost_name) ∷ []

-- the constraints
abbrev pub constraint_item : Constraint → Item
constraint_item c = sum_item c.comparison c.terms (word.Number c.bound)

abbrev pub constraint_items : List Constraint → List Item
constraint_items cs = map constraint_item cs

-- what is sought
abbrev pub goal_item : Option Objective → Item
goal_item None = Goal Satisfy None None
goal_item (Some o) = Goal Minimize (Some cost_name) None

-- all items, and the text that says them
abbrev pub items_of : Opb → List Item
items_of opb =
    variable_items 1 opb.vars
    ++ (cost_items opb.objective ++ (constraint_items opb.constraints ++ goal_item opb.objective ∷ []))

abbrev pub syntax_of : Opb → Syntax
syntax_of opb = record { items = items_of opb }

abbrev pub opb_text : Opb → List ℕ
opb_text opb = canonical (syntax_of opb)
