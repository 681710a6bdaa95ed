-- The weight of a model: its variables, and the costs of the cores that its items are lowered to.
use Rattle.std.specs.Prelude.{ℕ, ◌+◌, List, [], ◌∷◌}
use Rattle.core_cost.specs.Comparisons.{cost_of_ladder}
use Rattle.model_meaning.specs.declared.model.Kind.{Kind}
use Rattle.model_meaning.specs.declared.model.Kind.TheVariants as kind
use Rattle.model_meaning.specs.declared.model.Decl.{Decl}
use Rattle.model_meaning.specs.declared.model.Model.{Model}
use Rattle.model_items.specs.Items.{ModelItem, Declaration, Statement, Definition, items_of_model}
use Rattle.model_weight.specs.Shapes.{steps_of}
use Rattle.model_weight.specs.Statements.{weight_of_what}

-- a declared name: its variables, and that an integer is ordered
abbrev pub weight_of_declaration : Kind → ℕ
weight_of_declaration kind.Bool = 1
weight_of_declaration (kind.Range low high) = steps_of (kind.Range low high)
    + cost_of_ladder (steps_of (kind.Range low high))
weight_of_declaration (kind.Listed vs) = steps_of (kind.Listed vs) + cost_of_ladder (steps_of (kind.Listed vs))

-- an item; the integer that a `bool2int` declares is its Boolean, and takes no variable and no core
abbrev pub weight_of_item : List Decl → ModelItem → ℕ
weight_of_item ds (Declaration d) = weight_of_declaration d.kind
weight_of_item ds (Statement s) = weight_of_what ds s.what
weight_of_item ds (Definition d s) = 0

abbrev pub weight_of_items : List Decl → List ModelItem → ℕ
weight_of_items ds [] = 0
weight_of_items ds (i ∷ items) = weight_of_item ds i + weight_of_items ds items

abbrev pub weight_of : Model → ℕ
weight_of model = weight_of_items model.decls (items_of_model model)
