-- The heaviest items of a model.
use Rattle.std.specs.Prelude.{ℕ, nat_lt, List, [], ◌∷◌, take, if◌then◌else◌}
use Rattle.model_meaning.specs.declared.model.Decl.{Decl}
use Rattle.model_meaning.specs.declared.model.Model.{Model}
use Rattle.model_items.specs.Items.{ModelItem, Declaration, Statement, Definition, items_of_model}
use Rattle.model_weight.specs.Weight.{weight_of_item}
use Rattle.weigh_mode.specs.declared.heaviest.WeighedItem.{WeighedItem}

-- the number of an item in the text, from 1
abbrev pub number_of : ModelItem → ℕ
number_of (Declaration d) = d.number
number_of (Statement s) = s.number
number_of (Definition d s) = d.number

-- an item among declarations with its weight, and items in their order
abbrev pub weighed_item : List Decl → ModelItem → WeighedItem
weighed_item ds i = record { number = number_of i; weight = weight_of_item ds i }

abbrev pub weighed_items : List Decl → List ModelItem → List WeighedItem
weighed_items ds [] = []
weighed_items ds (i ∷ items) = weighed_item ds i ∷ weighed_items ds items

-- an item in front of the first one that is no heavier
abbrev pub put_in : WeighedItem → List WeighedItem → List WeighedItem
put_in w [] = w ∷ []
put_in w (v ∷ vs) = if nat_lt w.weight v.weight then v ∷ put_in w vs else w ∷ v ∷ vs

-- items by their weight, the heaviest first, and of equal ones first the one that stands first
abbrev pub by_weight : List WeighedItem → List WeighedItem
by_weight [] = []
by_weight (w ∷ ws) = put_in w (by_weight ws)

-- the ten heaviest items of a model, or all where it has fewer
abbrev pub heaviest_items : Model → List WeighedItem
heaviest_items model = take 10 (by_weight (weighed_items model.decls (items_of_model model)))
