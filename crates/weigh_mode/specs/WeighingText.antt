-- The text that tells what a model weighs.
use Rattle.std.specs.Prelude.{ℕ, ◌*◌, ◌/◌, List, ◌∷◌, ◌++◌, map, codes}
use Rattle.std.specs.Fmt.{decimal}
use Rattle.bee_text.specs.Lines.{join_lines}
use Rattle.core_cost.specs.Saturated.{saturated}
use Rattle.model_meaning.specs.declared.model.Model.{Model}
use Rattle.model_weight.specs.Weight.{weight_of}
use Rattle.weigh_mode.specs.declared.heaviest.WeighedItem.{WeighedItem}
use Rattle.weigh_mode.specs.Heaviest.{heaviest_items}

-- the share that a weight has of a total, in whole percent, rounded down; of a total of 0 it is 0
abbrev pub percent_of : ℕ → ℕ → ℕ
percent_of total weight = saturated (weight * 100) / total

-- `weight W of 67108864`, of which the latter is the greatest weight of a model that is compiled
abbrev pub weight_line : ℕ → List ℕ
weight_line total = codes "weight " ++ decimal total ++ codes " of 67108864"

-- `item N W P%`: the number of an item, its weight, and its share
abbrev pub item_line : ℕ → WeighedItem → List ℕ
item_line total item =
    codes "item " ++ decimal item.number ++ 32 ∷ decimal item.weight ++ 32 ∷ decimal (percent_of total item.weight)
    ++ codes "%"

-- the weight of a model, and a line for each of its ten heaviest items
abbrev pub weighing_text : Model → List ℕ
weighing_text model =
    join_lines (weight_line (weight_of model) ∷ map (item_line (weight_of model)) (heaviest_items model))
