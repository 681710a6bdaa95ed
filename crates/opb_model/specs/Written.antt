-- A text of which no more may be written than so many bytes.
use Rattle.std.specs.Prelude.{◌≡◌, ℕ, ◌<◌, Bool, true, false, List, [], ◌∷◌, ◌++◌, length, map}
use Rattle.std.specs.Prelude.{codes}
use Rattle.std.specs.List.{flat_map}
use Rattle.bumblebee_reader.specs.Canonical.{terms_text, item_line}
use Rattle.opb_front.specs.declared.items.Term.{Term}
use Rattle.opb_front.specs.declared.items.Comparison.{Comparison}
use Rattle.opb_front.specs.declared.items.Opb.{Opb}
use Rattle.opb_model.specs.Models.{sum_name}
use Rattle.opb_model.specs.Items.{coefficient_word, literal_word, cost_items, constraint_items, goal_item}

-- a sum's line up to what it is compared with
abbrev pub sum_front : Comparison → List Term → List ℕ
sum_front c terms =
    sum_name c
    ++ (codes "([" ++ (terms_text (map coefficient_word terms)
    ++ (codes "],[" ++ (terms_text (map literal_word terms) ++ codes "],"))))

-- the lines behind those of the variables
abbrev pub other_lines : Opb → List ℕ
other_lines opb =
    flat_map item_line
    (cost_items opb.objective ++ (constraint_items opb.constraints ++ goal_item opb.objective ∷ []))

-- lines were appended, all of them, or not, since the text would be too long
abbrev pub IsWritten : List ℕ → List ℕ → ℕ → List ℕ → Bool → Type 0
IsWritten before lines most after true = after ≡ before ++ lines
IsWritten before lines most after false = most < length (before ++ lines)
