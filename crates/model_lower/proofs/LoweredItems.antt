-- Lowering goes on behind the items so far.
use Rattle.std.proofs.Common.{◌≡◌, ◌<◌, ◌≤◌, List, [], ◌∷◌, sym, ap, ◌∙◌, arith}
use Rattle.std.specs.Prelude.{◌^◌}
use Rattle.model_items.specs.Items.{ModelItem, Declaration, Statement, Definition}
use Rattle.statement_lower.proofs.MoreVariables.{variables_law}
use Rattle.model_lower.specs.declared.state.Lowered.{Lowered}
use Rattle.model_lower.specs.Lowering.{lowered_item, lowered_items}

-- Variables get no fewer.

item-more : (l : Lowered) (i : ModelItem) → l.vars ≤ (lowered_item l i).vars
item-more l (Declaration d) = omega arith
item-more l (Statement s) = variables_law l.vars l.map.entries s.what
item-more l (Definition d s) = omega arith

items-more : (l : Lowered) (items : List ModelItem) → l.vars ≤ (lowered_items l items).vars
items-more l [] = omega arith
items-more l (i ∷ items) = omega (arith, item-more l i, items-more (lowered_item l i) items)

-- there is room for an item where there is for all
pub room-here : (l all : Lowered) (i : ModelItem) (items left : List ModelItem) → left ≡ i ∷ items → lowered_items l left ≡ all → all.vars < 2 ^ 27 → (lowered_item l i).vars < 2 ^ 27
room-here l all i items left parts e room =
    let f : lowered_items (lowered_item l i) items ≡ all = sym (ap (lowered_items l) parts) ∙ e in
    let g : (lowered_items (lowered_item l i) items).vars ≡ all.vars = ap (λ (k : Lowered). k.vars) f in
    let le = items-more (lowered_item l i) items in
    omega (arith, le, g, room)

-- behind an item
pub items-step : (l m all : Lowered) (i : ModelItem) (items left : List ModelItem) → left ≡ i ∷ items → m ≡ lowered_item l i → lowered_items l left ≡ all → lowered_items m items ≡ all
items-step l m all i items left parts next e = ap (λ (k : Lowered). lowered_items k items) next ∙ (sym (ap (lowered_items l) parts) ∙ e)
