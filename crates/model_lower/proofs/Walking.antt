-- The items that are left are lowered behind those so far, one after another.
use Rattle.std.proofs.Common.{◌≡◌, ◌<◌, List, ◌∷◌, refl, subst}
use Rattle.std.specs.Prelude.{◌^◌}
use Rattle.model_meaning.specs.declared.model.Decl.{Decl}
use Rattle.model_meaning.specs.declared.model.Stmt.{Stmt}
use Rattle.model_meaning.specs.Limits.{DeclsInLimit, StmtsInLimit}
use Rattle.statement_lower.specs.Entries.{AreInLimit}
use Rattle.model_items.specs.Items.{ModelItem, items_of}
use Rattle.model_items.specs.ItemLimits.{ItemInLimit, ItemsInLimit}
use Rattle.model_items.proofs.LimitLaws.{items-in_limit}
use Rattle.model_lower.specs.declared.state.Lowered.{Lowered}
use Rattle.model_lower.specs.Lowering.{lowered_item, lowered_items, nothing_lowered}
use Rattle.model_lower.proofs.LoweredItems.{room-here, items-step}
use Rattle.model_lower.proofs.LimitLaws.{limit-step}

-- what is lowered so far, and the items that are left, are the whole
pub record IsOnTheWay (l : Lowered) (left : List ModelItem) (all : Lowered) : Type 0 where
  pub rest : lowered_items l left ≡ all
  pub entries : AreInLimit l.map.entries
  pub limits : ItemsInLimit left

pub at-start : (ds : List Decl) (ss : List Stmt) → DeclsInLimit ds → StmtsInLimit ss → IsOnTheWay nothing_lowered (items_of ds ss) (lowered_items nothing_lowered (items_of ds ss))
at-start ds ss small limits = record { rest = refl; entries = tt; limits = items-in_limit ds ss small limits }

module _ (l all : Lowered) (i : ModelItem) (items left : List ModelItem) (parts : left ≡ i ∷ items) (h : IsOnTheWay l left all) where
  -- the item is in the limits
  pub item-limit : ItemInLimit i
  item-limit = (subst ItemsInLimit parts h.limits).0

  -- there is room for the item
  pub item-room : all.vars < 2 ^ 27 → (lowered_item l i).vars < 2 ^ 27
  item-room room = room-here l all i items left parts h.rest room

  pub behind-item : (m : Lowered) → m ≡ lowered_item l i → IsOnTheWay m items all
  behind-item m next =
      let limits = limit-step l m i items left parts next h.limits h.entries in
      record { rest = items-step l m all i items left parts next h.rest; entries = limits.0; limits = limits.1 }
