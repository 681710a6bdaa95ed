use Rattle.std.proofs.Common.{◌≡◌, ◌<◌, ◌^◌, length}
use Rattle.model_items.specs.ItemLimits.{ItemsInLimit}
use Rattle.model_weight.specs.Weight.{weight_of_items}
use Rattle.weigh_mode.specs.Heaviest.{weighed_items, heaviest_items}
use Rattle.weigh_mode.proofs.Sorting.{keep_all}
use Rattle.weigh_mode.proofs.heaviest.heaviest_items.Given as goal

-- what is kept, where the items that are left come behind it, is what is kept of all
abbrev pub invariant-loop-item : goal.invariant-loop-item
invariant-loop-item l =
    record {
      fits : weight_of_items l.decls l.left < 2 ^ 128;
      limits : ItemsInLimit l.left;
      kept : keep_all l.kept.items (weighed_items l.decls l.left) ≡ heaviest_items l.fn.model;
    }

abbrev pub decreases-loop-item : goal.decreases-loop-item
decreases-loop-item l = length l.left
