use Rattle.std.proofs.Common.{◌≡◌, ◌+◌, ◌<◌, ◌^◌, length}
use Rattle.core_cost.specs.Saturated.{saturated}
use Rattle.model_items.specs.ItemLimits.{ItemsInLimit}
use Rattle.model_weight.specs.Weight.{weight_of_items, weight_of}
use Rattle.model_weight.proofs.items.items_weight.Given as goal

abbrev pub invariant-loop-item : goal.invariant-loop-item
invariant-loop-item l =
    record {
      fits : l.weight < 2 ^ 128;
      limits : ItemsInLimit l.left;
      weight : saturated (l.weight + weight_of_items l.decls l.left) ≡ saturated (weight_of l.fn.model);
    }

abbrev pub decreases-loop-item : goal.decreases-loop-item
decreases-loop-item l = length l.left
