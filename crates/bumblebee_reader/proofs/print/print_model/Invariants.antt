use Rattle.std.proofs.Common.{◌≡◌, take}
use Rattle.std.specs.List.{flat_map}
use Rattle.bumblebee_reader.specs.Canonical.{item_line}
use Rattle.bumblebee_reader.proofs.print.print_model.Given as goal

abbrev pub invariant-loop-item : goal.invariant-loop-item
invariant-loop-item l = l.out.items ≡ flat_map item_line (take l.item-index l.item-items)
