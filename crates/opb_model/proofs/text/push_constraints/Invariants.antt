use Rattle.std.proofs.Common.{◌≡◌, ◌++◌, drop}
use Rattle.std.specs.List.{flat_map}
use Rattle.bumblebee_reader.specs.Canonical.{item_line}
use Rattle.opb_model.specs.Items.{constraint_items}
use Rattle.opb_model.proofs.text.push_constraints.Given as goal

-- the lines that stand and those that are left are all
abbrev pub invariant-loop-constraint : goal.invariant-loop-constraint
invariant-loop-constraint l =
    l.out.items ++ flat_map item_line (constraint_items (drop l.constraint-index l.constraints))
    ≡ l.initial.out.items ++ flat_map item_line (constraint_items l.constraints)
