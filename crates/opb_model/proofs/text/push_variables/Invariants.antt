use Rattle.std.proofs.Common.{◌≡◌, ◌+◌, ◌-◌, ◌++◌}
use Rattle.std.specs.List.{flat_map}
use Rattle.bumblebee_reader.specs.Canonical.{item_line}
use Rattle.opb_model.specs.Items.{variable_items}
use Rattle.opb_model.proofs.text.push_variables.Given as goal

-- the lines that stand and those that are left are all
abbrev pub invariant-loop-before : goal.invariant-loop-before
invariant-loop-before l =
    l.out.items ++ flat_map item_line (variable_items (l.before + 1) (l.vars - l.before)) ≡ l.initial.out.items ++ flat_map item_line (variable_items 1 l.vars)
