use Rattle.std.proofs.Common.{◌≡◌, ◌++◌, drop}
use Rattle.order_ints.specs.Truth.{valuation_of}
use Rattle.name_map.specs.Values.{values_of, AreBounded}
use Rattle.dimacs_out.specs.ValueLines.{values_text}
use Rattle.dimacs_out.proofs.values.write_values.Given as goal

-- what was written, and the lines that are left, are all that is to be written; and what is left is bounded
abbrev pub invariant-loop-entry : goal.invariant-loop-entry
invariant-loop-entry l =
    (l.out.items ++ values_text (valuation_of l.values) (drop l.entry-index l.entries) ≡ values_text (valuation_of l.values) l.entries)
    × AreBounded (values_of (drop l.entry-index l.entries))
