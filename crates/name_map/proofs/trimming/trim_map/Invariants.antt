use Rattle.std.proofs.Common.{◌≡◌, ◌++◌, drop}
use Rattle.name_map.specs.Values.{AreBounded}
use Rattle.name_map.specs.Trimmed.{trimmed_values}
use Rattle.name_map.proofs.trimming.trim_map.Given as goal

-- those so far and what is left make all
abbrev pub invariant-loop-value : goal.invariant-loop-value
invariant-loop-value l = record {
  trimmed : l.entries.items ++ trimmed_values l.view (drop l.value-index l.value-items) ≡ trimmed_values l.view l.map.entries;
  bounded : AreBounded (drop l.value-index l.value-items);
}
