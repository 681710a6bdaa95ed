use Rattle.std.proofs.Common.{◌≡◌, ◌+◌, ◌≤◌, ℤ, [], take, drop}
use Rattle.std.specs.BTreeMap.{get}
use Rattle.std.specs.Ordering.{int_cmp}
use Rattle.alldiff_rules.specs.Table.{Shows}
use Rattle.alldiff_rules.specs.Members.{number_new}
use Rattle.alldiff_rules.specs.Tally.{listed_values, IsPlaced}
use Rattle.alldiff_rules.proofs.tally.tally_of.Given as goal

-- the table shows the entries so far, and those that are new among the others are left to count
abbrev pub invariant-loop-value : goal.invariant-loop-value
invariant-loop-value l = record {
  shown : (v : ℤ) → Shows (λ i. IsPlaced v i (take l.value-index l.entries)) (get int_cmp l.values v);
  left : l.count + number_new (listed_values (take l.value-index l.entries)) (listed_values (drop l.value-index l.entries)) ≡ number_new [] (listed_values l.entries);
  few : l.count ≤ l.value-index;
}
