use Rattle.std.proofs.Common.{◌≡◌, ◌++◌, drop}
use Rattle.direct_encode.specs.Walked.{walked}
use Rattle.direct_encode.specs.Maxima.{all_at}
use Rattle.direct_encode.proofs.maxima.push_reaching_atoms.Given as goal

abbrev pub invariant-loop-i : goal.invariant-loop-i
invariant-loop-i l = record {
  same : walked l.walks.items ≡ walked l.initial.walks.items;
  written : l.clause.items ++ all_at (drop l.i (walked l.initial.walks.items)) l.v ≡ l.initial.clause.items ++ all_at (walked l.initial.walks.items) l.v;
}
