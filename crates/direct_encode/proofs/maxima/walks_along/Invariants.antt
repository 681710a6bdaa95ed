use Rattle.std.proofs.Common.{◌≡◌, ◌++◌, length}
use Rattle.core_forms.specs.WellFormed.{AreSound}
use Rattle.direct_encode.specs.Walked.{walked}
use Rattle.direct_encode.proofs.maxima.walks_along.Given as goal

abbrev pub invariant-loop-a : goal.invariant-loop-a
invariant-loop-a l = record {
  sound : AreSound l.rest;
  made : walked l.walks.items ++ l.rest ≡ l.initial.rest;
}

abbrev pub decreases-loop-a : goal.decreases-loop-a
decreases-loop-a l = length l.rest
