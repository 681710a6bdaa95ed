use Rattle.core_extract.specs.Extracted.{IsReduced, IsSameModel}
use Rattle.core_extract.proofs.trimming.trim.Given as goal

abbrev pub invariant-loop : goal.invariant-loop
invariant-loop g l = record {
  reduced : IsReduced g.F.Oracle.told l.asker.options l.reduction;
  same : IsSameModel l.fn.reduction l.reduction;
}
