use Rattle.core_extract.specs.Extracted.{IsProgress, IsSameModel}
use Rattle.core_extract.proofs.settling.settle.Given as goal

-- the statements so far are settled, in a part of the same model
abbrev pub invariant-loop-place : goal.invariant-loop-place
invariant-loop-place g l = record {
  settled : IsProgress g.F.Oracle.told l.asker.options l.place l.progress;
  same : IsSameModel l.fn.reduction l.progress.reduction;
}
