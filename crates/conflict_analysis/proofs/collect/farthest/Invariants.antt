use Rattle.std.proofs.Common.{◌≡◌, ◌≢◌, ℕ, ◌<◌, ◌≤◌, get_or}
use Rattle.conflict_analysis.specs.declared.marks.Mark.TheVariants.{Met}
use Rattle.conflict_analysis.specs.Marking.{mark_at}
use Rattle.conflict_analysis.specs.Reasons.{level_at}
use Rattle.conflict_analysis.proofs.collect.farthest.Given as goal

abbrev pub invariant-loop-var : goal.invariant-loop-var
invariant-loop-var g l = record {
  most : (k : ℕ) → k < l.var-index → mark_at l.met.cells (get_or l.var-items k 0) ≡ Met → get_or l.var-items k 0 ≢ l.first → level_at (g.T.Reasons.trail l.source).entries (get_or l.var-items k 0) ≤ l.jump;
  has : 0 < l.jump → (mark_at l.met.cells l.best ≡ Met) × (l.best ≢ l.first) × (level_at (g.T.Reasons.trail l.source).entries l.best ≡ l.jump);
  none : l.jump ≡ 0 → l.best ≡ 0;
}
