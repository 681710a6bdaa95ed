use Rattle.conflict_analysis.specs.Collecting.{IsCollecting}
use Rattle.conflict_analysis.proofs.collect.collect.Given as goal

abbrev pub invariant-loop-var : goal.invariant-loop-var
invariant-loop-var g l = IsCollecting (g.T.Reasons.trail l.source) l.met.cells l.first l.best l.jump l.var-items l.var-index l.lits.items
