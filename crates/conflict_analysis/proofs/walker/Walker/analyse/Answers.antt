use Rattle.std.proofs.Common.{refl}
use Rattle.conflict_analysis.proofs.Works.{learning-first, lits-low, analysed}
use Rattle.conflict_analysis.proofs.walker.Walker.analyse.Goals as goal

pub collect-requires-clause-first : goal.collect-requires-clause-first
collect-requires-clause-first g c = learning-first (g.T.Reasons.trail c.args.source.now) c.requires.trail (g.T.Reasons.named c.args.source.now) (g.T.Reasons.named c.args.source.now c.args.conflict) c.learn.new.self.met.cells c.learn.new.hints.items c.in_ok-first.first c.in_ok-first.ensures.learning

pub count_levels-requires : goal.count_levels-requires
count_levels-requires g c = rw c.as_slice.ensures.value (lits-low (g.T.Reasons.trail c.args.source.now) c.requires.trail (g.T.Reasons.named c.args.source.now) (g.T.Reasons.named c.args.source.now c.args.conflict) c.learn.new.self.met.cells c.learn.new.hints.items c.in_ok-first.first c.in_ok-first.ensures.learning c.collect.new.lits.items c.in_ok-jump.jump c.in_ok-jump.ensures)

pub returns-clause-analysed : goal.returns-clause-analysed
returns-clause-analysed g c = analysed (g.T.Reasons.trail c.args.source.now) c.requires.trail (g.T.Reasons.named c.args.source.now) (g.T.Reasons.named c.args.source.now c.args.conflict) c.learn.new.self.met.cells c.learn.new.hints.items c.in_ok-first.first c.in_ok-first.ensures.learning c.collect.new.lits.items c.in_ok-jump.jump c.in_ok-jump.ensures _ refl refl refl c.in_ok-first.ensures.seen
