use Rattle.conflict_analysis.proofs.Works.{following-start, followed-ended}
use Rattle.conflict_analysis.proofs.work.Work.resolve_implied.Goals as goal

pub returns-clause-ended : goal.returns-clause-ended
returns-clause-ended g c = λ spare bound conflict r.
    followed-ended (g.T.Reasons.trail c.args.source.now).entries (g.T.Reasons.named c.args.source.now) c.args.self.now.met.cells c.seek.new.self.marks.cells c.seek.new.self.order.items c.in_ok-seek.ensures.seeking
    spare bound conflict c.follow.new.marks.cells c.follow.new.hints.items
    (rw (← c.as_slice.ensures.value) (c.in_ok-follow.ensures.followed spare bound conflict
    (rw c.as_slice.ensures.value (following-start (g.T.Reasons.trail c.args.source.now).entries (g.T.Reasons.named c.args.source.now) c.args.self.now.met.cells c.seek.new.self.marks.cells c.seek.new.self.order.items c.in_ok-seek.ensures.seeking
    spare bound conflict c.args.hints.now.items c.requires.walked c.in_ok-seek.ensures.known r))))
    c.turn.new.hints.items c.turn.ensures c.args.self.now.minimiser.marks.cells c.in_ok-seek.ensures.keep
