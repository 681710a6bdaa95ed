use Rattle.std.proofs.Common.{[], length, refl}
use Rattle.conflict_analysis.proofs.Members.{contains-nil}
use Rattle.conflict_analysis.proofs.Works.{refuted, conflict-spared}
use Rattle.conflict_analysis.proofs.walker.Walker.refute.Goals as goal

pub returns-clause-refuted : goal.returns-clause-refuted
returns-clause-refuted g c = refuted (g.T.Reasons.trail c.args.source.now) (g.T.Reasons.named c.args.source.now) (g.T.Reasons.named c.args.source.now c.args.conflict) [] (length (g.T.Reasons.trail c.args.source.now).entries) c.derive.new.self.met.cells c.derive.new.hints.items
    (c.in_ok-derive.ensures.derived [] (length (g.T.Reasons.trail c.args.source.now).entries) (conflict-spared (g.T.Reasons.trail c.args.source.now) c.requires.trail (g.T.Reasons.named c.args.source.now c.args.conflict).lits c.requires.conflict)) c.in_ok-derive.ensures.none tt (λ l k. absurd (contains-nil l k)) _
    c.clear.ensures.items refl
