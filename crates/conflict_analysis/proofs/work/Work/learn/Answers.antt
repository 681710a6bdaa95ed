use Rattle.std.proofs.Common.{ℕ, ◌<◌, List, [], length, set, sym, ap, ◌∙◌, subst}
use Rattle.conflict_analysis.specs.declared.marks.Mark.{Mark}
use Rattle.conflict_analysis.specs.declared.marks.Mark.TheVariants.{Kept}
use Rattle.conflict_analysis.specs.Seeking.{IsSeeking}
use Rattle.conflict_analysis.proofs.Works.{walked-roots, walked-seeking, walked-learning}
use Rattle.conflict_analysis.proofs.work.Work.learn.Goals as goal

pub resolve_implied-requires-clause-roots : goal.resolve_implied-requires-clause-roots
resolve_implied-requires-clause-roots g c = walked-roots (g.T.Reasons.trail c.args.source.now) c.requires.trail (g.T.Reasons.named c.args.source.now) (g.T.Reasons.named c.args.source.now c.args.conflict) c.walk.new.marks.cells c.walk.new.hints.items c.in_ok-first.first c.in_ok-first.ensures.walked (subst (λ (n : ℕ). 0 < n) c.requires.level c.requires.above)
    c.keep.new.self.marks.cells (length c.args.self.now.minimiser.marks.cells) (c.requires.work.minimiser ∙ c.requires.size) (c.in_ok-keep.ensures.marks ∙ ap (λ (cs : List Mark). set cs c.in_ok-first.first.var Kept) c.clear.ensures.minimiser)

pub resolve_implied-requires-clause-seeking : goal.resolve_implied-requires-clause-seeking
resolve_implied-requires-clause-seeking g c =
    subst (λ (o : List ℕ). IsSeeking (g.T.Reasons.trail c.args.source.now).entries (g.T.Reasons.named c.args.source.now) c.walk.new.marks.cells c.keep.new.self.marks.cells [] o) (sym (c.keep.ensures.order ∙ c.clear.ensures.order))
    (walked-seeking (g.T.Reasons.trail c.args.source.now) c.requires.trail (g.T.Reasons.named c.args.source.now) (g.T.Reasons.named c.args.source.now c.args.conflict) c.walk.new.marks.cells c.walk.new.hints.items c.in_ok-first.first c.in_ok-first.ensures.walked (subst (λ (n : ℕ). 0 < n) c.requires.level c.requires.above)
    c.keep.new.self.marks.cells (length c.args.self.now.minimiser.marks.cells) (c.requires.work.minimiser ∙ c.requires.size) (c.in_ok-keep.ensures.marks ∙ ap (λ (cs : List Mark). set cs c.in_ok-first.first.var Kept) c.clear.ensures.minimiser))

pub returns-clause-learning : goal.returns-clause-learning
returns-clause-learning g c = walked-learning (g.T.Reasons.trail c.args.source.now) c.requires.trail (g.T.Reasons.named c.args.source.now) (g.T.Reasons.named c.args.source.now c.args.conflict) c.walk.new.marks.cells c.walk.new.hints.items c.in_ok-first.first c.in_ok-first.ensures.walked (subst (λ (n : ℕ). 0 < n) c.requires.level c.requires.above)
    c.keep.new.self.marks.cells (length c.args.self.now.minimiser.marks.cells) (c.requires.work.minimiser ∙ c.requires.size) (c.in_ok-keep.ensures.marks ∙ ap (λ (cs : List Mark). set cs c.in_ok-first.first.var Kept) c.clear.ensures.minimiser)
    c.resolve_implied.new.self.met.cells c.resolve_implied.new.hints.items (c.in_ok-resolve_implied.ensures.ended [] (length (g.T.Reasons.trail c.args.source.now).entries) (g.T.Reasons.named c.args.source.now c.args.conflict) c.in_ok-first.ensures.walked.resolving)
