use Rattle.std.proofs.Common.{List, [], ◌∷◌, ◌++◌, refl, ap, ◌∙◌}
use Rattle.order_ints.specs.declared.literal.Lit.{Lit}
use Rattle.conflict_analysis.specs.Reasons.{place_of}
use Rattle.conflict_analysis.proofs.Seeks.{reason-live}
use Rattle.conflict_analysis.proofs.Works.{refuted, forced-bottom, forced-spared, forced-low, forced-far}
use Rattle.conflict_analysis.proofs.walker.Walker.confirm.Goals as goal

pub derive-requires-clause-live : goal.derive-requires-clause-live
derive-requires-clause-live g c = reason-live (g.T.Reasons.trail c.args.source.now) c.requires.trail (g.T.Reasons.named c.args.source.now) (g.T.Reasons.lives c.args.source.now) c.requires.reasons c.args.literal.var c.args.reason c.requires.forced.0 c.requires.forced.1.found c.requires.forced.1.because

pub derive-requires-clause-over : goal.derive-requires-clause-over
derive-requires-clause-over g c = forced-low (g.T.Reasons.trail c.args.source.now) c.requires.trail (g.T.Reasons.named c.args.source.now) (g.T.Reasons.lives c.args.source.now) c.requires.reasons c.args.literal c.args.reason c.requires.forced.0 c.requires.forced.1 c.requires.forced.2

pub derive-requires-clause-bottom : goal.derive-requires-clause-bottom
derive-requires-clause-bottom g c = forced-bottom (g.T.Reasons.trail c.args.source.now) c.requires.trail (g.T.Reasons.named c.args.source.now) (g.T.Reasons.lives c.args.source.now) c.requires.reasons c.args.literal c.args.reason c.requires.forced.0 c.requires.forced.1 c.requires.forced.2

pub returns-clause-refuted : goal.returns-clause-refuted
returns-clause-refuted g c = refuted (g.T.Reasons.trail c.args.source.now) (g.T.Reasons.named c.args.source.now) (g.T.Reasons.named c.args.source.now c.args.reason) (c.args.literal ∷ []) (place_of (g.T.Reasons.trail c.args.source.now).entries c.args.literal.var) c.derive.new.self.met.cells c.derive.new.hints.items
    (c.in_ok-derive.ensures.derived (c.args.literal ∷ []) (place_of (g.T.Reasons.trail c.args.source.now).entries c.args.literal.var) (forced-spared (g.T.Reasons.trail c.args.source.now) c.requires.trail (g.T.Reasons.named c.args.source.now) (g.T.Reasons.lives c.args.source.now) c.requires.reasons c.args.literal c.args.reason c.requires.forced.0 c.requires.forced.1 c.requires.forced.2)) c.in_ok-derive.ensures.none (refl, tt) (forced-far (g.T.Reasons.trail c.args.source.now) c.requires.trail (g.T.Reasons.named c.args.source.now) (g.T.Reasons.lives c.args.source.now) c.requires.reasons c.args.literal c.args.reason c.requires.forced.0 c.requires.forced.1 c.requires.forced.2) _
    (c.in_ok-push.ensures.items ∙ ap (λ (xs : List Lit). xs ++ c.args.literal ∷ []) c.clear.ensures.items) refl
