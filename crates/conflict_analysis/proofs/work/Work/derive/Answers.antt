use Rattle.std.proofs.Common.{ℕ, List, [], ◌∷◌, ◌++◌, length, sym, ap, ◌∙◌, subst}
use Rattle.conflict_analysis.specs.declared.marks.Mark.{Mark}
use Rattle.conflict_analysis.specs.Resolving.{IsResolving}
use Rattle.conflict_analysis.specs.Seeking.{IsSeeking, AreRoots}
use Rattle.conflict_analysis.specs.Working.{AreWalked, AreFewer}
use Rattle.conflict_analysis.proofs.Works.{bottom-inside, bottom-marks, bottom-roots, bottom-resolving, bottom-none, bottom-some, seeking-none}
use Rattle.conflict_analysis.proofs.work.Work.derive.Goals as goal

pub meet-requires-clause-inside : goal.meet-requires-clause-inside
meet-requires-clause-inside g c = bottom-inside (g.T.Reasons.trail c.args.source.now) c.requires.trail (g.T.Reasons.named c.args.source.now) (g.T.Reasons.lives c.args.source.now) c.requires.reasons (g.T.Reasons.named c.args.source.now c.args.conflict) c.args.over c.requires.bottom c.clear.new.self.met.cells (length c.args.self.now.met.cells) c.requires.size c.clear.ensures.met c.requires.over

pub resolve_implied-requires-clause-walked : goal.resolve_implied-requires-clause-walked
resolve_implied-requires-clause-walked g c = subst (λ (cs : List Mark). AreWalked cs) (sym c.in_ok-meet.ensures.marks) (bottom-marks (g.T.Reasons.trail c.args.source.now) c.requires.trail (g.T.Reasons.named c.args.source.now) (g.T.Reasons.lives c.args.source.now) c.requires.reasons (g.T.Reasons.named c.args.source.now c.args.conflict) c.args.over c.requires.bottom c.clear.new.self.met.cells (length c.args.self.now.met.cells) c.requires.size c.clear.ensures.met)

pub resolve_implied-requires-clause-roots : goal.resolve_implied-requires-clause-roots
resolve_implied-requires-clause-roots g c =
    subst (λ (cs : List Mark). AreRoots (g.T.Reasons.trail c.args.source.now).entries cs c.clear.new.self.minimiser.marks.cells) (sym c.in_ok-meet.ensures.marks) (bottom-roots (g.T.Reasons.trail c.args.source.now) c.requires.trail (g.T.Reasons.named c.args.source.now) (g.T.Reasons.lives c.args.source.now) c.requires.reasons (g.T.Reasons.named c.args.source.now c.args.conflict) c.args.over c.requires.bottom c.clear.new.self.met.cells (length c.args.self.now.met.cells) c.requires.size c.clear.ensures.met c.clear.new.self.minimiser.marks.cells)

pub resolve_implied-requires-clause-seeking : goal.resolve_implied-requires-clause-seeking
resolve_implied-requires-clause-seeking g c =
    subst (λ (o : List ℕ). IsSeeking (g.T.Reasons.trail c.args.source.now).entries (g.T.Reasons.named c.args.source.now) c.meet.new.marks.cells c.clear.new.self.minimiser.marks.cells [] o) (sym c.clear.ensures.order)
    (seeking-none (g.T.Reasons.trail c.args.source.now).entries (g.T.Reasons.named c.args.source.now) c.meet.new.marks.cells c.clear.new.self.minimiser.marks.cells (length c.args.self.now.minimiser.marks.cells) c.clear.ensures.minimiser)

pub returns-clause-derived : goal.returns-clause-derived
returns-clause-derived g c = λ spare bound s.
    (c.in_ok-resolve_implied.ensures.ended spare bound (g.T.Reasons.named c.args.source.now c.args.conflict)
    (subst (λ (cs : List Mark). IsResolving (g.T.Reasons.trail c.args.source.now).entries (g.T.Reasons.named c.args.source.now) spare bound (g.T.Reasons.named c.args.source.now c.args.conflict) cs c.push.new.self.items) (sym c.in_ok-meet.ensures.marks)
    (bottom-resolving (g.T.Reasons.trail c.args.source.now) c.requires.trail (g.T.Reasons.named c.args.source.now) (g.T.Reasons.lives c.args.source.now) c.requires.reasons (g.T.Reasons.named c.args.source.now c.args.conflict) c.args.over c.requires.bottom c.clear.new.self.met.cells (length c.args.self.now.met.cells) c.requires.size c.clear.ensures.met spare bound c.push.new.self.items s (c.in_ok-push.ensures.ok ∙ ap (λ (xs : List ℕ). xs ++ c.id.result ∷ []) c.clear-2.ensures.items ∙ ap (λ (n : ℕ). n ∷ []) c.id.ensures)))).derived

pub returns-clause-none : goal.returns-clause-none
returns-clause-none g c =
    let ended = c.in_ok-resolve_implied.ensures.ended (g.T.Reasons.named c.args.source.now c.args.conflict).lits (length (g.T.Reasons.trail c.args.source.now).entries) (g.T.Reasons.named c.args.source.now c.args.conflict)
    (subst (λ (cs : List Mark). IsResolving (g.T.Reasons.trail c.args.source.now).entries (g.T.Reasons.named c.args.source.now) (g.T.Reasons.named c.args.source.now c.args.conflict).lits (length (g.T.Reasons.trail c.args.source.now).entries) (g.T.Reasons.named c.args.source.now c.args.conflict) cs c.push.new.self.items) (sym c.in_ok-meet.ensures.marks)
    (bottom-resolving (g.T.Reasons.trail c.args.source.now) c.requires.trail (g.T.Reasons.named c.args.source.now) (g.T.Reasons.lives c.args.source.now) c.requires.reasons (g.T.Reasons.named c.args.source.now c.args.conflict) c.args.over c.requires.bottom c.clear.new.self.met.cells (length c.args.self.now.met.cells) c.requires.size c.clear.ensures.met (g.T.Reasons.named c.args.source.now c.args.conflict).lits (length (g.T.Reasons.trail c.args.source.now).entries) c.push.new.self.items (bottom-some (g.T.Reasons.trail c.args.source.now) c.requires.trail (g.T.Reasons.named c.args.source.now) (g.T.Reasons.lives c.args.source.now) c.requires.reasons (g.T.Reasons.named c.args.source.now c.args.conflict) c.args.over c.requires.bottom c.clear.new.self.met.cells (length c.args.self.now.met.cells) c.requires.size c.clear.ensures.met) (c.in_ok-push.ensures.ok ∙ ap (λ (xs : List ℕ). xs ++ c.id.result ∷ []) c.clear-2.ensures.items ∙ ap (λ (n : ℕ). n ∷ []) c.id.ensures))) in
    bottom-none (g.T.Reasons.trail c.args.source.now) c.requires.trail (g.T.Reasons.named c.args.source.now) (g.T.Reasons.lives c.args.source.now) c.requires.reasons (g.T.Reasons.named c.args.source.now c.args.conflict) c.args.over c.requires.bottom c.clear.new.self.met.cells (length c.args.self.now.met.cells) c.requires.size c.clear.ensures.met c.resolve_implied.new.self.met.cells
    (subst (λ (cs : List Mark). AreFewer (g.T.Reasons.trail c.args.source.now).entries cs c.resolve_implied.new.self.met.cells) c.in_ok-meet.ensures.marks ended.fewer)
