use Rattle.std.proofs.Common.{ℕ, List, [], ◌∷◌, ◌++◌, length, set, sym, ap, ◌∙◌, arith}
use Rattle.std.proofs.lemmas.List.{length-replicate}
use Rattle.conflict_analysis.specs.declared.marks.Mark.TheVariants.{Blank}
use Rattle.conflict_analysis.proofs.Cells.{met-is, met-isn't}
use Rattle.conflict_analysis.proofs.Literals.{lit-same}
use Rattle.conflict_analysis.specs.Walking.{counts}
use Rattle.conflict_analysis.specs.Reasons.{reason_at}
use Rattle.conflict_analysis.specs.declared.marks.Mark.TheVariants.{Resolved}
use Rattle.conflict_analysis.proofs.Walks.{step-start, step-pass, step-end, step-reason, step-next, step-fits, conflict-inside, reason-inside}
use Rattle.conflict_analysis.proofs.walk.walk.Goals as goal

pub meet-requires-clause-inside : goal.meet-requires-clause-inside
meet-requires-clause-inside g c =
    conflict-inside (g.T.Reasons.trail c.args.source.now) c.requires.trail (g.T.Reasons.named c.args.source.now) (g.T.Reasons.lives c.args.source.now) c.requires.reasons
    (g.T.Reasons.named c.args.source.now c.args.conflict) c.args.marks.now.cells (ap length c.requires.blank ∙ length-replicate _ Blank) c.requires.conflict.is_false

pub loop-ahead-init : goal.loop-ahead-init
loop-ahead-init g c = record {
  walking = step-start (g.T.Reasons.trail c.args.source.now) c.requires.trail (g.T.Reasons.named c.args.source.now) (g.T.Reasons.lives c.args.source.now) c.requires.reasons
      (g.T.Reasons.named c.args.source.now c.args.conflict) c.args.marks.now.cells c.meet.new.marks.cells c.push.new.self.items c.in_ok-ahead.ahead c.len-place.result
      c.requires.blank c.requires.conflict c.in_ok-ahead.ensures.marks (c.in_ok-push.ensures.ok ∙ ap (λ (xs : List ℕ). xs ++ c.id.result ∷ []) c.requires.hints ∙ ap (λ (n : ℕ). n ∷ []) c.id.ensures) (c.in_ok-ahead.ensures.count ∙ ap (λ (n : ℕ). counts (g.T.Reasons.trail c.args.source.now).entries n c.args.marks.now.cells 0 (g.T.Reasons.named c.args.source.now c.args.conflict).lits) c.requires.level) c.len-place.ensures;
  size = c.meet.ensures.size;
}

pub returns-then-ahead-eq0-clause-walked : goal.returns-then-ahead-eq0-clause-walked
returns-then-ahead-eq0-clause-walked g c =
    step-end (g.T.Reasons.trail c.args.source.now) c.requires.trail (g.T.Reasons.named c.args.source.now) (g.T.Reasons.lives c.args.source.now) c.requires.reasons
    (g.T.Reasons.named c.args.source.now c.args.conflict) c.loop-ahead.marks.cells c.loop-ahead.hints.items c.loop-ahead.place c.loop-ahead.ahead c.loop-ahead.invariant.walking
    c.entry_at-entry.result c.entry_at-entry.ensures (met-is _ (sym c.is_met.ensures ∙ c.if-is_met.true)) c.if-ahead-eq0.true c.negated.result (lit-same _ _ c.negated.ensures.var c.negated.ensures.sign)

pub resolve-requires-clause-reason : goal.resolve-requires-clause-reason
resolve-requires-clause-reason g c =
    step-reason (g.T.Reasons.trail c.args.source.now) c.requires.trail (g.T.Reasons.named c.args.source.now) (g.T.Reasons.lives c.args.source.now) c.requires.reasons
    (g.T.Reasons.named c.args.source.now c.args.conflict) c.loop-ahead.marks.cells c.loop-ahead.hints.items c.loop-ahead.place c.loop-ahead.ahead c.loop-ahead.invariant.walking
    c.entry_at-entry.result c.entry_at-entry.ensures (met-is _ (sym c.is_met.ensures ∙ c.if-is_met.true)) (omega arith)

pub resolve-requires-clause-lits : goal.resolve-requires-clause-lits
resolve-requires-clause-lits g c =
    reason-inside (g.T.Reasons.trail c.args.source.now) c.requires.trail (g.T.Reasons.named c.args.source.now) (g.T.Reasons.lives c.args.source.now) c.requires.reasons
    (g.T.Reasons.named c.args.source.now c.args.conflict) c.loop-ahead.marks.cells c.loop-ahead.invariant.walking.size c.entry_at-entry.result.lit.var
    (step-reason (g.T.Reasons.trail c.args.source.now) c.requires.trail (g.T.Reasons.named c.args.source.now) (g.T.Reasons.lives c.args.source.now) c.requires.reasons
    (g.T.Reasons.named c.args.source.now c.args.conflict) c.loop-ahead.marks.cells c.loop-ahead.hints.items c.loop-ahead.place c.loop-ahead.ahead c.loop-ahead.invariant.walking
    c.entry_at-entry.result c.entry_at-entry.ensures (met-is _ (sym c.is_met.ensures ∙ c.if-is_met.true)) (omega arith))

pub overflow_add-ahead : goal.overflow_add-ahead
overflow_add-ahead g c =
    let fits = step-fits (g.T.Reasons.trail c.args.source.now) c.requires.trail (g.T.Reasons.named c.args.source.now) (g.T.Reasons.lives c.args.source.now) c.requires.reasons
    (g.T.Reasons.named c.args.source.now c.args.conflict) c.loop-ahead.marks.cells c.loop-ahead.hints.items c.loop-ahead.place c.loop-ahead.ahead c.loop-ahead.invariant.walking
    c.entry_at-entry.result c.entry_at-entry.ensures (met-is _ (sym c.is_met.ensures ∙ c.if-is_met.true)) (omega arith)
    c.resolve.new.marks.cells c.resolve.new.hints.items c.in_ok-ahead-2.field-0 c.in_ok-ahead-2.ensures.marks c.in_ok-ahead-2.ensures.hints
    (c.in_ok-ahead-2.ensures.count ∙ ap (λ (n : ℕ). counts (g.T.Reasons.trail c.args.source.now).entries n (set c.loop-ahead.marks.cells c.entry_at-entry.result.lit.var Resolved) c.entry_at-entry.result.lit.var (reason_at (g.T.Reasons.named c.args.source.now) (g.T.Reasons.trail c.args.source.now).entries c.entry_at-entry.result.lit.var).lits) c.requires.level) in
    omega (arith, fits)

pub loop-ahead-preserved-then-is_met : goal.loop-ahead-preserved-then-is_met
loop-ahead-preserved-then-is_met g c = record {
  walking = step-next (g.T.Reasons.trail c.args.source.now) c.requires.trail (g.T.Reasons.named c.args.source.now) (g.T.Reasons.lives c.args.source.now) c.requires.reasons
      (g.T.Reasons.named c.args.source.now c.args.conflict) c.loop-ahead.marks.cells c.loop-ahead.hints.items c.loop-ahead.place c.loop-ahead.ahead c.loop-ahead.invariant.walking
      c.entry_at-entry.result c.entry_at-entry.ensures (met-is _ (sym c.is_met.ensures ∙ c.if-is_met.true)) (omega arith)
      c.resolve.new.marks.cells c.resolve.new.hints.items c.in_ok-ahead-2.field-0 c.in_ok-ahead-2.ensures.marks c.in_ok-ahead-2.ensures.hints
      (c.in_ok-ahead-2.ensures.count ∙ ap (λ (n : ℕ). counts (g.T.Reasons.trail c.args.source.now).entries n (set c.loop-ahead.marks.cells c.entry_at-entry.result.lit.var Resolved) c.entry_at-entry.result.lit.var (reason_at (g.T.Reasons.named c.args.source.now) (g.T.Reasons.trail c.args.source.now).entries c.entry_at-entry.result.lit.var).lits) c.requires.level);
  size = c.resolve.ensures.size ∙ c.loop-ahead.invariant.size;
}

pub loop-ahead-preserved : goal.loop-ahead-preserved
loop-ahead-preserved g c = record {
  walking = step-pass (g.T.Reasons.trail c.args.source.now) c.requires.trail (g.T.Reasons.named c.args.source.now) (g.T.Reasons.lives c.args.source.now) c.requires.reasons
      (g.T.Reasons.named c.args.source.now c.args.conflict) c.loop-ahead.marks.cells c.loop-ahead.hints.items c.loop-ahead.place c.loop-ahead.ahead c.loop-ahead.invariant.walking
      c.entry_at-entry.result c.entry_at-entry.ensures (met-isn't _ (sym c.is_met.ensures ∙ c.if-is_met.false));
  size = c.loop-ahead.invariant.size;
}
