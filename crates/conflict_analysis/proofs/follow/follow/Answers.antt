use Rattle.std.proofs.Common.{◌≡◌, ℕ, ◌+◌, ◌-◌, ◌≤◌, length, get_or, sym, ◌∙◌, subst, arith}
use Rattle.conflict_analysis.specs.Resolving.{IsFollowing}
use Rattle.conflict_analysis.proofs.Cells.{met-is, met-isn't}
use Rattle.conflict_analysis.proofs.Walks.{reason-inside}
use Rattle.conflict_analysis.proofs.Follows.{ordered-low, ordered-reason, following-pass, following-next}
use Rattle.conflict_analysis.proofs.follow.follow.Goals as goal

pub is_met-requires : goal.is_met-requires
is_met-requires g c =
    let k : c.loop-k.k ≤ length c.args.order.now = c.loop-k.auto.k in
    let low = ordered-low (g.T.Reasons.trail c.args.source.now) c.requires.trail (g.T.Reasons.named c.args.source.now) c.args.marks.now.cells c.args.minimiser.now.cells c.args.order.now c.requires.ordered (c.loop-k.k - 1) (omega (arith, c.loop-k-test.true)) in
    omega (arith, low, c.loop-k.invariant.size, c.requires.size)

pub resolve-requires-clause-reason : goal.resolve-requires-clause-reason
resolve-requires-clause-reason g c =
    let k : c.loop-k.k ≤ length c.args.order.now = c.loop-k.auto.k in
    ordered-reason (g.T.Reasons.trail c.args.source.now) c.requires.trail (g.T.Reasons.named c.args.source.now) c.args.marks.now.cells c.args.minimiser.now.cells c.args.order.now c.requires.ordered (c.loop-k.k - 1) (omega (arith, c.loop-k-test.true))
    (g.T.Reasons.lives c.args.source.now) c.requires.reasons

pub resolve-requires-clause-lits : goal.resolve-requires-clause-lits
resolve-requires-clause-lits g c =
    let k : c.loop-k.k ≤ length c.args.order.now = c.loop-k.auto.k in
    reason-inside (g.T.Reasons.trail c.args.source.now) c.requires.trail (g.T.Reasons.named c.args.source.now) (g.T.Reasons.lives c.args.source.now) c.requires.reasons
    (g.T.Reasons.named c.args.source.now 0) c.loop-k.marks.cells (c.loop-k.invariant.size ∙ c.requires.size) (get_or c.args.order.now (c.loop-k.k - 1) 0)
    (ordered-reason (g.T.Reasons.trail c.args.source.now) c.requires.trail (g.T.Reasons.named c.args.source.now) c.args.marks.now.cells c.args.minimiser.now.cells c.args.order.now c.requires.ordered (c.loop-k.k - 1) (omega (arith, c.loop-k-test.true))
    (g.T.Reasons.lives c.args.source.now) c.requires.reasons)

pub loop-k-preserved-in_ok-resolve : goal.loop-k-preserved-in_ok-resolve
loop-k-preserved-in_ok-resolve g c =
    let k : c.loop-k.k ≤ length c.args.order.now = c.loop-k.auto.k in
    let back : c.loop-k.k ≡ (c.loop-k.k - 1) + 1 = omega (arith, c.loop-k-test.true) in
    record {
      following = λ spare bound conflict s.
          following-next (g.T.Reasons.trail c.args.source.now) c.requires.trail (g.T.Reasons.named c.args.source.now) (g.T.Reasons.lives c.args.source.now) c.requires.reasons
          c.args.marks.now.cells c.args.minimiser.now.cells c.args.order.now c.requires.ordered spare bound conflict c.loop-k.marks.cells c.loop-k.hints.items (c.loop-k.k - 1) (omega (arith, c.loop-k-test.true))
          (subst (λ (n : ℕ). IsFollowing (g.T.Reasons.trail c.args.source.now).entries (g.T.Reasons.named c.args.source.now) spare bound conflict c.args.minimiser.now.cells c.args.order.now c.loop-k.marks.cells c.loop-k.hints.items n) back
          (c.loop-k.invariant.following spare bound conflict s))
          (met-is _ (sym c.is_met.ensures ∙ c.if-is_met.true)) (c.loop-k.invariant.size ∙ c.requires.size)
          c.resolve.new.marks.cells c.resolve.new.hints.items c.in_ok-resolve.ensures.marks c.in_ok-resolve.ensures.hints;
      size = c.resolve.ensures.size ∙ c.loop-k.invariant.size;
    }

pub loop-k-preserved : goal.loop-k-preserved
loop-k-preserved g c =
    let k : c.loop-k.k ≤ length c.args.order.now = c.loop-k.auto.k in
    let back : c.loop-k.k ≡ (c.loop-k.k - 1) + 1 = omega (arith, c.loop-k-test.true) in
    record {
      following = λ spare bound conflict s.
          following-pass (g.T.Reasons.trail c.args.source.now) c.requires.trail (g.T.Reasons.named c.args.source.now) (g.T.Reasons.lives c.args.source.now) c.requires.reasons
          c.args.marks.now.cells c.args.minimiser.now.cells c.args.order.now c.requires.ordered spare bound conflict c.loop-k.marks.cells c.loop-k.hints.items (c.loop-k.k - 1) (omega (arith, c.loop-k-test.true))
          (subst (λ (n : ℕ). IsFollowing (g.T.Reasons.trail c.args.source.now).entries (g.T.Reasons.named c.args.source.now) spare bound conflict c.args.minimiser.now.cells c.args.order.now c.loop-k.marks.cells c.loop-k.hints.items n) back
          (c.loop-k.invariant.following spare bound conflict s))
          (met-isn't _ (sym c.is_met.ensures ∙ c.if-is_met.false));
      size = c.loop-k.invariant.size;
    }

pub returns-clause-followed : goal.returns-clause-followed
returns-clause-followed g c = λ spare bound conflict s.
    let z : c.loop-k.k ≡ 0 = omega (arith, c.loop-k-test.false) in
    subst (λ (n : ℕ). IsFollowing (g.T.Reasons.trail c.args.source.now).entries (g.T.Reasons.named c.args.source.now) spare bound conflict c.args.minimiser.now.cells c.args.order.now c.loop-k.marks.cells c.loop-k.hints.items n) z
    (c.loop-k.invariant.following spare bound conflict s)
