use Rattle.std.proofs.Common.{◌≡◌, ◌≤◌, inl, inr, List, ◌∷◌, ◌++◌, [], length, sym, ap, ◌∙◌, arith}
use Rattle.order_ints.specs.declared.literal.Lit.{Lit}
use Rattle.conflict_analysis.proofs.Cells.{met-is, met-isn't}
use Rattle.conflict_analysis.proofs.Collects.{collecting-alone, collecting-two, collecting-skip, collecting-push, collected}
use Rattle.conflict_analysis.proofs.collect.collect.Goals as goal
use Rattle.conflict_analysis.proofs.collect.collect.Goals.{then-jump-gt0+in_ok-push-2, else-jump-gt0, then-var-first+then-var-best+then-is_met+in_ok-push-3, else-var-first, else-var-first-via-then-var-first+then-var-best+else-is_met, else-var-first-via-then-var-first+else-var-best, else-var-first-via-else-var-first}

pub loop-var-init : goal.loop-var-init
loop-var-init g c =
    let a : c.push.new.self.items ≡ c.args.first ∷ [] = c.in_ok-push.ensures.items ∙ ap (λ (xs : List Lit). xs ++ c.args.first ∷ []) c.requires.empty in
    elim c.if-jump-gt0.branch [
      | then-jump-gt0+in_ok-push-2 w ↦
          rw w.lits-is (collecting-two (g.T.Reasons.trail c.args.source.now) c.requires.trail c.args.met.now.cells c.args.first c.requires.left c.requires.first c.farthest-best.result.0 c.farthest-best.result.1 c.farthest-best.ensures c.touched-var-items.result.now c.touched-var-items.ensures.listed w.if-jump-gt0.true w.push-then-jump-gt0.new.self.items (w.in_ok-push-2.ensures.items ∙ ap (λ (xs : List Lit). xs ++ w.false_lit.result ∷ []) a ∙ ap (λ (l : Lit). c.args.first ∷ l ∷ []) w.false_lit.ensures))
      | else-jump-gt0 w ↦ rw w.lits-is (collecting-alone (g.T.Reasons.trail c.args.source.now) c.requires.trail c.args.met.now.cells c.args.first c.requires.left c.requires.first c.farthest-best.result.0 c.farthest-best.result.1 c.farthest-best.ensures c.touched-var-items.result.now c.touched-var-items.ensures.listed (omega (arith, w.if-jump-gt0.false)) c.push.new.self.items a)
    ]

pub loop-var-preserved : goal.loop-var-preserved
loop-var-preserved g c = elim c.if-var-first.branch [
  | then-var-first+then-var-best+then-is_met+in_ok-push-3 w ↦
      rw w.lits-is (collecting-push (g.T.Reasons.trail c.args.source.now) c.requires.trail c.args.met.now.cells c.args.first c.requires.left c.requires.first c.farthest-best.result.0 c.farthest-best.result.1 c.farthest-best.ensures c.touched-var-items.result.now c.touched-var-items.ensures.listed c.loop-var.var-index c.loop-var-test.true c.loop-var.lits.items c.loop-var.invariant w.if-var-first.true w.if-var-best.true (met-is _ (sym w.is_met.ensures ∙ w.if-is_met.true))
      w.push-then-is_met.new.self.items (w.in_ok-push-3.ensures.items ∙ ap (λ (l : Lit). c.loop-var.lits.items ++ l ∷ []) w.false_lit-then-is_met.ensures))
  | else-var-first w ↦
      rw w.lits-is (collecting-skip (g.T.Reasons.trail c.args.source.now) c.requires.trail c.args.met.now.cells c.args.first c.requires.left c.requires.first c.farthest-best.result.0 c.farthest-best.result.1 c.farthest-best.ensures c.touched-var-items.result.now c.touched-var-items.ensures.listed c.loop-var.var-index c.loop-var-test.true c.loop-var.lits.items c.loop-var.invariant
      (elim w.else-var-first.branch [
        | else-var-first-via-then-var-first+then-var-best+else-is_met w' ↦ inr (inr (met-isn't _ (sym w'.is_met.ensures ∙ w'.if-is_met.false)))
        | else-var-first-via-then-var-first+else-var-best w' ↦ inr (inl w'.if-var-best.false)
        | else-var-first-via-else-var-first w' ↦ inl w'.if-var-first.false
      ]))
]

pub returns : goal.returns
returns g c = collected (g.T.Reasons.trail c.args.source.now) c.requires.trail c.args.met.now.cells c.args.first c.requires.left c.requires.first c.farthest-best.result.0 c.farthest-best.result.1 c.farthest-best.ensures c.touched-var-items.result.now c.touched-var-items.ensures.listed c.loop-var.lits.items c.loop-var.var-index (let e : c.loop-var.var-index ≤ length c.touched-var-items.result.now = c.loop-var.auto.var-index-end in omega (arith, c.loop-var-test.false)) c.loop-var.invariant
