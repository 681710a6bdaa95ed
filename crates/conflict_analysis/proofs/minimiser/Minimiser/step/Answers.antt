use Rattle.std.proofs.Common.{◌<◌, ◌≤◌, List, ◌∷◌, ◌++◌, [], length, sym, ap, ◌∙◌, arith}
use Rattle.proof_check.specs.Named.{Named}
use Rattle.conflict_analysis.specs.declared.minimiser.Frame.{Frame}
use Rattle.conflict_analysis.proofs.Cells.{blank-is, blank-isn't}
use Rattle.conflict_analysis.proofs.Steps.{stepped-cover, stepped-fail, stepped-enter, stepped-up}
use Rattle.conflict_analysis.proofs.minimiser.Minimiser.step.Goals as goal

pub returns-then-place-len : goal.returns-then-place-len
returns-then-place-len g c = record {
  stepped = stepped-cover (g.T.Reasons.trail c.args.source.now) c.requires.trail (g.T.Reasons.named c.args.source.now) (g.T.Reasons.lives c.args.source.now) c.requires.reasons
      c.args.met.now.cells c.args.self.now.marks.cells c.args.self.now.stack.items c.args.self.now.order.items c.args.frame c.requires.seeking c.requires.size c.reason-clause.ensures.var
      c.lits-lits.result (c.lits-lits.ensures ∙ ap (λ (r : Named). r.lits) c.reason-clause.ensures.named) c.first_uncovered-place.result c.first_uncovered-place.ensures.inside c.first_uncovered-place.ensures.covered
      (c.if-place-len.true ∙ c.len.ensures) c.cover.new.self.marks.cells c.cover.new.self.stack.items c.cover.new.self.order.items
      c.in_ok-cover.ensures.marks c.in_ok-cover.ensures.stack c.in_ok-cover.ensures.order;
  size = c.cover.ensures.size;
}

pub returns-then-not-is_blank : goal.returns-then-not-is_blank
returns-then-not-is_blank g c =
    let short : c.first_uncovered-place.result < length c.lits-lits.result = (let i : c.first_uncovered-place.result ≤ length c.lits-lits.result = c.first_uncovered-place.ensures.inside in omega (arith, c.len.ensures, c.if-place-len.false)) in
    record {
      stepped = stepped-fail (g.T.Reasons.trail c.args.source.now) c.requires.trail (g.T.Reasons.named c.args.source.now) (g.T.Reasons.lives c.args.source.now) c.requires.reasons
          c.args.met.now.cells c.args.self.now.marks.cells c.args.self.now.stack.items c.args.self.now.order.items c.args.frame c.requires.seeking c.requires.size c.reason-clause.ensures.var
          c.lits-lits.result (c.lits-lits.ensures ∙ ap (λ (r : Named). r.lits) c.reason-clause.ensures.named) c.first_uncovered-place.result c.first_uncovered-place.ensures.inside c.first_uncovered-place.ensures.covered
          short (c.first_uncovered-place.ensures.stops short) c.at-next.result c.at-next.ensures (blank-isn't _ (sym c.is_blank.ensures ∙ c.if-not-is_blank.true))
          c.give_up.new.self.marks.cells c.give_up.new.self.stack.items c.give_up.new.self.order.items
          c.in_ok-give_up.ensures.marks c.in_ok-give_up.ensures.stack c.in_ok-give_up.ensures.order;
      size = c.give_up.ensures.size;
    }

pub returns-in_ok-enter : goal.returns-in_ok-enter
returns-in_ok-enter g c =
    let short : c.first_uncovered-place.result < length c.lits-lits.result = (let i : c.first_uncovered-place.result ≤ length c.lits-lits.result = c.first_uncovered-place.ensures.inside in omega (arith, c.len.ensures, c.if-place-len.false)) in
    record {
      stepped = stepped-enter (g.T.Reasons.trail c.args.source.now) c.requires.trail (g.T.Reasons.named c.args.source.now) (g.T.Reasons.lives c.args.source.now) c.requires.reasons
          c.args.met.now.cells c.args.self.now.marks.cells c.args.self.now.stack.items c.args.self.now.order.items c.args.frame c.requires.seeking c.requires.size c.reason-clause.ensures.var
          c.lits-lits.result (c.lits-lits.ensures ∙ ap (λ (r : Named). r.lits) c.reason-clause.ensures.named) c.first_uncovered-place.result c.first_uncovered-place.ensures.inside c.first_uncovered-place.ensures.covered
          short (c.first_uncovered-place.ensures.stops short) c.at-next.result c.at-next.ensures (blank-is _ (sym c.is_blank.ensures ∙ c.if-not-is_blank.false))
          (c.may_enter.ensures.yes c.if-may_enter.true)
          c.enter.new.self.marks.cells c.enter.new.self.stack.items c.enter.new.self.order.items
          c.in_ok-enter.ensures.marks (c.in_ok-enter.ensures.stack ∙ ap (λ (fs : List Frame). fs ++ record { var = c.at-next.result.var; place = 0 } ∷ []) c.in_ok-push.ensures.items) c.in_ok-enter.ensures.order;
      size = c.enter.ensures.size;
    }

pub returns-in_ok-give_up-2 : goal.returns-in_ok-give_up-2
returns-in_ok-give_up-2 g c =
    let short : c.first_uncovered-place.result < length c.lits-lits.result = (let i : c.first_uncovered-place.result ≤ length c.lits-lits.result = c.first_uncovered-place.ensures.inside in omega (arith, c.len.ensures, c.if-place-len.false)) in
    record {
      stepped = stepped-up (g.T.Reasons.trail c.args.source.now) c.requires.trail (g.T.Reasons.named c.args.source.now) (g.T.Reasons.lives c.args.source.now) c.requires.reasons
          c.args.met.now.cells c.args.self.now.marks.cells c.args.self.now.stack.items c.args.self.now.order.items c.args.frame c.requires.seeking c.requires.size c.reason-clause.ensures.var
          c.lits-lits.result (c.lits-lits.ensures ∙ ap (λ (r : Named). r.lits) c.reason-clause.ensures.named) c.first_uncovered-place.result c.first_uncovered-place.ensures.inside c.first_uncovered-place.ensures.covered
          short (c.first_uncovered-place.ensures.stops short) c.at-next.result c.at-next.ensures (blank-is _ (sym c.is_blank.ensures ∙ c.if-not-is_blank.false))
          (c.may_enter.ensures.no c.if-may_enter.false)
          c.give_up-else-may_enter.new.self.marks.cells c.give_up-else-may_enter.new.self.stack.items c.give_up-else-may_enter.new.self.order.items
          c.in_ok-give_up-2.ensures.marks (c.in_ok-give_up-2.ensures.stack ∙ c.in_ok-push.ensures.items) c.in_ok-give_up-2.ensures.order;
      size = c.give_up-else-may_enter.ensures.size;
    }
