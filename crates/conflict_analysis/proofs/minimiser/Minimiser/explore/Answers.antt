use Rattle.std.proofs.Common.{◌∙◌, arith}
use Rattle.conflict_analysis.specs.declared.marks.Mark.TheVariants.{Entered}
use Rattle.conflict_analysis.specs.Marking.{mark_at}
use Rattle.conflict_analysis.specs.Seeking.{outcome_of}
use Rattle.conflict_analysis.proofs.Seeks.{outcome-real}
use Rattle.conflict_analysis.proofs.Steps.{root-low, root-enter, root-up, root-known, root-stay, root-keep}
use Rattle.conflict_analysis.proofs.minimiser.Minimiser.explore.Goals as goal

pub may_enter-requires-clause-var : goal.may_enter-requires-clause-var
may_enter-requires-clause-var g c = let l = root-low (g.T.Reasons.trail c.args.source.now) c.requires.trail (g.T.Reasons.named c.args.source.now) c.args.met.now.cells c.args.self.now.marks.cells c.args.self.now.order.items c.requires.seeking c.requires.size c.args.root c.requires.root c.requires.blank in omega arith

pub give_up-requires-clause-minimiser : goal.give_up-requires-clause-minimiser
give_up-requires-clause-minimiser g c = let l = root-low (g.T.Reasons.trail c.args.source.now) c.requires.trail (g.T.Reasons.named c.args.source.now) c.args.met.now.cells c.args.self.now.marks.cells c.args.self.now.order.items c.requires.seeking c.requires.size c.args.root c.requires.root c.requires.blank in omega (arith, c.requires.size)

pub give_up-requires-clause-met : goal.give_up-requires-clause-met
give_up-requires-clause-met g c = let l = root-low (g.T.Reasons.trail c.args.source.now) c.requires.trail (g.T.Reasons.named c.args.source.now) c.args.met.now.cells c.args.self.now.marks.cells c.args.self.now.order.items c.requires.seeking c.requires.size c.args.root c.requires.root c.requires.blank in omega (arith, c.requires.met)

pub returns-then-not-may_enter : goal.returns-then-not-may_enter
returns-then-not-may_enter g c = record {
  seeking = root-up (g.T.Reasons.trail c.args.source.now) c.requires.trail (g.T.Reasons.named c.args.source.now) c.args.met.now.cells c.args.self.now.marks.cells c.args.self.now.order.items c.requires.seeking c.requires.size c.args.root c.requires.root c.requires.blank (c.may_enter.ensures.no c.if-not-may_enter.true) c.give_up.new.self.marks.cells c.give_up.new.self.order.items c.in_ok-give_up.ensures.marks c.in_ok-give_up.ensures.order;
  stack = c.in_ok-give_up.ensures.stack ∙ c.requires.stack;
  known = root-known (g.T.Reasons.trail c.args.source.now) c.requires.trail (g.T.Reasons.named c.args.source.now) c.args.met.now.cells c.args.self.now.marks.cells c.args.self.now.order.items c.requires.seeking c.requires.size c.args.root c.requires.root c.requires.blank (outcome_of (mark_at c.args.met.now.cells c.args.root)) c.give_up.new.self.marks.cells (outcome-real _).0 c.in_ok-give_up.ensures.marks;
  stay = root-stay (g.T.Reasons.trail c.args.source.now) c.requires.trail (g.T.Reasons.named c.args.source.now) c.args.met.now.cells c.args.self.now.marks.cells c.args.self.now.order.items c.requires.seeking c.requires.size c.args.root c.requires.root c.requires.blank (outcome_of (mark_at c.args.met.now.cells c.args.root)) c.give_up.new.self.marks.cells (outcome-real _).0 c.in_ok-give_up.ensures.marks;
  keep = root-keep (g.T.Reasons.trail c.args.source.now) c.requires.trail (g.T.Reasons.named c.args.source.now) c.args.met.now.cells c.args.self.now.marks.cells c.args.self.now.order.items c.requires.seeking c.requires.size c.args.root c.requires.root c.requires.blank (outcome_of (mark_at c.args.met.now.cells c.args.root)) c.give_up.new.self.marks.cells c.in_ok-give_up.ensures.marks;
  size = c.give_up.ensures.size;
}

pub enter-requires : goal.enter-requires
enter-requires g c = let l = root-low (g.T.Reasons.trail c.args.source.now) c.requires.trail (g.T.Reasons.named c.args.source.now) c.args.met.now.cells c.args.self.now.marks.cells c.args.self.now.order.items c.requires.seeking c.requires.size c.args.root c.requires.root c.requires.blank in omega (arith, c.requires.size)

pub loop-frame-init : goal.loop-frame-init
loop-frame-init g c = record {
  seeking = root-enter (g.T.Reasons.trail c.args.source.now) c.requires.trail (g.T.Reasons.named c.args.source.now) c.args.met.now.cells c.args.self.now.marks.cells c.args.self.now.order.items c.requires.seeking c.requires.size c.args.root c.requires.root c.requires.blank (c.may_enter.ensures.yes c.if-not-may_enter.false) c.enter.new.self.marks.cells c.enter.new.self.stack.items c.enter.new.self.order.items
      c.args.self.now.stack.items c.in_ok-enter.ensures.marks c.in_ok-enter.ensures.stack c.requires.stack c.in_ok-enter.ensures.order;
  known = root-known (g.T.Reasons.trail c.args.source.now) c.requires.trail (g.T.Reasons.named c.args.source.now) c.args.met.now.cells c.args.self.now.marks.cells c.args.self.now.order.items c.requires.seeking c.requires.size c.args.root c.requires.root c.requires.blank Entered c.enter.new.self.marks.cells (λ z. cc) c.in_ok-enter.ensures.marks;
  stay = root-stay (g.T.Reasons.trail c.args.source.now) c.requires.trail (g.T.Reasons.named c.args.source.now) c.args.met.now.cells c.args.self.now.marks.cells c.args.self.now.order.items c.requires.seeking c.requires.size c.args.root c.requires.root c.requires.blank Entered c.enter.new.self.marks.cells (λ z. cc) c.in_ok-enter.ensures.marks;
  keep = root-keep (g.T.Reasons.trail c.args.source.now) c.requires.trail (g.T.Reasons.named c.args.source.now) c.args.met.now.cells c.args.self.now.marks.cells c.args.self.now.order.items c.requires.seeking c.requires.size c.args.root c.requires.root c.requires.blank Entered c.enter.new.self.marks.cells c.in_ok-enter.ensures.marks;
  size = c.enter.ensures.size;
}
