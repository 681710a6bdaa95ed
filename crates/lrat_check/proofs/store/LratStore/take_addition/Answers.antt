use Rattle.std.proofs.Common.{ap, sym, ◌∙◌}
use Rattle.literal_trail.specs.Trail.{Trail}
use Rattle.lrat_check.specs.Stored.{so_far}
use Rattle.lrat_check.proofs.Steps.{after-shown, more-below}
use Rattle.lrat_check.proofs.store.LratStore.take_addition.Goals as goal

pub returns-clause-taken : goal.returns-clause-taken
returns-clause-taken c =
    after-shown c.args.cnf.now (so_far c.args.self.now) c.args.id c.args.lits.now c.args.hints.now (sym c.is_new.ensures ∙ c.if-not-is_new.false) (sym c.in_ok-is_shown.ensures.shown ∙ c.if-not-branch.false)
    c.keep.new.self.added.entries c.keep.new.self.refuted c.in_ok-keep.ensures.added c.in_ok-keep.ensures.refuted

pub returns-clause-holds : goal.returns-clause-holds
returns-clause-holds c = λ _. record {
  vars = ap (λ (t : Trail). t.vars) c.in_ok-keep.ensures.trail ∙ c.in_ok-is_shown.ensures.vars ∙ c.requires.holds.vars;
  free = ap (λ (t : Trail). t.entries) c.in_ok-keep.ensures.trail ∙ c.in_ok-is_shown.ensures.free;
  below = more-below c.args.cnf.now (so_far c.args.self.now) c.args.id c.args.lits.now c.args.hints.now (sym c.is_new.ensures ∙ c.if-not-is_new.false) (sym c.in_ok-is_shown.ensures.shown ∙ c.if-not-branch.false)
      c.keep.new.self.added.entries c.in_ok-keep.ensures.added c.requires.holds.below;
}
