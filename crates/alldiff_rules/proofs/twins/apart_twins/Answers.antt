use Rattle.std.proofs.Common.{length, None, sym, ◌∙◌}
use Rattle.rule_base.specs.declared.sought.SoughtEquation.TheVariants.{Apart}
use Rattle.alldiff_rules.specs.Twins.{IsShownTwin}
use Rattle.alldiff_rules.proofs.FindsLaws.{stop-place, next-place, all-places}
use Rattle.alldiff_rules.proofs.TwinLaws.{twins-find}
use Rattle.alldiff_rules.proofs.twins.apart_twins.Goals as goal

pub loop-place-preserved : goal.loop-place-preserved
loop-place-preserved c =
    next-place Apart (IsShownTwin c.args.ints.now c.args.conditions.now c.args.choices.now) c.loop-place.place c.apart_at-pair.result (sym c.is_some.ensures ∙ c.if-is_some.false) c.apart_at-pair.ensures c.loop-place.invariant

pub returns-then-is_some : goal.returns-then-is_some
returns-then-is_some c =
    twins-find c.args.ints.now c.args.conditions.now c.args.choices.now c.requires.choices c.requires.lengths c.apart_at-pair.result
    (stop-place Apart (IsShownTwin c.args.ints.now c.args.conditions.now c.args.choices.now) (length c.args.ints.now) c.loop-place.place c.apart_at-pair.result c.loop-place-test.true (sym c.is_some.ensures ∙ c.if-is_some.true) c.apart_at-pair.ensures)

pub returns : goal.returns
returns c =
    twins-find c.args.ints.now c.args.conditions.now c.args.choices.now c.requires.choices c.requires.lengths None
    (all-places Apart (IsShownTwin c.args.ints.now c.args.conditions.now c.args.choices.now) (length c.args.ints.now) c.loop-place.place c.loop-place-test.false c.loop-place.invariant)
