use Rattle.std.proofs.Common.{sym, subst}
use Rattle.core_forms.specs.WellFormed.{IsSound}
use Rattle.alldiff_rules.specs.Tally.{placed_from}
use Rattle.alldiff_rules.proofs.Sounds.{sound-at}
use Rattle.alldiff_rules.proofs.TallyLaws.{put-member}
use Rattle.alldiff_rules.proofs.tally.placed_values.Goals as goal

pub put_values-requires : goal.put_values-requires
put_values-requires c =
    subst IsSound (sym c.index-ints-place.is) (sound-at c.args.ints.now c.loop-place.place c.index-ints-place.result c.loop-place-test.true c.requires)

pub loop-place-preserved : goal.loop-place-preserved
loop-place-preserved c =
    put-member c.args.ints.now c.loop-place.place c.index-ints-place.result c.loop-place.entries.items c.put_values.new.entries.items (placed_from 0 c.args.ints.now)
    c.loop-place-test.true c.index-ints-place.is c.in_ok-put_values.ensures c.loop-place.invariant
