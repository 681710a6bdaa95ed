use Rattle.std.proofs.Common.{sym, subst}
use Rattle.core_forms.specs.WellFormed.{IsSound}
use Rattle.alldiff_rules.proofs.Sounds.{sound-at}
use Rattle.equation_runs.proofs.twins.share.Goals as goal

pub put_ends-requires : goal.put_ends-requires
put_ends-requires c =
    (subst IsSound (sym c.index-ints-place.is) (sound-at c.args.ints.now c.args.place c.index-ints-place.result c.requires.place c.requires.sound)).0
