use Rattle.std.proofs.Common.{sym, subst}
use Rattle.core_forms.specs.WellFormed.{IsSound}
use Rattle.alldiff_rules.proofs.Sounds.{sound-at}
use Rattle.equation_runs.proofs.twins.choice_at.Goals as goal

pub low-requires : goal.low-requires
low-requires c =
    (subst IsSound (sym c.index-ints-place.is) (sound-at c.args.ints.now c.args.place c.index-ints-place.result c.requires.ints c.requires.sound)).0
