use Rattle.std.proofs.Common.{◌≡◌, false, sym, subst}
use Rattle.opb_front.specs.Steps.{Draft, sum_passes}
use Rattle.opb_front.proofs.Kept.{low_kept}
use Rattle.opb_front.proofs.draft.OpbDraft.add_number.Goals as goal

pub invariant_of-self-else-number-ge0 : goal.invariant_of-self-else-number-ge0
invariant_of-self-else-number-ge0 c =
    low_kept c.self.inside.low c.self.inside.high c.args.number c.ranges.number c.self.invariant c.if-number-ge0.false
    (subst (λ (d : Draft). sum_passes d.low d.high c.args.number ≡ false) (sym c.self.view_is) c.requires)
