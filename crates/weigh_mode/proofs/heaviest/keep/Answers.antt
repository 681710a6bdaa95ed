use Rattle.std.proofs.Common.{ap, take, ◌∙◌}
use Rattle.std.specs.Prelude.{insert}
use Rattle.weigh_mode.specs.Kept.{place_of}
use Rattle.weigh_mode.proofs.Sorting.{put_at}
use Rattle.weigh_mode.proofs.heaviest.keep.Goals as goal

pub returns : goal.returns
returns c =
    let at = c.place_of-place.ensures.place ∙ ap (place_of c.args.item.weight) c.as_slice.ensures.value in
    c.truncate.ensures.items
    ∙ ap (take 10) (c.in_ok-insert.ensures.items ∙ ap (λ i. insert c.args.kept.now.items i c.args.item) at ∙ put_at c.args.item c.args.kept.now.items)
