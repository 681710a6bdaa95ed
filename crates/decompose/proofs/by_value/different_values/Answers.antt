use Rattle.std.proofs.Common.{◌++◌, append-nil, sym, ap, ◌∙◌}
use Rattle.std.specs.List.{dedup}
use Rattle.std.specs.Ordering.{int_eq}
use Rattle.std.proofs.lemmas.List.{at_drop_all}
use Rattle.std.proofs.lemmas.List.Filters.{dedup_is}
use Rattle.decompose.specs.MarksByValue.{marked_values}
use Rattle.decompose.proofs.by_value.different_values.Goals as goal

pub returns : goal.returns
returns c =
    let values = c.loop-mark.values.items in
    dedup_is int_eq values _ c.dedup.ensures.filtered
    ∙ ap (dedup int_eq) (sym (append-nil values) ∙ sym (at_drop_all (λ ms. values ++ marked_values ms) c.args.marks.now c.loop-mark.mark-index c.loop-mark-test.false) ∙ c.loop-mark.invariant)
