use Rattle.std.proofs.Common.{◌≡◌, ap, ◌∙◌}
use Rattle.std.proofs.lemmas.Result.{IfOk-weaker}
use Rattle.std.specs.List.{dedup}
use Rattle.std.specs.Ordering.{int_eq}
use Rattle.decompose.specs.MarksByValue.{marked_values, grouped, groups_of}
use Rattle.decompose.proofs.GroupLaws.{groups-made}
use Rattle.decompose.proofs.by_value.groups.Goals as goal

pub returns : goal.returns
returns c =
    let sorted = c.sort_by_value.new.marks.items in
    let made = groups-made c.args.marks.items sorted c.in_ok-sort_by_value.ensures.permutation c.in_ok-sort_by_value.ensures.sorted c.in_ok-sort_by_value.ensures.marked in
    let values = c.as_slice-2.ensures.value ∙ c.in_ok-values.ensures ∙ ap (λ ms. dedup int_eq (marked_values ms)) c.as_slice.ensures.value in
    IfOk-weaker c.grouped.result (λ groups. groups.items ≡ grouped c.as_slice-2.result.now c.as_slice-3.result.now) (λ groups. groups.items ≡ groups_of c.args.marks.items)
    (λ groups e. e ∙ ap (λ vs. grouped vs c.as_slice-3.result.now) values ∙ ap (grouped (dedup int_eq (marked_values sorted))) c.as_slice-3.ensures.value ∙ made)
    c.grouped.ensures
