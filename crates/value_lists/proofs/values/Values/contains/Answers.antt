use Rattle.std.proofs.Common.{w64, to_z, of_z, ◌∙◌, ap}
use Rattle.std.specs.List.{list_any}
use Rattle.std.specs.Ordering.{int_eq}
use Rattle.std.proofs.lemmas.Int.{to_z-of_z}
use Rattle.value_lists.proofs.Searching.{found-same}
use Rattle.value_lists.proofs.values.Values.contains.Goals as goal

pub returns : goal.returns
returns c =
    c.is_ok.ensures.value
    ∙ (found-same c.as_slice.result.now c.args.value (to_z w64 (of_z w64 c.args.value)) c.binary_search.result (to_z-of_z w64 c.args.value c.ranges.value) c.as_slice.ensures.ascending c.binary_search.ensures.position
    ∙ ap (list_any (λ v. int_eq v c.args.value)) c.as_slice.ensures.value)
