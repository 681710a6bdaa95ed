use Rattle.std.proofs.Common.{◌∙◌, ap}
use Rattle.std.specs.Ordering.{int_eq}
use Rattle.std.proofs.lemmas.List.Filters.{dedup_is}
use Rattle.core_forms.specs.Sums.{ascending}
use Rattle.core_forms.proofs.Ascending.{ascending-from_sort}
use Rattle.core_forms.proofs.SumSteps.{walk-done}
use Rattle.core_forms.proofs.fresh_sums.different_sums.Goals as goal

pub returns : goal.returns
returns c =
    ascending-from_sort c.loop-value.sums.items c.sort_unstable.new.self.items c.dedup.new.self.items c.sort_unstable.ensures.permutation c.sort_unstable.ensures.sorted (dedup_is int_eq _ _ c.dedup.ensures.filtered)
    ∙ ap ascending (walk-done c.loop-value.value-iterator _ c.loop-value.sums.items _ c.in-None.ensures.steps.0 c.loop-value.invariant.1)
