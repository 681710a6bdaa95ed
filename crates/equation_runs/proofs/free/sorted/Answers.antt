use Rattle.std.specs.Ordering.{int_eq}
use Rattle.std.proofs.lemmas.List.Filters.{dedup_is}
use Rattle.core_forms.proofs.Ascending.{ascending-from_sort}
use Rattle.equation_runs.proofs.free.sorted.Goals as goal

pub returns : goal.returns
returns c =
    ascending-from_sort c.args.vars.items c.sort_unstable.new.self.items c.dedup.new.self.items c.sort_unstable.ensures.permutation c.sort_unstable.ensures.sorted (dedup_is int_eq _ _ c.dedup.ensures.filtered)
