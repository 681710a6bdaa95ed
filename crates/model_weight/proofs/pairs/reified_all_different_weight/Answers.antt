use Rattle.std.proofs.Common.{sym, ap, ◌∙◌, arith}
use Rattle.std.proofs.lemmas.List.Sorted.{length_permutation}
use Rattle.model_weight.specs.Pairs.{weight_of_ascending}
use Rattle.model_weight.proofs.PairSums.{pairs-sorted, reified-is}
use Rattle.model_weight.proofs.pairs.reified_all_different_weight.Goals as goal

pub returns : goal.returns
returns c =
    let old = c.args.steps.items in
    let new = c.sort_unstable.new.self.items in
    let same = pairs-sorted old new c.sort_unstable.ensures.permutation c.sort_unstable.ensures.sorted ∙ ap weight_of_ascending (sym c.deref.ensures.value) in
    let count = c.pair_count-pairs.ensures old (omega (arith, length_permutation old new c.sort_unstable.ensures.permutation)) in
    omega (arith, same, count, reified-is old)
