use Rattle.std.proofs.Common.{rules}
use Rattle.std.proofs.lemmas.List.Sorted.{answers_always, IsPermutation-map}
use Rattle.decompose.proofs.GroupLaws.{marked-stable, values-sorted}
use Rattle.decompose.proofs.by_value.sort_by_value.Goals as goal

pub returns-clause-permutation : goal.returns-clause-permutation
returns-clause-permutation c = IsPermutation-map (λ m. m.0) _ _ c.in_ok-sort_by_key.ensures.permutation

pub returns-clause-sorted : goal.returns-clause-sorted
returns-clause-sorted c = values-sorted _ (c.in_ok-sort_by_key.ensures.sorted (λ m. m.0) (answers_always _ _ _ (λ f a r g h. search rules)))

pub returns-clause-marked : goal.returns-clause-marked
returns-clause-marked c = marked-stable _ _ (c.in_ok-sort_by_key.ensures.stable (λ m. m.0) (answers_always _ _ _ (λ f a r g h. search rules)))
