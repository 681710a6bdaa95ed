use Rattle.std.proofs.Common.{◌≡◌, ℤ, true, rules, to_z, of_z, subst, ◌∙◌}
use Rattle.std.specs.BTreeSet.{Updates}
use Rattle.std.specs.Ordering.{int_cmp}
use mir.Syntax.{w128}
use Rattle.std.proofs.lemmas.Int.{to_z-of_z}
use Rattle.order_ints.specs.OrderRange.{low_of, high_of}
use Rattle.equation_runs.proofs.TwinTables.{both-put}
use Rattle.equation_runs.proofs.twins.put_ends.Goals as goal

pub returns : goal.returns
returns c =
    let a = c.args.a.now in
    let old = c.args.shared.now in
    let mid = c.insert.new.self in
    let new = c.insert-2.new.self in
    let low : to_z w128 (of_z w128 c.low.result) ≡ low_of a = to_z-of_z w128 c.low.result (search rules) ∙ c.low.ensures.value in
    let high : to_z w128 (of_z w128 c.high.result) ≡ high_of a = to_z-of_z w128 c.high.result (search rules) ∙ c.high.ensures.value in
    λ v. both-put old mid new (low_of a) (high_of a) v
    (subst (λ (w : ℤ). Updates int_cmp old mid w true) low c.in_ok-insert.ensures.updates)
    (subst (λ (w : ℤ). Updates int_cmp mid new w true) high c.in_ok-insert-2.ensures.updates)
