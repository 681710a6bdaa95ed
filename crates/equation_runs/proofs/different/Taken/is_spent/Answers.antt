use Rattle.std.proofs.Common.{◌≡◌, ℤ, Bool, ◌&&◌, ◌||◌, rules, to_z, of_z, ap, ◌∙◌}
use Rattle.std.specs.Prelude.{nat_le}
use Rattle.std.specs.BTreeSet.{contains}
use Rattle.std.specs.Ordering.{int_cmp}
use mir.Syntax.{w128}
use Rattle.std.proofs.lemmas.Int.{to_z-of_z}
use Rattle.order_ints.specs.OrderRange.{low_of, high_of}
use Rattle.equation_runs.proofs.different.Taken.is_spent.Goals as goal

pub returns : goal.returns
returns c =
    let a = c.args.a.now in
    let taken = λ (v : ℤ). contains int_cmp c.args.self.now.held v || contains int_cmp c.args.self.now.shared v in
    let low : to_z w128 (of_z w128 c.low.result) ≡ low_of a = to_z-of_z w128 c.low.result (search rules) ∙ c.low.ensures.value in
    let high : to_z w128 (of_z w128 c.high.result) ≡ high_of a = to_z-of_z w128 c.high.result (search rules) ∙ c.high.ensures.value in
    let first : c.has-low.result ≡ taken (low_of a) = c.has-low.ensures ∙ ap taken low in
    let second : c.has-high.result ≡ taken (high_of a) = c.has-high.ensures ∙ ap taken high in
    c.all_three.ensures ∙ (λ i. nat_le (c.len.ensures i) 1 && (first i && second i))
