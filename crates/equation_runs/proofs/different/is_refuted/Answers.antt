use Rattle.std.proofs.Common.{◌≡◌, ℤ, ◌&&◌, rules, to_z, of_z, ap, ◌∙◌}
use Rattle.std.specs.BTreeSet.{contains}
use Rattle.std.specs.Ordering.{int_cmp}
use mir.Syntax.{w128}
use Rattle.std.proofs.lemmas.Int.{to_z-of_z}
use Rattle.order_ints.specs.OrderRange.{low_of}
use Rattle.equation_runs.proofs.different.is_refuted.Goals as goal

pub returns : goal.returns
returns c =
    let low : to_z w128 (of_z w128 c.low.result) ≡ low_of c.args.a.now = to_z-of_z w128 c.low.result (search rules) ∙ c.low.ensures.value in
    let there : c.has-there.result ≡ contains int_cmp c.args.held.now (low_of c.args.a.now) = c.has-there.ensures ∙ ap (λ (v : ℤ). contains int_cmp c.args.held.now v) low in
    c.all_three.ensures ∙ (λ i. c.is_literal-open.ensures.exact i && (c.is_constant-constant.ensures i && there i))
