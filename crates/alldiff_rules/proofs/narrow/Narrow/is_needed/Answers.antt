use Rattle.std.proofs.Common.{◌≡◌, ◌∙◌, ◌||◌, ap, ℤ}
use Rattle.std.specs.Int.{w128}
use Rattle.std.specs.BTreeMap.{get}
use Rattle.std.specs.Ordering.{int_cmp}
use Rattle.std.proofs.lemmas.Int.{to_z-of_z}
use Rattle.alldiff_rules.specs.Table.{has_others}
use Rattle.alldiff_rules.proofs.narrow.Narrow.is_needed.Goals as goal

pub returns : goal.returns
returns c =
    let key = to_z-of_z w128 c.args.value c.ranges.value in
    let constant : c.is_constant-constant.result ≡ has_others 1 c.args.place (get int_cmp c.args.self.now.constants c.args.value) =
    c.is_constant-constant.ensures ∙ ap (λ (v : ℤ). has_others 1 c.args.place (get int_cmp c.args.self.now.constants v)) key in
    let held : c.is_held-held.result ≡ (has_others 2 c.args.place (get int_cmp c.args.self.now.lows c.args.value) || has_others 2 c.args.place (get int_cmp c.args.self.now.highs c.args.value)) =
    c.is_held-held.ensures ∙ ap (λ (v : ℤ). has_others 2 c.args.place (get int_cmp c.args.self.now.lows v) || has_others 2 c.args.place (get int_cmp c.args.self.now.highs v)) key in
    c.either.ensures ∙ (λ i. constant i || held i)
