use Rattle.std.proofs.Common.{◌≡◌, ◌∙◌, ◌||◌, ap, ℤ, Option}
use Rattle.std.specs.Int.{w128}
use Rattle.std.specs.BTreeMap.{get}
use Rattle.std.specs.Ordering.{int_cmp}
use Rattle.std.proofs.lemmas.Int.{to_z-of_z}
use Rattle.alldiff_rules.specs.declared.table.Places.{Places}
use Rattle.alldiff_rules.specs.Table.{has_others}
use Rattle.alldiff_rules.proofs.narrow.Narrow.is_held.Goals as goal

pub returns : goal.returns
returns c =
    let key = to_z-of_z w128 c.args.value c.ranges.value in
    let low : c.has_others-low.result ≡ has_others 2 c.args.place (get int_cmp c.args.self.now.lows c.args.value) =
    c.has_others-low.ensures ∙ ap (λ (o : Option Places). has_others 2 c.args.place o) (c.found.ensures ∙ ap (λ (v : ℤ). get int_cmp c.args.self.now.lows v) key) in
    let high : c.has_others-high.result ≡ has_others 2 c.args.place (get int_cmp c.args.self.now.highs c.args.value) =
    c.has_others-high.ensures ∙ ap (λ (o : Option Places). has_others 2 c.args.place o) (c.found-2.ensures ∙ ap (λ (v : ℤ). get int_cmp c.args.self.now.highs v) key) in
    c.either.ensures ∙ (λ i. low i || high i)
