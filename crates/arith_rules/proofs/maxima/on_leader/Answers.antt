use Rattle.std.proofs.Common.{◌≡◌, ◌++◌, to_z, of_z, rules, sym, ◌∙◌}
use Rattle.std.specs.Prelude.{int_lt}
use mir.Syntax.{w128}
use Rattle.std.proofs.lemmas.Int.{to_z-of_z}
use Rattle.order_ints.specs.OrderRange.{high_of}
use Rattle.core_forms.proofs.Bounds.{small_bits}
use Rattle.rule_base.proofs.PairLaws.{front-found, back-found, only_if-found}
use Rattle.arith_rules.specs.Links.{alike_where, alike_back}
use Rattle.arith_rules.proofs.maxima.on_leader.Goals as goal

pub returns-then-is_some : goal.returns-then-is_some
returns-then-is_some c =
    let s = c.args.sought in
    let n = c.args.least.now in
    let a = c.args.a.now in
    let z = c.args.c.now in
    let up = alike_where (int_lt n) z a in
    let back = alike_back (int_lt n) a z in
    let above : int_lt (to_z w128 (of_z w128 n)) (to_z w128 (of_z w128 c.high.result)) ≡ int_lt n (high_of a) =
    λ i. int_lt (to_z-of_z w128 n (search rules) i) ((small_bits c.high.result c.high.ensures.range ∙ c.high.ensures.value) i) in
    only_if-found s (int_lt n (high_of a)) (up ++ back) c.alike_above-upwards.result (sym above ∙ c.if-least-high.true)
    (front-found s up back c.alike_above-upwards.result c.alike_above-upwards.ensures (sym c.is_some.ensures ∙ c.if-is_some.true))

pub returns-then-least-high : goal.returns-then-least-high
returns-then-least-high c =
    let s = c.args.sought in
    let n = c.args.least.now in
    let a = c.args.a.now in
    let z = c.args.c.now in
    let up = alike_where (int_lt n) z a in
    let back = alike_back (int_lt n) a z in
    let above : int_lt (to_z w128 (of_z w128 n)) (to_z w128 (of_z w128 c.high.result)) ≡ int_lt n (high_of a) =
    λ i. int_lt (to_z-of_z w128 n (search rules) i) ((small_bits c.high.result c.high.ensures.range ∙ c.high.ensures.value) i) in
    only_if-found s (int_lt n (high_of a)) (up ++ back) c.alike_back.result (sym above ∙ c.if-least-high.true)
    (back-found s up back c.alike_above-upwards.result c.alike_back.result c.alike_above-upwards.ensures (sym c.is_some.ensures ∙ c.if-is_some.false) c.alike_back.ensures)
