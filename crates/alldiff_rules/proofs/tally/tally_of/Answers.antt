use Rattle.std.proofs.Common.{◌≡◌, ◌<◌, ℕ, ℤ, pos, length, get_or, to_z, of_z, refl, ap, subst, ◌∙◌}
use Rattle.std.specs.Prelude.{Some}
use Rattle.std.specs.Option.{is_some}
use Rattle.std.specs.Int.{w128}
use Rattle.std.specs.BTreeMap.{get, Updates}
use Rattle.std.specs.Ordering.{int_cmp}
use Rattle.core_forms.proofs.Bounds.{small_bits}
use Rattle.alldiff_rules.specs.Table.{joined}
use Rattle.alldiff_rules.proofs.TallyLaws.{entry-shown, entry-count, few-step, small-at, tally-done}
use Rattle.alldiff_rules.proofs.tally.tally_of.Goals as goal

pub loop-value-preserved : goal.loop-value-preserved
loop-value-preserved c =
    let es = c.args.entries.now in
    let i = c.loop-value.value-index in
    let values = c.loop-value.values in
    let v : ℤ = (get_or es i (pos 0, 0)).0 in
    let k : ℕ = (get_or es i (pos 0, 0)).1 in
    let lt : i < length es = c.loop-value-test.true in
    let key : to_z w128 (of_z w128 v) ≡ v = small_bits v (small-at es i (pos 0, 0) lt c.requires) in
    let updates : Updates int_cmp values c.put.new.table v (Some (joined (get int_cmp values v) k)) =
    subst (λ (u : ℤ). Updates int_cmp values c.put.new.table u (Some (joined (get int_cmp values u) k))) key c.in_ok-counted.ensures.updates in
    let seen : c.in_ok-counted.counted ≡ is_some (get int_cmp values v) = c.in_ok-counted.ensures.there ∙ ap (λ (u : ℤ). is_some (get int_cmp values u)) key in
    record {
      shown = entry-shown es i values c.loop-value.invariant.shown v k (pos 0, 0) lt refl c.put.new.table updates;
      left = entry-count es i values c.loop-value.invariant.shown v k (pos 0, 0) lt refl c.loop-value.count c.one_more-count.result c.in_ok-counted.counted seen c.one_more-count.ensures c.loop-value.invariant.left;
      few = few-step c.in_ok-counted.counted c.loop-value.count c.one_more-count.result i c.one_more-count.ensures c.loop-value.invariant.few;
    }

pub returns : goal.returns
returns c =
    tally-done c.args.entries.now c.loop-value.value-index c.loop-value.values c.loop-value.count c.loop-value-test.false c.loop-value.invariant.shown c.loop-value.invariant.left
