use Rattle.std.proofs.Common.{◌≡◌, ◌∙◌, length, ap, arith}
use Rattle.core_cost.specs.Divisor.{common_divisor_of}
use Rattle.core_forms.specs.Sums.{gap_of}
use Rattle.network_encode.specs.MergeParts.{units_of}
use Rattle.network_encode.proofs.MergeStands.{units-some, units-room}
use Rattle.network_encode.proofs.merges.of_sum.Goals as goal

pub of_units-requires-clause-some : goal.of_units-requires-clause-some
of_units-requires-clause-some c =
    let unit = c.common_divisor-unit.result in
    let is : c.common_divisor-unit.result ≡ gap_of c.args.a c.args.b =
    c.common_divisor-unit.ensures.value ∙ (λ i. common_divisor_of (c.shape.ensures.value i).divisor (c.shape-2.ensures.value i).divisor) in
    let first = c.deref.ensures.value ∙ c.in_ok-first.ensures ∙ ap (units_of unit) c.as_slice.ensures in
    omega (arith, units-some c.args.a c.args.b unit c.requires.network is, ap length first)

pub of_units-requires-clause-room : goal.of_units-requires-clause-room
of_units-requires-clause-room c =
    let unit = c.common_divisor-unit.result in
    let is : c.common_divisor-unit.result ≡ gap_of c.args.a c.args.b =
    c.common_divisor-unit.ensures.value ∙ (λ i. common_divisor_of (c.shape.ensures.value i).divisor (c.shape-2.ensures.value i).divisor) in
    let first = c.deref.ensures.value ∙ c.in_ok-first.ensures ∙ ap (units_of unit) c.as_slice.ensures in
    let second = c.deref-2.ensures.value ∙ c.in_ok-second.ensures ∙ ap (units_of unit) c.as_slice-2.ensures in
    omega (arith, units-room c.args.a c.args.b c.args.c unit c.args.next c.requires.network is c.requires.room, ap length first, ap length second)
