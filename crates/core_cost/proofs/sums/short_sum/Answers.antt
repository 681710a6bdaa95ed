use Rattle.std.proofs.Common.{◌≡◌, length, arith, sym, ap, ◌∙◌}
use Rattle.std.proofs.lemmas.Bool.{eqb-true}
use Rattle.core_cost.proofs.SumLaws.{sum_of_none, sum_of_one, sum_of_two, sum_of_three}
use Rattle.core_cost.proofs.sums.short_sum.Goals as goal

pub returns-then-is_empty : goal.returns-then-is_empty
returns-then-is_empty c =
    let len = eqb-true _ _ (sym c.is_empty.ensures ∙ c.if-is_empty.true) in
    let none : length c.args.members.items ≡ 0 = omega (arith, c.args.members.ok.0) in
    rw (sum_of_none c.args.members.items none) (rw (c.constant.ensures, c.constant-then-is_empty.ensures) at c.sum3_cost.ensures)

pub returns-then-is_empty-2 : goal.returns-then-is_empty-2
returns-then-is_empty-2 c =
    let len = eqb-true _ _ (sym c.is_empty-2.ensures ∙ c.if-is_empty-2.true) in
    let none : length c.take_front-first.new.queue.items ≡ 0 = omega (arith, c.take_front-first.new.queue.ok.0) in
    rw (sum_of_one c.take_front-first.result c.args.members.items c.take_front-first.new.queue.items c.take_front-first.ensures none)
    (rw (c.constant-then-is_empty-2.ensures) at c.sum3_cost-then-is_empty-2.ensures)

pub returns-then-is_empty-3 : goal.returns-then-is_empty-3
returns-then-is_empty-3 c =
    let len = eqb-true _ _ (sym c.is_empty-3.ensures ∙ c.if-is_empty-3.true) in
    let none : length c.take_front-second.new.queue.items ≡ 0 = omega (arith, c.take_front-second.new.queue.ok.0) in
    rw (sum_of_two c.take_front-first.result c.take_front-second.result c.args.members.items c.take_front-first.new.queue.items c.take_front-second.new.queue.items
    c.take_front-first.ensures c.take_front-second.ensures none)
    (rw (c.constant-then-is_empty-3.ensures) at c.sum3_cost-then-is_empty-3.ensures)

pub returns : goal.returns
returns c =
    let first = ap length c.take_front-first.ensures in
    let second = ap length c.take_front-second.ensures in
    let third = ap length c.take_front-third.ensures in
    let none : length c.take_front-third.new.queue.items ≡ 0 = omega (arith, c.args.members.ok.0) in
    rw (sum_of_three c.take_front-first.result c.take_front-second.result c.take_front-third.result c.args.members.items c.take_front-first.new.queue.items
    c.take_front-second.new.queue.items c.take_front-third.new.queue.items c.take_front-first.ensures c.take_front-second.ensures c.take_front-third.ensures none)
    c.sum3_cost-2.ensures
