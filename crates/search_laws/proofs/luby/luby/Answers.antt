use Rattle.std.proofs.Common.{arith, sym, ◌∙◌}
use Rattle.search_laws.proofs.LubyLaws.{ends, goes}
use Rattle.search_laws.proofs.luby.luby.Goals as goal

pub returns-then-number-power-clause-term : goal.returns-then-number-power-clause-term
returns-then-number-power-clause-term c =
    sym (ends c.loop-number.number c.highest_power-power.result c.loop-number.invariant.0 c.highest_power-power.ensures.power c.if-number-power.true)
    ∙ c.loop-number.invariant.2

pub loop-number-preserved : goal.loop-number-preserved
loop-number-preserved c =
    let number = c.loop-number.number in
    let power = c.highest_power-power.result in
    let same = goes number power c.loop-number.invariant.0 c.highest_power-power.ensures.power c.if-number-power.false in
    (omega arith, omega arith, sym same ∙ c.loop-number.invariant.2)
