use Rattle.std.proofs.Common.{arith, ap}
use Rattle.std.proofs.lemmas.List.{at_drop_all}
use Rattle.core_cost.specs.Comparisons.{cost_of_lex}
use Rattle.core_cost.proofs.ListSteps.{cost_before, lex-last}
use Rattle.core_cost.proofs.comparisons.lex_cost.Goals as goal

pub loop-pair-init : goal.loop-pair-init
loop-pair-init c =
    let last = lex-last c.in-Some.before.now c.in-Some.last.now in
    let all = ap cost_of_lex c.in-Some.ensures.cases.0 in
    (omega arith, omega (arith, all, last))

pub returns : goal.returns
returns c =
    let done = at_drop_all cost_before c.in-Some.before.now c.loop-pair.pair-index (omega arith) in omega arith
