use Rattle.state_rows.specs.ToldOnce.{IsToldOnce, told_once_is_instance}
use Rattle.state_rows.proofs.told_once.ToldOnceOracle.ask.Goals as goal

pub returns-then-is_told_core-clause-some : goal.returns-then-is_told_core-clause-some
returns-then-is_told_core-clause-some g c =
    let told : IsToldOnce c.args.core.now c.told_equation.result = (c.is_told_core.ensures.0 c.if-is_told_core.true, c.told_equation.ensures) in
    (told, told_once_is_instance c.args.core.now c.told_equation.result told)
