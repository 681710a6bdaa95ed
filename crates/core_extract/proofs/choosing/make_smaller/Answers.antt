use Rattle.core_extract.proofs.Turns.{choice-behind}
use Rattle.core_extract.proofs.choosing.make_smaller.Goals as goal

pub returns : goal.returns
returns g c =
    choice-behind g.F.Oracle.told c.args.asker.now.options c.args.reduction c.in_ok-trimmed.trimmed c.in_ok-choice.choice c.in_ok-trimmed.ensures.same
    c.in_ok-choice.ensures
