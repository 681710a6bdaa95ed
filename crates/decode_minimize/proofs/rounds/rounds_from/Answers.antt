use Rattle.std.proofs.Common.{◌∙◌}
use Rattle.decode_minimize.proofs.Rounding.{progress-from}
use Rattle.decode_minimize.proofs.rounds.rounds_from.Goals as goal

pub returns : goal.returns
returns g c =
    progress-from c.args.seeker.solver c.improve.new.seeker.solver c.args.sought.now c.args.options c.args.best c.improve.new.best c.in_ok-ended.ended c.into_log.result c.requires.seeking c.requires.most
    c.improve.ensures.cnf c.improve.ensures.within c.in_ok-ended.ensures.seeking c.in_ok-ended.ensures.improved c.into_log.ensures.lines (c.into_log.ensures.incumbent ∙ c.in_ok-ended.ensures.kept) c.into_log.ensures.accepted
    c.into_log.ensures.fresh c.into_log.ensures.readable
