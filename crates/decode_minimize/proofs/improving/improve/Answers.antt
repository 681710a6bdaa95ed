use Rattle.std.proofs.Common.{Option, sym, subst}
use Rattle.order_ints.specs.declared.cnf.Cnf.{Cnf}
use Rattle.decode_minimize.specs.declared.asking.Ended.{Ended}
use Rattle.decode_minimize.specs.Seeking.{IsTurned}
use Rattle.decode_minimize.specs.Heard.{IsHeard}
use Rattle.decode_minimize.proofs.Turning.{last-turn}
use Rattle.decode_minimize.proofs.improving.improve.Goals as goal

pub returns-in-Some-clause-improved : goal.returns-in-Some-clause-improved
returns-in-Some-clause-improved g c =
    last-turn c.args.seeker.now.solver c.loop-ended.seeker.solver c.improve_once.new.seeker.solver c.args.sought.now c.args.options c.args.best.now c.loop-ended.best c.improve_once.new.best
    c.loop-ended.invariant.cnf c.loop-ended.invariant.cost c.loop-ended.invariant.no_worse c.in-Some.ended
    (subst (λ (t : Option Ended). IsTurned c.loop-ended.seeker.solver c.improve_once.new.seeker.solver c.args.sought.now c.args.options c.loop-ended.best c.improve_once.new.best t) c.in-Some.is c.in_ok-ended.ensures.turned)

pub improve_once-requires-clause-heard : goal.improve_once-requires-clause-heard
improve_once-requires-clause-heard g c =
    subst (λ (f : Cnf). IsHeard g.W.SolutionWatcher.heard f c.args.sought.now.names) (sym c.loop-ended.invariant.cnf) c.requires.heard
