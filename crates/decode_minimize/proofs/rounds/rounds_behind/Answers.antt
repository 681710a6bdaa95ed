use Rattle.std.proofs.Common.{sym, ap, subst}
use Rattle.order_ints.specs.declared.cnf.Cnf.{Cnf}
use Rattle.learning_solver.specs.Outcome.{Logged}
use Rattle.decode_minimize.specs.Heard.{IsHeard}
use Rattle.decode_minimize.proofs.Ready.{solvable-apart}
use Rattle.decode_minimize.proofs.rounds.rounds_behind.Goals as goal

pub behind-requires-clause-differ : goal.behind-requires-clause-differ
behind-requires-clause-differ g c = solvable-apart c.args.cnf.now c.requires.solvable

pub rounds_from-requires-clause-heard : goal.rounds_from-requires-clause-heard
rounds_from-requires-clause-heard g c =
    subst (λ (f : Cnf). IsHeard g.W.SolutionWatcher.heard f c.args.sought.now.names) (sym (ap (λ (s : Logged). s.cnf) c.in_ok-seeker.ensures.solver)) c.requires.heard
