use Rattle.std.proofs.Common.{◌≡◌, ◌-◌, sym, ap, ◌∙◌, subst, refl, w64}
use Rattle.std.proofs.lemmas.Int.{to_z-of_z}
use Rattle.order_ints.specs.declared.cnf.Cnf.{Cnf}
use Rattle.learning_solver.specs.Log.{additions}
use Rattle.decode_minimize.specs.Rounds.{AreSatisfying}
use Rattle.decode_minimize.specs.Solved.{IsSolvable, IsSeekable}
use Rattle.decode_minimize.specs.Heard.{IsHeard}
use Rattle.decode_minimize.proofs.Makings.{found-fits, fixed-is, fixed-solvable, fixed-satisfying, fixed-seekable, both-made}
use Rattle.decode_minimize.proofs.Hearing.{fixed-heard}
use Rattle.decode_minimize.proofs.solving.solve_behind.Goals as goal

pub rounds_behind-requires-clause-solvable : goal.rounds_behind-requires-clause-solvable
rounds_behind-requires-clause-solvable g c =
    let made = fixed-is c.args.cnf c.args.sought.now c.args.options c.args.progress c.requires.seekable c.requires.progress c.in_ok-cnf.cnf c.no_worse_of-fixed.result c.resolve.result c.in_ok-cnf.ensures
    c.resolve.ensures c.no_worse_of-fixed.ensures in
    subst IsSolvable (sym made) (fixed-solvable c.args.cnf c.args.sought.now c.args.options c.args.progress c.requires.seekable c.requires.progress c.requires.problem.solvable)

pub rounds_behind-requires-clause-seekable : goal.rounds_behind-requires-clause-seekable
rounds_behind-requires-clause-seekable g c =
    let made = fixed-is c.args.cnf c.args.sought.now c.args.options c.args.progress c.requires.seekable c.requires.progress c.in_ok-cnf.cnf c.no_worse_of-fixed.result c.resolve.result c.in_ok-cnf.ensures
    c.resolve.ensures c.no_worse_of-fixed.ensures in
    subst (λ (f : Cnf). IsSeekable f c.args.behind.now) (sym made)
    (fixed-seekable c.args.cnf c.args.sought.now c.args.options c.args.progress c.requires.seekable c.requires.progress c.args.behind.now c.requires.seekable_behind)

pub rounds_behind-requires-clause-satisfying : goal.rounds_behind-requires-clause-satisfying
rounds_behind-requires-clause-satisfying g c =
    let made = fixed-is c.args.cnf c.args.sought.now c.args.options c.args.progress c.requires.seekable c.requires.progress c.in_ok-cnf.cnf c.no_worse_of-fixed.result c.resolve.result c.in_ok-cnf.ensures
    c.resolve.ensures c.no_worse_of-fixed.ensures in
    subst (λ (f : Cnf). AreSatisfying f c.args.progress.best.values) (sym made) (fixed-satisfying c.args.cnf c.args.sought.now c.args.options c.args.progress c.requires.seekable c.requires.progress)

pub returns : goal.returns
returns g c =
    let made = fixed-is c.args.cnf c.args.sought.now c.args.options c.args.progress c.requires.seekable c.requires.progress c.in_ok-cnf.cnf c.no_worse_of-fixed.result c.resolve.result c.in_ok-cnf.ensures
    c.resolve.ensures c.no_worse_of-fixed.ensures in
    let fits = found-fits c.args.cnf c.args.sought.now c.args.options c.args.progress c.requires.seekable c.requires.progress in
    let count : c.additions.result ≡ additions c.args.progress.proof.lines = c.additions.ensures ∙ ap additions c.lines.ensures in
    both-made c.args.sought.now.names c.args.cnf c.in_ok-cnf.cnf c.args.sought.now c.args.behind.now c.args.options (record { budget = c.args.options.budget - c.additions.result; restart = c.args.options.restart })
    c.args.progress c.in_ok-last.last _ c.in_ok-solved.solved c.requires.view c.requires.view_behind c.requires.direction c.requires.seekable c.requires.progress c.requires.shown
    (ap (λ n. c.args.options.budget - n) count) refl made c.in_ok-last.ensures (to_z-of_z w64 c.args.progress.best.number fits) (rw c.into_lines.ensures at c.in_ok-solved.ensures)

pub rounds_behind-requires-clause-heard : goal.rounds_behind-requires-clause-heard
rounds_behind-requires-clause-heard g c =
    subst (λ (f : Cnf). IsHeard g.W.SolutionWatcher.heard f c.args.behind.now.names) (sym c.in_ok-cnf.ensures)
    (fixed-heard g.W.SolutionWatcher.heard c.args.cnf c.resolve.result c.args.behind.now.names c.requires.heard)
