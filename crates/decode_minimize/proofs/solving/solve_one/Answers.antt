use Rattle.std.proofs.Common.{None, subst}
use Rattle.decode_minimize.specs.declared.solved.First.{First}
use Rattle.decode_minimize.specs.Solved.{problem_of, IsFirst}
use Rattle.decode_minimize.proofs.Makings.{best-refuted, best-given_up, one-solved}
use Rattle.decode_minimize.proofs.solving.solve_one.Goals as goal

pub returns-in-Refuted : goal.returns-in-Refuted
returns-in-Refuted g c =
    best-refuted (problem_of c.args.sought.now.names c.args.cnf.now) c.args.options c.refuted.result c.in-Refuted.proof c.args.sought.now.direction c.args.sought.now.integer.now None c.refuted.ensures
    (subst (λ (f : First). IsFirst c.args.cnf.now c.args.sought.now c.args.options f) c.in-Refuted.is c.in_ok-proof.ensures)

pub returns-in-GivenUp : goal.returns-in-GivenUp
returns-in-GivenUp g c =
    best-given_up (problem_of c.args.sought.now.names c.args.cnf.now) c.args.options c.given_up.result c.in-GivenUp.proof c.args.sought.now.direction c.args.sought.now.integer.now None c.given_up.ensures
    (subst (λ (f : First). IsFirst c.args.cnf.now c.args.sought.now c.args.options f) c.in-GivenUp.is c.in_ok-proof.ensures)

pub returns-in_ok-solved-in-Found : goal.returns-in_ok-solved-in-Found
returns-in_ok-solved-in-Found g c =
    one-solved c.args.sought.now.names c.args.cnf.now c.args.sought.now c.args.options c.requires.view c.in-Found.progress
    (subst (λ (f : First). IsFirst c.args.cnf.now c.args.sought.now c.args.options f) c.in-Found.is c.in_ok-proof.ensures)
    c.in_ok-solved-in-Found.solved c.in_ok-solved-in-Found.ensures
