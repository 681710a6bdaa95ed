use Rattle.std.proofs.Common.{◌≤◌, None, Ok, ap, ◌∙◌, subst, arith, List, Bool}
use Rattle.order_ints.specs.declared.atom.Atom.TheVariants.{False}
use Rattle.learning_solver.specs.Log.{additions}
use Rattle.answer_document.specs.declared.verdict.Verdict.TheVariants.{Satisfiable}
use Rattle.decode_minimize.specs.declared.asking.Round.{Round}
use Rattle.decode_minimize.specs.declared.asking.Round.TheVariants.{Last}
use Rattle.decode_minimize.specs.Rounds.{IsRound}
use Rattle.decode_minimize.specs.Solved.{problem_of, IsMadeOf}
use Rattle.decode_minimize.proofs.Ready.{solvable-apart}
use Rattle.decode_minimize.proofs.Rounding.{first-refuted, first-given_up, first-derivation, first-most, first-satisfying}
use Rattle.decode_minimize.proofs.Makings.{any-refuted, any-given_up, any-solution}
use Rattle.decode_minimize.proofs.solving.solve_any.Goals as goal

pub solver_of-requires-clause-differ : goal.solver_of-requires-clause-differ
solver_of-requires-clause-differ g c = solvable-apart c.args.cnf.now c.requires.solvable

pub returns-in-Last-Shown : goal.returns-in-Last-Shown
returns-in-Last-Shown g c =
    let shown = subst (λ (r : Round). IsRound c.ask_bound.new.solver False r) (c.in-Last-Shown.is ∙ ap Last c.in-Last-Shown.field-0-is) c.in_ok-ask_bound.ensures.round in
    any-refuted (problem_of c.args.names.now c.args.cnf.now) c.args.options c.refuted.result c.into_log.result c.refuted.ensures
    (first-refuted c.args.cnf.now c.in_ok-solver.solver c.ask_bound.new.solver c.args.options c.in_ok-solver.ensures c.ask_bound.ensures.cnf c.into_log.result c.into_log.ensures.log c.into_log.ensures.accepted
    c.into_log.ensures.fresh c.into_log.ensures.readable c.ask_bound.ensures.within c.ask_bound.ensures.most shown)

pub returns-in-Last-Spent : goal.returns-in-Last-Spent
returns-in-Last-Spent g c =
    let last = c.in-Last-Spent.is ∙ ap Last c.in-Last-Spent.field-0-is in
    let was = c.in_ok-ask_bound.was ∙ ap Ok last in
    let unshown = subst (λ (r : Round). IsRound c.ask_bound.new.solver False r) last c.in_ok-ask_bound.ensures.round in
    any-given_up (problem_of c.args.names.now c.args.cnf.now) c.args.options c.given_up.result c.into_log-in-Last-Spent.result c.given_up.ensures
    (first-given_up c.args.cnf.now c.in_ok-solver.solver c.ask_bound.new.solver c.args.options c.in_ok-solver.ensures c.ask_bound.ensures.cnf c.into_log-in-Last-Spent.result c.into_log-in-Last-Spent.ensures.log
    c.into_log-in-Last-Spent.ensures.accepted c.into_log-in-Last-Spent.ensures.fresh c.into_log-in-Last-Spent.ensures.readable (c.ask_bound.ensures.spent was) (c.ask_bound.ensures.spent_early was) unshown)

pub returns-in_ok-solved-in-Better : goal.returns-in_ok-solved-in-Better
returns-in_ok-solved-in-Better g c =
    let found = subst (λ (r : Round). IsRound c.ask_bound.new.solver False r) c.in-Better.is c.in_ok-ask_bound.ensures.round in
    let made = subst (λ (v : List Bool). IsMadeOf c.args.names.now v Satisfiable c.into_log-proof.result None c.in_ok-solved-in-Better.solved) c.as_slice.ensures c.in_ok-solved-in-Better.ensures in
    let within : additions c.into_log-proof.result ≤ c.args.options.budget = omega (arith, ap additions c.into_log-proof.ensures.log, c.ask_bound.ensures.within) in
    any-solution c.args.names.now c.args.cnf.now c.args.options c.in-Better.values c.into_log-proof.result c.in_ok-solved-in-Better.solved made
    (first-satisfying c.args.cnf.now c.in_ok-solver.solver c.ask_bound.new.solver c.args.options c.in_ok-solver.ensures c.ask_bound.ensures.cnf c.in-Better.values found)
    (first-derivation c.args.cnf.now c.in_ok-solver.solver c.ask_bound.new.solver c.args.options c.in_ok-solver.ensures c.ask_bound.ensures.cnf c.into_log-proof.result c.into_log-proof.ensures.log
    c.into_log-proof.ensures.accepted c.into_log-proof.ensures.fresh c.into_log-proof.ensures.readable) within
    (first-most c.args.cnf.now c.in_ok-solver.solver c.ask_bound.new.solver c.args.options c.in_ok-solver.ensures c.ask_bound.ensures.cnf c.into_log-proof.result c.into_log-proof.ensures.log
    c.into_log-proof.ensures.accepted c.into_log-proof.ensures.fresh c.into_log-proof.ensures.readable c.ask_bound.ensures.most)
