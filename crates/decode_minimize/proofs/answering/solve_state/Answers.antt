use Rattle.std.proofs.Common.{◌≡◌, [], List, None, refl, sym, ap, ◌∙◌, subst}
use Rattle.order_ints.specs.declared.cnf.Cnf.{Cnf}
use Rattle.proof_check.specs.declared.line.ProofLine.{ProofLine}
use Rattle.answer_document.specs.declared.verdict.Verdict.TheVariants.{Unsatisfiable}
use Rattle.decode_minimize.specs.Heard.{IsHeard}
use Rattle.decode_minimize.specs.Solved.{Problem, IsProblem, IsSolvedFor}
use Rattle.decode_minimize.proofs.Lowerings.{same-problem, bottom-solved}
use Rattle.decode_minimize.proofs.Sizes.{size-at-bottom, size-made}
use Rattle.decode_minimize.proofs.answering.solve_state.Goals as goal

pub returns-then-bottom-clause-solved : goal.returns-then-bottom-clause-solved
returns-then-bottom-clause-solved g c =
    let none : c.from_vec.result ≡ [] = c.from_vec.ensures ∙ c.new.ensures.items in
    bottom-solved c.args.names.now.map.now.entries c.args.state.now c.args.options c.args.names.now.goal c.refuted.result (sym c.bottom.ensures.bottom ∙ c.if-bottom.true)
    (c.refuted.ensures ∙ ap (λ (l : List ProofLine). record { verdict = Unsatisfiable; assignment = None; proof = l; second = None }) none)

pub returns-then-bottom-clause-size : goal.returns-then-bottom-clause-size
returns-then-bottom-clause-size g c = size-at-bottom c.args.state.now c.vars.result c.vars.ensures.vars (sym c.bottom.ensures.bottom ∙ c.if-bottom.true)

pub solve-requires-clause-problem : goal.solve-requires-clause-problem
solve-requires-clause-problem g c =
    let same = same-problem c.args.names.now c.in_ok-cnf.cnf c.args.names.now.map.now.entries c.args.state.now refl c.requires.view c.in_ok-cnf.ensures.shape in
    subst IsProblem (sym same) c.requires.problem

pub solve-requires-clause-heard : goal.solve-requires-clause-heard
solve-requires-clause-heard g c = subst (λ (f : Cnf). IsHeard g.W.SolutionWatcher.heard f c.args.names.now) (sym c.in_ok-cnf.ensures.shape) c.requires.heard

pub returns-clause-solved : goal.returns-clause-solved
returns-clause-solved g c =
    let same = same-problem c.args.names.now c.in_ok-cnf.cnf c.args.names.now.map.now.entries c.args.state.now refl c.requires.view c.in_ok-cnf.ensures.shape in
    subst (λ (p : Problem). IsSolvedFor p c.args.options c.args.names.now.goal c.in_ok-solved.solved) same c.in_ok-solved.ensures

pub returns-clause-size : goal.returns-clause-size
returns-clause-size g c = size-made c.args.state.now c.in_ok-cnf.cnf c.len.result c.len.ensures c.in_ok-cnf.ensures.shape
