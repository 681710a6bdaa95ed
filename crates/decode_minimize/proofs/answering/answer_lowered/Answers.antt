use Rattle.std.proofs.Common.{◌<◌, ◌^◌, ℕ, refl, ap, ◌∙◌, subst, arith}
use Rattle.step_kernel.specs.Kernel.{started}
use Rattle.decode_minimize.proofs.Lowerings.{problem-ready, answers-all}
use Rattle.decode_minimize.proofs.Hearing.{compiled-heard}
use Rattle.decode_minimize.proofs.Sizes.{size-there}
use Rattle.decode_minimize.proofs.answering.answer_lowered.Goals as goal

pub solve_state-requires-clause-problem : goal.solve_state-requires-clause-problem
solve_state-requires-clause-problem g c =
    problem-ready g.F.Oracle.told c.args.posed.lowered c.in_ok-state.state c.in_ok-compilation.compilation.state c.in_ok-compilation.compilation.ledger c.requires.ready
    (c.in_ok-state.ensures.start ∙ ap (started c.args.posed.lowered.vars) c.into_vec.ensures) c.in_ok-compilation.ensures.compilation

pub solve_state-requires-clause-heard : goal.solve_state-requires-clause-heard
solve_state-requires-clause-heard g c =
    compiled-heard g.W.SolutionWatcher.heard g.F.Oracle.told c.args.posed.lowered c.in_ok-state.state c.in_ok-compilation.compilation.state c.in_ok-compilation.compilation.ledger
    _ c.requires.ready (c.in_ok-state.ensures.start ∙ ap (started c.args.posed.lowered.vars) c.into_vec.ensures) c.in_ok-compilation.ensures.compilation refl c.view.ensures.view c.requires.heard

pub returns-clause-answer : goal.returns-clause-answer
returns-clause-answer g c =
    let few = subst (λ (n : ℕ). n < 2 ^ 64) c.ids-ids.ensures.ids (omega (arith, c.ids-ids.type_inv)) in
    answers-all g.F.Oracle.told c.args.options c.requires.budget c.in_ok-compilation.compilation.state c.in_ok-compilation.compilation.ledger few c.in_ok-made.made.solved _ _ c.args.posed.lowered c.args.posed.goal c.in_ok-state.state _
    (c.in_ok-state.ensures.start ∙ ap (started c.args.posed.lowered.vars) c.into_vec.ensures) c.in_ok-compilation.ensures.compilation c.in_ok-made.ensures.solved refl c.in_ok-compilation.ensures.asked

pub returns-clause-size : goal.returns-clause-size
returns-clause-size g c = λ last other.
    size-there g.F.Oracle.told c.in_ok-compilation.compilation.ledger (started c.args.posed.lowered.vars c.args.posed.lowered.cores) c.in_ok-state.state c.in_ok-compilation.compilation.state last c.in_ok-made.made.size
    (c.in_ok-state.ensures.start ∙ ap (started c.args.posed.lowered.vars) c.into_vec.ensures) c.in_ok-made.ensures.size c.in_ok-compilation.ensures.compilation other
