use Rattle.std.proofs.Common.{List, refl, sym, subst}
use Rattle.model_meaning.specs.declared.model.Decl.{Decl}
use Rattle.decode_minimize.specs.Heard.{AreDecodedHeard}
use Rattle.decode_minimize.proofs.Lowerings.{lowered-ready}
use Rattle.decode_minimize.proofs.Hearing.{decoded-heard}
use Rattle.decode_minimize.proofs.answering.answer_watched.Goals as goal

pub answer_lowered-requires-clause-ready : goal.answer_lowered-requires-clause-ready
answer_lowered-requires-clause-ready g c =
    lowered-ready c.args.model.now c.in_ok-lowered.lowered c.requires.typed c.requires.limits c.in_ok-lowered.ensures.light c.in_ok-lowered.ensures.shape

pub returns-clause-answer : goal.returns-clause-answer
returns-clause-answer g c =
    c.in_ok-answered.ensures.answer c.args.model.now c.requires.typed c.requires.limits c.in_ok-lowered.ensures.light c.in_ok-lowered.ensures.shape refl

pub answer_lowered-requires-clause-heard : goal.answer_lowered-requires-clause-heard
answer_lowered-requires-clause-heard g c =
    subst (λ (ds : List Decl). AreDecodedHeard g.W.SolutionWatcher.heard ds c.args.model.now.goal c.in_ok-lowered.lowered) (sym c.as_slice.ensures)
    (decoded-heard g.W.SolutionWatcher.heard c.args.model.now c.in_ok-lowered.lowered c.requires.typed c.requires.limits c.in_ok-lowered.ensures.light c.in_ok-lowered.ensures.shape c.requires.heard)
