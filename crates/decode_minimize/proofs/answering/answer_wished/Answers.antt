use Rattle.std.proofs.Common.{List, refl, sym, ap, ◌∙◌, subst}
use Rattle.model_lower.specs.declared.state.Lowered.{Lowered}
use Rattle.step_kernel.specs.Kernel.{Kernel, started}
use Rattle.state_compile.specs.Compilation.{IsCompilation}
use Rattle.model_meaning.specs.declared.model.Decl.{Decl}
use Rattle.decode_minimize.specs.Heard.{AreDecodedHeard}
use Rattle.decode_minimize.proofs.Lowerings.{lowered-ready}
use Rattle.decode_minimize.proofs.Hearing.{decoded-heard}
use Rattle.decode_minimize.proofs.answering.answer_wished.Goals as goal

pub answer_lowered-requires-clause-ready : goal.answer_lowered-requires-clause-ready
answer_lowered-requires-clause-ready g c =
    lowered-ready c.args.asked.model c.in_ok-held.held.lowered c.requires.typed c.requires.limits c.in_ok-held.ensures.light c.in_ok-held.ensures.shape

pub returns-clause-answer : goal.returns-clause-answer
returns-clause-answer g c =
    c.in_ok-answered.ensures.answer c.args.asked.model c.requires.typed c.requires.limits c.in_ok-held.ensures.light c.in_ok-held.ensures.shape refl

pub returns-clause-size : goal.returns-clause-size
returns-clause-size g c = λ last compilation.
    let start = ap (λ (l : Lowered). started l.vars l.cores) c.in_ok-held.ensures.shape in
    c.in_ok-answered.ensures.size last (subst (λ (k : Kernel). IsCompilation g.F.Oracle.told k c.in_ok-answered.answered.document.ledger last) (sym start) compilation)

pub answer_lowered-requires-clause-heard : goal.answer_lowered-requires-clause-heard
answer_lowered-requires-clause-heard g c =
    subst (λ (ds : List Decl). AreDecodedHeard g.W.SolutionWatcher.heard ds c.args.asked.model.goal c.in_ok-held.held.lowered) (sym (c.as_slice.ensures ∙ c.in_ok-held.ensures.decls))
    (decoded-heard g.W.SolutionWatcher.heard c.args.asked.model c.in_ok-held.held.lowered c.requires.typed c.requires.limits c.in_ok-held.ensures.light c.in_ok-held.ensures.shape c.requires.heard)
