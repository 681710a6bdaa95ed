use Rattle.std.proofs.Common.{◌≡◌, sym, Some}
use Rattle.std.proofs.lemmas.Result.{IfOk-weaker}
use Rattle.core_forms.specs.declared.edges.Edge.{Edge}
use Rattle.core_forms.specs.declared.form.Core.{Core}
use Rattle.step_kernel.specs.Kernel.{Kernel, trimmed_at}
use Rattle.step_kernel.specs.Settled.{IsSettled}
use Rattle.fixpoint_queue.specs.Told.{IsAnswer}
use Rattle.fixpoint_queue.proofs.Settlings.{lent-there, lent-formed, lent-known}
use Rattle.fixpoint_queue.proofs.asking.ask_settled.Goals as goal

pub known-requires : goal.known-requires
known-requires g c =
    let was = c.requires.1 in
    lent-known was.before c.args.state.now c.args.id c.requires.0 was.settled c.in-Some.core.now (sym c.in-Some.ensures.core)

pub ask_core-requires-clause-formed : goal.ask_core-requires-clause-formed
ask_core-requires-clause-formed g c =
    let was = c.requires.1 in
    lent-formed was.before c.args.state.now c.args.id c.requires.0 was.settled c.in-Some.core.now (sym c.in-Some.ensures.core) was.kernel

pub returns-in-Some-clause-answer : goal.returns-in-Some-clause-answer
returns-in-Some-clause-answer g c =
    IfOk-weaker c.ask_core.result (λ answer. IsAnswer g.F.Oracle.told c.in-Some.core.now answer)
    (λ answer. (k : Kernel) (edge : Edge) → IsSettled k c.args.state.now c.args.id edge → (core : Core) × (trimmed_at k c.args.id ≡ Some core) × IsAnswer g.F.Oracle.told core answer)
    (λ answer is k edge settled. (c.in-Some.core.now, lent-there k c.args.state.now c.args.id edge settled c.in-Some.core.now (sym c.in-Some.ensures.core), is))
    c.ask_core.ensures.answer
