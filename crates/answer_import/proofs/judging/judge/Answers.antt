use Rattle.std.proofs.Common.{Bool, List, sym, subst}
use Rattle.std.proofs.lemmas.Result.{IfOk-weaker}
use Rattle.dimacs_read.specs.Values.{IsValues}
use Rattle.answer_import.specs.Judging.{sought_in}
use Rattle.answer_import.proofs.Judged.{values-found}
use Rattle.answer_import.proofs.judging.judge.Goals as goal

pub returns-in-Ok : goal.returns-in-Ok
returns-in-Ok c =
    let read : IsValues c.args.task.cnf c.in_ok-cut.cut.front.text.items c.in-Ok.values.items = rw c.as_slice.ensures.value at c.in-Ok.ensures.read in
    let are : IsValues c.args.task.cnf c.in_ok-cut.cut.front.text.items c.as_slice-in-Ok.result.now =
    subst (λ (vs : List Bool). IsValues c.args.task.cnf c.in_ok-cut.cut.front.text.items vs) (sym c.as_slice-in-Ok.ensures.value) read in
    IfOk-weaker c.shown_by_values.result _ _
    (λ f h. values-found (sought_in c.args.task) c.args.text.now c.in_ok-cut.cut.front c.in_ok-cut.cut.rest.now c.in_ok-cut.ensures c.if-not-cut.false c.as_slice-in-Ok.result.now are f h)
    c.shown_by_values.ensures
