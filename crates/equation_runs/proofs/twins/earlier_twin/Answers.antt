use Rattle.std.proofs.Common.{Result, Ok, Err}
use Rattle.std.specs.Prelude.{OnOk}
use Rattle.equation_runs.proofs.TwinTables.{firsts-put}
use Rattle.equation_runs.proofs.twins.earlier_twin.Goals as goal

on-ok : {A E P Q : Type 0} (r : Result A E) → OnOk r P → (P → Q) → OnOk r Q
on-ok (Ok x) h f = f h
on-ok (Err e) h f = tt

pub returns-in-Some-clause-firsts : goal.returns-in-Some-clause-firsts
returns-in-Some-clause-firsts c =
    let key = c.in-Some.key in
    let old = c.args.firsts.now in
    let new = c.first_or_put.new.firsts in
    on-ok c.first_or_put.result c.first_or_put.ensures.firsts
    (λ put. firsts-put c.args.ints.now c.args.conditions.now c.args.place key c.in-Some.ensures.value old new put c.requires.firsts)
