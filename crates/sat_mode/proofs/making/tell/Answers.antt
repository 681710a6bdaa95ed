use Rattle.std.proofs.Common.{ap, ◌∙◌, arith, length, Bool, List, Ok, Result}
use Rattle.std.specs.declared.alloc.AllocError.{AllocError}
use Rattle.order_ints.specs.declared.cnf.Cnf.{Cnf}
use Rattle.clause_rings.proofs.Ascending.{ascending-apart}
use Rattle.learning_solver.specs.declared.found.Found.{Found}
use Rattle.learning_solver.specs.Log.{additions}
use Rattle.learning_solver.specs.Outcome.{Logged, most_learned}
use Rattle.sat_mode.specs.Texts.{values_text, refutation_text, unknown_text}
use Rattle.sat_mode.proofs.Telling.{found-count, found-values, found-refutation, found-unknown}
use Rattle.sat_mode.proofs.making.tell.Goals as goal

pub with-requires-clause-differ : goal.with-requires-clause-differ
with-requires-clause-differ g c = ascending-apart c.args.cnf.now c.requires.ascend

pub write_values-requires : goal.write_values-requires
write_values-requires g c =
    let all = c.in_ok-values.ensures in
    let cnf = all.cnf ∙ ap (λ (s : Logged). s.cnf) c.in_ok-solver.ensures in
    omega (arith, found-count c.solve_watched.new.self _ c.in-Sat.values c.in-Sat.is all.found, ap (λ (x : Cnf). x.vars) cnf, ap (λ (bs : List Bool). length bs) c.as_slice.ensures, c.requires.few)

pub returns-in-Refuted : goal.returns-in-Refuted
returns-in-Refuted g c =
    let all = c.in_ok-values.ensures in
    found-refutation c.args.options c.args.cnf.now c.solve_watched.new.self c.in-Refuted.field-0 c.in_ok-text-in-Refuted.text.items
    (all.cnf ∙ ap (λ s. s.cnf) c.in_ok-solver.ensures) all.accepted all.fresh all.readable (rw c.in-Refuted.is at all.found) all.within
    (omega (arith, all.most, ap (λ (s : Logged). additions s.log) c.in_ok-solver.ensures, ap (λ (s : Logged). most_learned c.args.options.restart s.cnf.vars) c.in_ok-solver.ensures))
    (c.in_ok-text-in-Refuted.ensures ∙ ap refutation_text c.log.ensures.log)

pub returns-in-Sat : goal.returns-in-Sat
returns-in-Sat g c =
    let all = c.in_ok-values.ensures in
    found-values c.args.options c.args.cnf.now c.solve_watched.new.self _ c.in-Sat.values c.in_ok-text-in-Sat.text.items
    (all.cnf ∙ ap (λ s. s.cnf) c.in_ok-solver.ensures) c.in-Sat.is all.found (c.in_ok-text-in-Sat.ensures ∙ ap values_text c.as_slice.ensures)

pub returns : goal.returns
returns g c =
    let all = c.in_ok-values.ensures in
    let okay : Found → Result Found AllocError = λ f. Ok f in
    let told = ap okay c.in-Spent.is in
    found-unknown c.args.options c.args.cnf.now c.solve_watched.new.self _ c.in_ok-text-in-Spent.text.items
    (all.cnf ∙ ap (λ s. s.cnf) c.in_ok-solver.ensures) c.in-Spent.is all.accepted all.fresh all.readable all.found
    (all.spent told)
    (omega (arith, all.spent_early told, ap (λ (s : Logged). additions s.log) c.in_ok-solver.ensures, ap (λ (s : Logged). most_learned c.args.options.restart s.cnf.vars) c.in_ok-solver.ensures))
    (c.in_ok-text-in-Spent.ensures ∙ ap unknown_text c.log-in-Spent.ensures.log)
