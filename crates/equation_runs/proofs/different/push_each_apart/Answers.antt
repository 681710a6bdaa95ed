use Rattle.std.proofs.Common.{◌≡◌, ℤ, ◌++◌, ◌||◌, to_z, of_z, ap, ◌∙◌}
use Rattle.std.specs.BTreeSet.{contains}
use Rattle.std.specs.Ordering.{int_cmp}
use mir.Syntax.{w128}
use Rattle.core_forms.proofs.Bounds.{small_bits}
use Rattle.rule_base.specs.Pairs.{only_if}
use Rattle.equation_runs.specs.DifferentRuns.{apart_pair}
use Rattle.equation_runs.proofs.DifferentSteps.{told, value-told, first-near}
use Rattle.equation_runs.proofs.different.push_each_apart.Goals as goal

pub loop-value-preserved : goal.loop-value-preserved
loop-value-preserved c =
    let a = c.args.a.now in
    let value = c.in-Some.value in
    let old = c.loop-value.run.items in
    let taken = λ (v : ℤ). contains int_cmp c.args.taken.now.held v || contains int_cmp c.args.taken.now.shared v in
    let first = first-near c.loop-value.value-iterator c.next.new.self (value, c.in-Some.field-0-1) c.in-Some.ensures.steps c.loop-value.invariant.near in
    let key : to_z w128 (of_z w128 value) ≡ value = small_bits value first.0 in
    let there : c.has-there.result ≡ taken value = c.has-there.ensures ∙ ap taken key in
    record {
      near = first.1;
      run = value-told taken a c.loop-value.value-iterator c.next.new.self value c.in-Some.field-0-1 c.has-there.result old c.push_where.new.run.items _
          c.in-Some.ensures.steps there
          (c.in_ok-push_where.ensures.run ∙ (λ i. old ++ told (only_if c.has-there.result (apart_pair (c.loop-value.invariant.same i) (key i)))))
          c.loop-value.invariant.run;
      same = c.in_ok-push_where.ensures.same ∙ c.loop-value.invariant.same;
    }
