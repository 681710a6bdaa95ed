use Rattle.std.proofs.Common.{[], ◌&&◌, cond, map, length, ap, ◌∙◌, arith}
use Rattle.std.specs.Prelude.{◌==◌}
use Rattle.core_forms.specs.declared.form.Core.TheVariants.{Clause}
use Rattle.decompose.specs.DifferingParts.{all_values, marks_from, all_mark_cores, are_true}
use Rattle.decompose.proofs.DifferingSteps.{differing-made}
use Rattle.decompose.proofs.differing.differing_parts.Goals as goal

pub returns : goal.returns
returns c =
    let next = c.args.next_var in
    let ints = c.args.ints.items in
    let conditions = c.args.conditions.items in
    let values = c.in_ok-values.values in
    let groups = c.in_ok-groups.groups.items in
    let members = c.len.result in
    differing-made next ints conditions values.items c.in_ok-marks.field-0.items groups
    c.in_ok-first.first.items c.in_ok-second.second.items c.in_ok-third.third.items c.in_ok-fourth.fourth.items c.in_ok-joined.field-0 members c.len-2.result
    (c.in_ok-values.ensures ∙ ap all_values c.as_slice.ensures.value)
    (c.in_ok-marks.ensures ∙ ap (marks_from next) c.as_slice-2.ensures.value)
    c.in_ok-groups.ensures
    c.in_ok-first.ensures
    (c.in_ok-second.ensures ∙ ap (λ xs. all_mark_cores next xs c.as_slice-4.result.now) c.as_slice-3.ensures.value ∙ ap (all_mark_cores next ints) c.as_slice-4.ensures.value)
    c.in_ok-third.ensures
    (omega (arith, c.len.ensures, c.args.ints.ok.0))
    (c.in_ok-fourth.ensures
    ∙ ap (λ xs. cond (are_true xs && (length c.as_slice-6.result.now == members)) (map (λ group. Clause group) c.as_slice-6.result.now) []) c.as_slice-5.ensures.value
    ∙ ap (λ gs. cond (are_true conditions && (length gs == members)) (map (λ group. Clause group) gs) []) c.as_slice-6.ensures.value)
    c.in_ok-joined.ensures
    (omega (arith, c.len-2.ensures, values.ok.0))
