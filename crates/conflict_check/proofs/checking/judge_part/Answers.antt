use Rattle.std.proofs.Common.{sym, ap, ◌∙◌, subst, ◌≤◌, arith}
use Rattle.std.specs.Prelude.{IfOk}
use Rattle.model_meaning.specs.declared.model.Model.{Model}
use Rattle.model_meaning.specs.WellTyped.{WellTyped}
use Rattle.model_meaning.specs.Limits.{InLimits}
use Rattle.model_weight.specs.Weight.{weight_of}
use Rattle.model_lower.specs.Weighed.{most_weight}
use Rattle.model_parts.specs.Only.{only}
use Rattle.model_parts.proofs.Typed.{only-typed, only-limits}
use Rattle.model_parts.proofs.Weights.{only-weight}
use Rattle.conflict_text.specs.ConflictLines.{Standing}
use Rattle.conflict_check.specs.Heads.{standing_in}
use Rattle.conflict_check.specs.Checked.{IsJudgedBehind}
use Rattle.conflict_check.proofs.Walks.{few-marks}
use Rattle.conflict_check.proofs.Judging.{part-is, part-standing}
use Rattle.conflict_check.proofs.checking.judge_part.Goals as goal

pub part_of-requires : goal.part_of-requires
part_of-requires c = let h = c.args.head in few-marks c.args.model.stmts h.conflict.items h.last h.out.items c.requires.walked

pub start_state-requires-clause-typed : goal.start_state-requires-clause-typed
start_state-requires-clause-typed c =
    let h = c.args.head in
    subst (λ (m : Model). WellTyped m) (sym (c.part-part.ensures ∙ part-is c.args.model c.in_ok-divided.divided h.conflict.items h.last h.out.items c.requires.walked c.in_ok-divided.ensures)) (only-typed c.args.model h.conflict.items c.requires.typed)

pub start_state-requires-clause-limits : goal.start_state-requires-clause-limits
start_state-requires-clause-limits c =
    let h = c.args.head in
    subst (λ (m : Model). InLimits m) (sym (c.part-part.ensures ∙ part-is c.args.model c.in_ok-divided.divided h.conflict.items h.last h.out.items c.requires.walked c.in_ok-divided.ensures)) (only-limits c.args.model h.conflict.items c.requires.limits)

pub start_state-requires-clause-light : goal.start_state-requires-clause-light
start_state-requires-clause-light c =
    let h = c.args.head in
    let most = only-weight c.args.model h.conflict.items c.requires.typed in
    let light = c.requires.light in
    let fits : weight_of (only c.args.model h.conflict.items) ≤ most_weight = omega (arith, most, light) in
    subst (λ (m : Model). weight_of m ≤ most_weight) (sym (c.part-part.ensures ∙ part-is c.args.model c.in_ok-divided.divided h.conflict.items h.last h.out.items c.requires.walked c.in_ok-divided.ensures)) fits

pub judge-requires-clause-limits : goal.judge-requires-clause-limits
judge-requires-clause-limits c =
    let h = c.args.head in
    subst (λ (m : Model). InLimits m) (sym (c.part-part.ensures ∙ part-is c.args.model c.in_ok-divided.divided h.conflict.items h.last h.out.items c.requires.walked c.in_ok-divided.ensures)) (only-limits c.args.model h.conflict.items c.requires.limits)

pub returns : goal.returns
returns c =
    let h = c.args.head in
    let is = c.part-part.ensures ∙ part-is c.args.model c.in_ok-divided.divided h.conflict.items h.last h.out.items c.requires.walked c.in_ok-divided.ensures in
    subst (λ (s : Standing). IfOk c.judge.result (IsJudgedBehind s c.args.rest.now c.args.read))
    (part-standing c.args.model c.part-part.result.now h.verdict h.conflict.items h.last c.from_vec.result c.in_ok-state.state c.requires.part is (c.from_vec.ensures ∙ c.new.ensures.items) c.in_ok-state.ensures
    ∙ sym (ap (standing_in c.args.model h.verdict h.conflict.items h.last) c.requires.done))
    c.judge.ensures
