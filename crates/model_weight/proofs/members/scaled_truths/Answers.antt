use Rattle.std.proofs.Common.{◌≡◌, ℤ, pos, false, [], ◌∷◌, ◌++◌, get_or, to_z, of_z, w64, FitsSigned, ap, ◌∙◌, arith, rules}
use Rattle.std.proofs.lemmas.Int.{to_z-of_z}
use Rattle.core_cost.specs.declared.shape.Shape.{Shape}
use Rattle.core_cost.specs.Sums.{unit_steps}
use Rattle.model_meaning.specs.declared.what.BoolTerm.TheVariants as bool_term
use Rattle.model_weight.specs.Linear.{scaled, with_steps}
use Rattle.model_weight.proofs.Spans.{scaled_truths-spans}
use Rattle.model_weight.proofs.MemberSteps.{scaled_truths-moved, scaled_truths-finished}
use Rattle.model_weight.proofs.members.scaled_truths.Goals as goal

scaled_is : (x : ℤ) (u r : Shape) → FitsSigned w64 x → u ≡ unit_steps 1 → r ≡ scaled (to_z w64 (of_z w64 x)) u → r ≡ scaled x (unit_steps 1)
scaled_is x u r f e h = rw (to_z-of_z w64 x f, e) at h

pub loop-i-preserved : goal.loop-i-preserved
loop-i-preserved c =
    let coefficient = get_or c.args.coefficients.now c.loop-i.i (pos 0) in
    let f : FitsSigned w64 coefficient = search rules in
    let same = scaled_is coefficient c.units.result c.scaled.result f c.units.ensures c.scaled.ensures in
    scaled_truths-moved c.args.coefficients.now c.args.members.now c.loop-i.i (pos 0) (bool_term.Const false) c.loop-i.shapes.items _ c.add_member.new.members.items
    (omega arith) (omega arith) (c.in_ok-add_member.ensures ∙ ap (λ a. c.loop-i.shapes.items ++ with_steps (a ∷ [])) same) c.loop-i.invariant

pub returns-clause-shapes : goal.returns-clause-shapes
returns-clause-shapes c =
    scaled_truths-finished c.args.coefficients.now c.args.members.now c.loop-i.i c.loop-i.shapes.items _ (omega arith) c.loop-i.invariant

pub returns-clause-spans : goal.returns-clause-spans
returns-clause-spans c =
    rw (scaled_truths-finished c.args.coefficients.now c.args.members.now c.loop-i.i c.loop-i.shapes.items _ (omega arith) c.loop-i.invariant)
    (scaled_truths-spans c.args.coefficients.now c.args.members.now c.requires)
