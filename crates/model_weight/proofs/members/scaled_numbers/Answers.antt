use Rattle.std.proofs.Common.{arith}
use Rattle.model_weight.proofs.Spans.{scaled_numbers-spans}
use Rattle.model_weight.proofs.MemberSteps.{scaled_numbers-finished}
use Rattle.model_weight.proofs.members.scaled_numbers.Goals as goal

pub returns-clause-shapes : goal.returns-clause-shapes
returns-clause-shapes c =
    scaled_numbers-finished c.args.decls.now c.args.coefficients.now c.args.members.now c.loop-i.i c.loop-i.shapes.items _ (omega arith) c.loop-i.invariant

pub returns-clause-spans : goal.returns-clause-spans
returns-clause-spans c =
    rw (scaled_numbers-finished c.args.decls.now c.args.coefficients.now c.args.members.now c.loop-i.i c.loop-i.shapes.items _ (omega arith) c.loop-i.invariant)
    (scaled_numbers-spans c.args.decls.now c.args.coefficients.now c.args.members.now c.requires.decls c.requires.coefficients)
