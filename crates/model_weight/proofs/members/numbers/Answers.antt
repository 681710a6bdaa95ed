use Rattle.std.proofs.Common.{arith}
use Rattle.model_weight.proofs.Spans.{numbers-spans}
use Rattle.model_weight.proofs.MemberSteps.{numbers-finished}
use Rattle.model_weight.proofs.members.numbers.Goals as goal

pub returns-clause-spans : goal.returns-clause-spans
returns-clause-spans c =
    rw (numbers-finished c.args.decls.now c.args.members.now c.loop-member.member-index c.loop-member.shapes.items _ (omega arith) c.loop-member.invariant)
    (numbers-spans c.args.decls.now c.args.members.now c.requires)
