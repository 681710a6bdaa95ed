use Rattle.std.proofs.Common.{◌++◌, ◌∷◌, [], sym, ap, ◌∙◌, arith}
use Rattle.model_weight.specs.Linear.{with_steps}
use Rattle.model_weight.proofs.Spans.{pushed-spans}
use Rattle.model_weight.proofs.MemberSteps.{with_steps-append}
use Rattle.model_weight.proofs.linear.linear_weight.Goals as goal

pub sum_weight-requires : goal.sum_weight-requires
sum_weight-requires c =
    let pushed = pushed-spans c.args.members.items c.add_member.new.members.items c.args.right c.in_ok-add_member.ensures in
    omega (arith, pushed)

pub returns : goal.returns
returns c given e =
    let all = c.in_ok-add_member.ensures ∙ (ap (λ xs. xs ++ with_steps (c.args.right ∷ [])) e ∙ sym (with_steps-append given (c.args.right ∷ []))) in
    rw all at c.sum_weight.ensures
