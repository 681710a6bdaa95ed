use Rattle.std.proofs.Common.{◌≡◌, ◌++◌, List, subst}
use Rattle.opb_front.specs.declared.items.Term.{Term}
use Rattle.opb_front.specs.declared.items.Comparison.TheVariants.{Equal}
use Rattle.opb_model.specs.Written.{sum_front}
use Rattle.opb_model.proofs.Lines.{objective_lines}
use Rattle.opb_model.proofs.text_parts.push_objective.Goals as goal

pub returns-in_ok-push_bytes : goal.returns-in_ok-push_bytes
returns-in_ok-push_bytes c =
    let front = subst (λ (ts : List Term). c.push_sum_front.new.out.items ≡ c.push_cost_integer.new.out.items ++ sum_front Equal ts) c.as_slice.ensures c.in_ok-push_sum_front.ensures in
    rw c.in-Some.is
    (objective_lines c.in-Some.sought c.args.out.now.items c.push_cost_integer.new.out.items c.push_sum_front.new.out.items c.push_bytes.new.out.items
    c.in_ok-push_cost_integer.ensures front c.in_ok-push_bytes.ensures.ok)
