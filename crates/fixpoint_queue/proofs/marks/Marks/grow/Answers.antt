use Rattle.std.proofs.Common.{◌≤◌, ◌++◌, List, Bool, false, replicate, sym, ap, ◌∙◌, subst, arith}
use Rattle.fixpoint_queue.specs.Marks.{false_first}
use Rattle.fixpoint_queue.proofs.MarkLaws.{false-append}
use Rattle.fixpoint_queue.proofs.marks.Marks.grow.Goals as goal

pub invariant_of-self-2 : goal.invariant_of-self-2
invariant_of-self-2 c =
    let items = c.push_false.ensures ∙ ap (λ (l : List Bool). l ++ replicate c.args.more false) c.reserve.ensures.items in
    subst (λ (l : List Bool). c.self.inside.known ≤ false_first l) (sym items)
    (omega (arith, c.self.invariant, false-append c.self.inside.marks.items (replicate c.args.more false)))
