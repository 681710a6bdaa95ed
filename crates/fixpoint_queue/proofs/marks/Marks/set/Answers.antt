use Rattle.std.proofs.Common.{◌≡◌, ◌-◌, ◌≤◌, Bool, List, set, sym, ap, ◌∙◌, subst, arith, rules}
use Rattle.fixpoint_queue.specs.Marks.{false_first}
use Rattle.fixpoint_queue.proofs.MarkLaws.{false-set, false-cleared}
use Rattle.fixpoint_queue.proofs.marks.Marks.set.Goals as goal

pub advanced-self-inside-requires : goal.advanced-self-inside-requires
advanced-self-inside-requires c =
    let is : c.as_slice.result.now ≡ set c.self.inside.marks.items (c.args.id - 1) c.args.mark = search rules in
    subst (λ (l : List Bool). c.self.inside.known ≤ false_first l) (sym (is ∙ ap (set c.self.inside.marks.items (c.args.id - 1)) c.if-mark.false))
    (false-cleared c.self.inside.marks.items (c.args.id - 1) c.self.inside.known c.self.invariant)

pub invariant_of-self : goal.invariant_of-self
invariant_of-self c =
    false-set c.self.inside.marks.items (c.args.id - 1) c.args.mark c.min-self-inside.result
    (omega (arith, c.min-self-inside.ensures, c.self.invariant)) (omega (arith, c.min-self-inside.ensures))
