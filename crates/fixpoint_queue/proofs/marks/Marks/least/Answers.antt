use Rattle.std.proofs.Common.{◌≡◌, length, ap, ◌∙◌, arith, rules}
use Rattle.fixpoint_queue.specs.Marks.{least_marked, false_first}
use Rattle.fixpoint_queue.proofs.MarkLaws.{marked-found, marked-none}
use Rattle.fixpoint_queue.proofs.marks.Marks.least.Goals as goal

pub returns-then-first-len : goal.returns-then-first-len
returns-then-first-len c =
    let count : c.len.result ≡ length c.self.inside.marks.items = search rules in
    marked-found c.self.inside.marks.items c.advanced-first.result (c.advanced-first.ensures ∙ ap false_first c.as_slice.ensures.value)
    (omega (arith, count, c.if-first-len.true))
    ∙ ap (least_marked 1) c.self.view_is

pub returns-else-first-len : goal.returns-else-first-len
returns-else-first-len c =
    let count : c.len.result ≡ length c.self.inside.marks.items = search rules in
    marked-none c.self.inside.marks.items c.advanced-first.result (c.advanced-first.ensures ∙ ap false_first c.as_slice.ensures.value)
    (omega (arith, count, c.if-first-len.false))
    ∙ ap (least_marked 1) c.self.view_is
