use Rattle.std.proofs.Common.{◌≡◌, ◌<◌, true, length, ap}
use Rattle.conflict_analysis.specs.Marking.{Marking, mark_at, is_blank}
use Rattle.conflict_analysis.proofs.Cells.{blank-is}
use Rattle.conflict_analysis.proofs.Touched.{touched-push}
use Rattle.conflict_analysis.proofs.marks.Marks.set.Goals as goal

pub invariant_of-self-2 : goal.invariant_of-self-2
invariant_of-self-2 c =
    let same : c.self.inside.cells.items ≡ c.args.self.now.cells = ap (λ (m : Marking). m.cells) c.self.view_is in
    let low : c.args.v < length c.self.inside.cells.items = rw same c.requires.inside in
    let blank : is_blank (mark_at c.self.inside.cells.items c.args.v) ≡ true = rw same cc in
    rw c.in_ok-push.ensures.items (touched-push c.self.inside.cells.items c.self.inside.touched.items c.args.v c.args.mark c.self.invariant low c.requires.real (blank-is _ blank))
