use Rattle.std.proofs.Common.{◌≡◌, List, [], length, ap, subst, arith, ℕ}
use Rattle.std.proofs.lemmas.List.{nil_from_length}
use Rattle.conflict_analysis.specs.Marking.{Marking}
use Rattle.conflict_analysis.proofs.Touched.{IsClearing, clearing-end}
use Rattle.conflict_analysis.proofs.marks.Marks.clear.Goals as goal

pub returns : goal.returns
returns c =
    let same : c.self.inside.cells.items ≡ c.args.self.now.cells = ap (λ (m : Marking). m.cells) c.self.view_is in
    let none : c.loop-v.self-inside.touched.items ≡ [] = nil_from_length _ (omega (arith, c.in_default.ensures.cases)) in
    rw (← same) (clearing-end (length c.self.inside.cells.items) c.loop-v.self-inside.cells.items (subst (λ (vs : List ℕ). IsClearing (length c.self.inside.cells.items) c.loop-v.self-inside.cells.items vs) none c.loop-v.invariant))
