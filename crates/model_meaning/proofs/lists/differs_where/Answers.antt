use Rattle.std.proofs.lemmas.Int.{to_z-of_z}
use Rattle.std.proofs.Common.{w64, Bool, true, false, not, ◌&&◌, ◌≡◌, arith, sym, ◌∙◌, drop}
use Rattle.std.proofs.lemmas.List.{length-map, length-drop}
use Rattle.model_meaning.specs.Terms.{truths_of, numbers_of}
use Rattle.model_meaning.proofs.ListLaws.{differs_where-end, differs_where-drop}
use Rattle.model_meaning.proofs.lists.differs_where.Goals as goal

pub returns-then-i-conditions : goal.returns-then-i-conditions
returns-then-i-conditions c =
    let a = c.args.values.now in
    let ys = numbers_of a (drop c.loop-i.i c.args.members.now) in
    let cs = truths_of a (drop c.loop-i.i c.args.conditions.now) in
    sym (differs_where-end c.args.number ys cs (simp (length-map, length-drop) (omega arith))) ∙ rw (to_z-of_z w64 c.args.number c.ranges.number) at c.loop-i.invariant

passed : (t rest before whole : Bool) → false ≡ t → before ≡ (not t && rest) → before ≡ whole → rest ≡ whole
passed true rest before whole f e h = cc
passed false rest before whole f e h = sym e ∙ h

pub loop-i-preserved : goal.loop-i-preserved
loop-i-preserved c =
    let a = c.args.values.now in
    let e = differs_where-drop a c.args.number c.args.members.now c.args.conditions.now c.loop-i.i (omega arith) (omega arith) in
    let h = rw (to_z-of_z w64 c.args.number c.ranges.number) at c.loop-i.invariant in
    let f = rw (to_z-of_z w64 c.args.number c.ranges.number) at c.if-is_taken.ensures in
    rw (to_z-of_z w64 c.args.number c.ranges.number) (passed _ _ _ _ f e h)
