use Rattle.std.proofs.Common.{◌≡◌, ◌<◌, ℤ, pos, length, get_or, sym, subst, ◌∙◌, arith}
use Rattle.std.specs.BTreeSet.{contains}
use Rattle.std.specs.Ordering.{int_cmp}
use Rattle.std.proofs.lemmas.List.{get_or_default}
use Rattle.order_ints.specs.declared.atom.Atom.TheVariants.{True, False}
use Rattle.order_ints.specs.OrderMade.{constant_of}
use Rattle.core_forms.specs.WellFormed.{IsSound}
use Rattle.alldiff_rules.proofs.Sounds.{sound-at}
use Rattle.equation_runs.proofs.DifferentSteps.{member-told}
use Rattle.equation_runs.proofs.different.push_members.Goals as goal

pub push_member-requires : goal.push_member-requires
push_member-requires c =
    subst IsSound (sym c.index-ints-place.is) (sound-at c.args.ints.now c.loop-place.place c.index-ints-place.result c.loop-place-test.true c.requires.sound)

pub loop-place-preserved : goal.loop-place-preserved
loop-place-preserved c =
    let xs = c.args.ints.now in
    let cs = c.args.conditions.now in
    let place = c.loop-place.place in
    let taken = c.args.taken.now in
    let in_cs : place < length cs = omega (arith, c.loop-place-test.true, c.requires.lengths) in
    member-told (contains int_cmp taken.held) (contains int_cmp taken.shared) xs cs place c.args.run.now.items c.loop-place.run.items c.push_member.new.run.items
    (get_or cs place True) c.index-ints-place.result (get_or_default cs place True False in_cs)
    (c.index-ints-place.is ∙ get_or_default xs place c.index-ints-place.result (constant_of (pos 0)) c.loop-place-test.true)
    c.loop-place.invariant c.in_ok-push_member.ensures
