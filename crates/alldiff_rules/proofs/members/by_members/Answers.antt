use Rattle.std.proofs.Common.{◌<◌, length, get_or, sym, ap, subst, ◌∙◌, arith, ℕ}
use Rattle.std.proofs.lemmas.List.{get_or_default}
use Rattle.order_ints.specs.declared.atom.Atom.{Atom}
use Rattle.order_ints.specs.declared.atom.Atom.TheVariants.{True, False}
use Rattle.core_forms.specs.WellFormed.{IsSound}
use Rattle.rule_base.specs.Pairs.{first_sought}
use Rattle.alldiff_rules.specs.Instances.{IsOneOf}
use Rattle.alldiff_rules.specs.Walks.{member_equations}
use Rattle.alldiff_rules.proofs.Sounds.{sound-at}
use Rattle.alldiff_rules.proofs.FindsLaws.{list-finds, stop-place, next-place, all-places}
use Rattle.alldiff_rules.proofs.WalkLaws.{member-read}
use Rattle.alldiff_rules.proofs.members.by_members.Goals as goal

pub by_member-pair-requires : goal.by_member-pair-requires
by_member-pair-requires c =
    subst IsSound (sym c.index-ints-place.is) (sound-at c.args.ints.now c.loop-place.place c.index-ints-place.result c.loop-place-test.true c.requires.sound)

pub loop-place-preserved : goal.loop-place-preserved
loop-place-preserved c =
    let xs = c.args.ints.now in
    let cs = c.args.conditions.now in
    let place = c.loop-place.place in
    let in_cs : place < length cs = omega (arith, c.loop-place-test.true, c.requires.lengths) in
    next-place c.args.sought (λ (k : ℕ) (a b : Atom). IsOneOf a b (member_equations c.args.tables.now xs cs k)) place c.by_member-pair.result (sym c.is_some.ensures ∙ c.if-is_some.false)
    (list-finds c.args.sought (member_equations c.args.tables.now xs cs place) c.by_member-pair.result
    (c.by_member-pair.ensures ∙ ap (first_sought c.args.sought) (member-read c.args.tables.now xs cs place (get_or cs place True) c.index-ints-place.result c.loop-place-test.true c.index-ints-place.is (get_or_default cs place True False in_cs))))
    c.loop-place.invariant

pub returns-then-is_some : goal.returns-then-is_some
returns-then-is_some c =
    let xs = c.args.ints.now in
    let cs = c.args.conditions.now in
    let place = c.loop-place.place in
    let in_cs : place < length cs = omega (arith, c.loop-place-test.true, c.requires.lengths) in
    stop-place c.args.sought (λ (k : ℕ) (a b : Atom). IsOneOf a b (member_equations c.args.tables.now xs cs k)) (length xs) place c.by_member-pair.result c.loop-place-test.true (sym c.is_some.ensures ∙ c.if-is_some.true)
    (list-finds c.args.sought (member_equations c.args.tables.now xs cs place) c.by_member-pair.result
    (c.by_member-pair.ensures ∙ ap (first_sought c.args.sought) (member-read c.args.tables.now xs cs place (get_or cs place True) c.index-ints-place.result c.loop-place-test.true c.index-ints-place.is (get_or_default cs place True False in_cs))))

pub returns : goal.returns
returns c =
    all-places c.args.sought (λ (k : ℕ) (a b : Atom). IsOneOf a b (member_equations c.args.tables.now c.args.ints.now c.args.conditions.now k)) (length c.args.ints.now) c.loop-place.place c.loop-place-test.false c.loop-place.invariant
