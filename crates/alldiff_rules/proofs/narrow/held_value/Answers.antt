use Rattle.std.proofs.Common.{◌≡◌, ◌∙◌, sym, subst}
use Rattle.std.specs.BTreeMap.{get}
use Rattle.core_forms.specs.WellFormed.{IsSound}
use Rattle.core_forms.proofs.Bounds.{small_bits}
use Rattle.alldiff_rules.specs.Table.{pair_cmp}
use Rattle.alldiff_rules.specs.Members.{choice_of}
use Rattle.alldiff_rules.proofs.Sounds.{sound-at}
use Rattle.alldiff_rules.proofs.Holders.{end-of, read-choice, held-yes, held-no, held-none}
use Rattle.alldiff_rules.proofs.narrow.held_value.Goals as goal

pub end_value-requires : goal.end_value-requires
end_value-requires c =
    (subst IsSound (sym c.index-ints-place.is) (sound-at c.args.ints.now c.args.place c.index-ints-place.result c.requires.ints c.requires.sound)).0

pub returns-then-is_shared-clause-value : goal.returns-then-is_shared-clause-value
returns-then-is_shared-clause-value c =
    let here : c.index-ints-place.result ≡ choice_of c.in-Some.choice.low c.in-Some.choice.atom c.in-Some.choice.weight =
    read-choice c.args.ints.now c.args.place c.index-ints-place.result c.in-Some.choice.low c.in-Some.choice.atom c.in-Some.choice.weight c.requires.ints c.index-ints-place.is c.in-Some.ensures.value.1 in
    held-yes c.args.ints.now c.args.conditions.now c.args.place c.args.upper c.in-Some.choice.low c.in-Some.choice.weight c.in-Some.choice.atom
    (get pair_cmp c.args.choices.now (c.in-Some.choice.low, c.in-Some.choice.weight)) c.in-Some.ensures.value.0 c.in-Some.ensures.value.1
    (c.requires.choices (c.in-Some.choice.low, c.in-Some.choice.weight)) (sym c.is_shared.ensures ∙ c.if-is_shared.true) _
    (small_bits c.end_value.result c.end_value.ensures.small ∙ c.end_value.ensures.value
    ∙ end-of c.index-ints-place.result c.args.upper c.in-Some.choice.low c.in-Some.choice.atom c.in-Some.choice.weight here)

pub returns-else-is_shared-clause-value : goal.returns-else-is_shared-clause-value
returns-else-is_shared-clause-value c =
    held-no c.args.ints.now c.args.conditions.now c.args.place c.args.upper c.in-Some.choice.low c.in-Some.choice.weight c.in-Some.choice.atom
    (get pair_cmp c.args.choices.now (c.in-Some.choice.low, c.in-Some.choice.weight)) c.in-Some.ensures.value.0 c.in-Some.ensures.value.1
    (c.requires.choices (c.in-Some.choice.low, c.in-Some.choice.weight)) (sym c.is_shared.ensures ∙ c.if-is_shared.false)

pub returns-in-None-clause-value : goal.returns-in-None-clause-value
returns-in-None-clause-value c = held-none c.args.ints.now c.args.conditions.now c.args.place c.args.upper c.in-None.ensures.value
