use Rattle.std.proofs.Common.{◌∙◌, ap, ℤ}
use Rattle.std.specs.BTreeMap.{get}
use Rattle.core_forms.proofs.Bounds.{small_bits}
use Rattle.alldiff_rules.specs.Table.{pair_cmp}
use Rattle.alldiff_rules.proofs.narrow.found_choice.Goals as goal

pub returns : goal.returns
returns c =
    c.copied.ensures ∙ c.get.ensures.value ∙ ap (λ (v : ℤ). get pair_cmp c.args.choices.now (v, c.args.choice.weight)) (small_bits c.args.choice.low c.requires)
