use Rattle.std.proofs.Common.{◌∙◌, ap, sym}
use Rattle.value_lists.specs.ValueLists.{divisor_of}
use Rattle.value_lists.proofs.Made.{listed-made}
use Rattle.value_lists.proofs.values.Values.from_vec.Goals as goal

pub invariant_of-result : goal.invariant_of-result
invariant_of-result c =
    listed-made c.args.values.items _ _ c.in_ok-new.field-0 c.in_ok-new.ensures (c.from_vec.ensures ∙ c.sorted-values.ensures) (c.gaps_divisor-divisor.ensures ∙ ap divisor_of (c.as_slice.ensures.value ∙ sym c.from_vec.ensures))
