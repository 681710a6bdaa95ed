use Rattle.std.proofs.Common.{◌∙◌, ◌&&◌, Bool, ap, sym, ℤ}
use Rattle.std.specs.BTreeMap.{get}
use Rattle.std.specs.Ordering.{int_cmp}
use Rattle.order_ints.specs.OrderRange.{low_of}
use Rattle.alldiff_rules.specs.Table.{has_others}
use Rattle.alldiff_rules.proofs.Sounds.{same_value}
use Rattle.alldiff_rules.proofs.member_tables.Tables.is_shared_constant.Goals as goal

pub returns-then-is_constant : goal.returns-then-is_constant
returns-then-is_constant c =
    let a = c.args.a.now in
    let constants = c.args.self.now.narrow.constants in
    c.is_constant-then-is_constant.ensures ∙ ap (λ (v : ℤ). has_others 1 c.args.place (get int_cmp constants v)) (same_value c.low.result (low_of a) c.low.ensures.value c.requires.0)
    ∙ sym (ap (λ (b : Bool). b && has_others 1 c.args.place (get int_cmp constants (low_of a))) (sym c.is_constant.ensures ∙ c.if-is_constant.true))
