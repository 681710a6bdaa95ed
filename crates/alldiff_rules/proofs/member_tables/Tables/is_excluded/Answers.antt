use Rattle.std.proofs.Common.{◌∙◌, ◌&&◌, Bool, ap, sym, ℤ}
use Rattle.std.specs.Int.{w128}
use Rattle.std.proofs.lemmas.Int.{to_z-of_z}
use Rattle.alldiff_rules.specs.Narrow.{is_needed}
use Rattle.alldiff_rules.proofs.member_tables.Tables.is_excluded.Goals as goal

pub returns-then-sure : goal.returns-then-sure
returns-then-sure c =
    let narrow = c.args.self.now.narrow in
    c.is_needed.ensures ∙ ap (λ (v : ℤ). is_needed narrow c.args.place v) (to_z-of_z w128 c.args.value c.ranges.value)
    ∙ sym (ap (λ (b : Bool). b && is_needed narrow c.args.place c.args.value) c.if-sure.true)
