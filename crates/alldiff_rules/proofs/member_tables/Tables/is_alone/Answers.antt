use Rattle.std.proofs.Common.{◌≡◌, ◌∙◌, ◌&&◌, Bool, not, ap, sym, ℤ, Option}
use Rattle.std.specs.Int.{w128}
use Rattle.std.specs.BTreeMap.{get}
use Rattle.std.specs.Ordering.{int_cmp}
use Rattle.std.proofs.lemmas.Int.{to_z-of_z}
use Rattle.alldiff_rules.specs.declared.table.Places.{Places}
use Rattle.alldiff_rules.specs.Table.{has_others}
use Rattle.alldiff_rules.proofs.member_tables.Tables.is_alone.Goals as goal

pub returns-then-self : goal.returns-then-self
returns-then-self c =
    let tables = c.args.self.now in
    let told : c.has_others.result ≡ has_others 1 c.args.place (get int_cmp tables.tally.values c.args.value) =
    c.has_others.ensures ∙ ap (λ (o : Option Places). has_others 1 c.args.place o) (c.found.ensures ∙ ap (λ (v : ℤ). get int_cmp tables.tally.values v) (to_z-of_z w128 c.args.value c.ranges.value)) in
    ap not told ∙ sym (ap (λ (b : Bool). b && not (has_others 1 c.args.place (get int_cmp tables.tally.values c.args.value))) c.if-self.true)
