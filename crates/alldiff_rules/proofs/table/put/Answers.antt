use Rattle.std.proofs.Common.{◌≡◌, ◌∙◌, ap, subst, Some, Option, ℤ, to_z, of_z}
use Rattle.std.specs.Option.{is_some}
use Rattle.std.specs.Int.{w128}
use Rattle.std.proofs.lemmas.Int.{to_z-of_z}
use Rattle.std.specs.BTreeMap.{get, Updates}
use Rattle.std.specs.Ordering.{int_cmp}
use Rattle.alldiff_rules.specs.declared.table.Places.{Places}
use Rattle.alldiff_rules.specs.Table.{joined}
use Rattle.alldiff_rules.proofs.table.put.Goals as goal

pub returns-clause-updates : goal.returns-clause-updates
returns-clause-updates c =
    let found : c.copied-before.result ≡ get int_cmp c.args.table.now c.args.value = c.copied-before.ensures ∙ c.get.ensures.value ∙ ap (λ (v : ℤ). get int_cmp c.args.table.now v) (to_z-of_z w128 c.args.value c.ranges.value) in
    let places : c.joined-places.result ≡ joined (get int_cmp c.args.table.now c.args.value) c.args.place = c.joined-places.ensures ∙ ap (λ (o : Option Places). joined o c.args.place) found in
    subst (λ (v : ℤ). Updates int_cmp c.args.table.now c.insert.new.self v (Some (joined (get int_cmp c.args.table.now c.args.value) c.args.place))) (to_z-of_z w128 c.args.value c.ranges.value)
    (subst (λ (p : Places). Updates int_cmp c.args.table.now c.insert.new.self (to_z w128 (of_z w128 c.args.value)) (Some p)) places c.in_ok-insert.ensures.updates)

pub returns-clause-there : goal.returns-clause-there
returns-clause-there c =
    c.is_some.ensures ∙ ap is_some (c.copied-before.ensures ∙ c.get.ensures.value ∙ ap (λ (v : ℤ). get int_cmp c.args.table.now v) (to_z-of_z w128 c.args.value c.ranges.value))
