use Rattle.std.proofs.Common.{◌≡◌, ◌∙◌, ap, subst, Some, Option, ℤ, to_z, of_z}
use Rattle.std.specs.Int.{w128}
use Rattle.std.proofs.lemmas.Int.{to_z-of_z}
use Rattle.std.specs.BTreeMap.{get, Updates}
use Rattle.alldiff_rules.specs.declared.table.Places.{Places}
use Rattle.alldiff_rules.specs.Table.{pair_cmp, joined}
use Rattle.alldiff_rules.proofs.table.put_pair.Goals as goal

pub returns : goal.returns
returns c =
    let found : c.copied.result ≡ get pair_cmp c.args.table.now (c.args.low, c.args.weight) = c.copied.ensures ∙ c.get.ensures.value ∙ ap (λ (v : ℤ). get pair_cmp c.args.table.now (v, c.args.weight)) (to_z-of_z w128 c.args.low c.ranges.low) in
    let places : c.joined-places.result ≡ joined (get pair_cmp c.args.table.now (c.args.low, c.args.weight)) c.args.place = c.joined-places.ensures ∙ ap (λ (o : Option Places). joined o c.args.place) found in
    subst (λ (v : ℤ). Updates pair_cmp c.args.table.now c.insert.new.self (v, c.args.weight) (Some (joined (get pair_cmp c.args.table.now (c.args.low, c.args.weight)) c.args.place))) (to_z-of_z w128 c.args.low c.ranges.low)
    (subst (λ (p : Places). Updates pair_cmp c.args.table.now c.insert.new.self (to_z w128 (of_z w128 c.args.low), c.args.weight) (Some p)) places c.in_ok-insert.ensures.updates)
