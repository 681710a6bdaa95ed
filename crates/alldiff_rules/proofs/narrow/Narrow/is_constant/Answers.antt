use Rattle.std.proofs.Common.{◌∙◌, ap, ℤ, Option}
use Rattle.std.specs.Int.{w128}
use Rattle.std.specs.BTreeMap.{get}
use Rattle.std.specs.Ordering.{int_cmp}
use Rattle.std.proofs.lemmas.Int.{to_z-of_z}
use Rattle.alldiff_rules.specs.declared.table.Places.{Places}
use Rattle.alldiff_rules.specs.Table.{has_others}
use Rattle.alldiff_rules.proofs.narrow.Narrow.is_constant.Goals as goal

pub returns : goal.returns
returns c =
    c.has_others.ensures ∙ ap (λ (o : Option Places). has_others 1 c.args.place o) (c.found.ensures ∙ ap (λ (v : ℤ). get int_cmp c.args.self.now.constants v) (to_z-of_z w128 c.args.value c.ranges.value))
