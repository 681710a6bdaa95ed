use Rattle.std.proofs.Common.{ap, ◌∙◌}
use Rattle.std.specs.Prelude.{Option}
use Rattle.std.specs.Option.{option_or}
use Rattle.order_ints.specs.declared.atom.Atom.{Atom}
use Rattle.alldiff_rules.proofs.WalkLaws.{value-found}
use Rattle.alldiff_rules.proofs.members.at_value.Goals as goal

pub returns : goal.returns
returns c =
    c.or-2.ensures ∙ ap (λ (o : Option (Atom × Atom)). option_or o c.when-passed.result) c.or.ensures
    ∙ value-found c.args.sought c.args.needed c.args.alone c.args.here c.args.above c.when-by_need.result c.when-reached.result c.when-passed.result
    c.when-by_need.ensures c.when-reached.ensures c.when-passed.ensures
