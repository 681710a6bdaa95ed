use Rattle.std.proofs.Common.{ap, sym, ◌++◌, ◌∙◌}
use Rattle.std.specs.Prelude.{Option, Some}
use Rattle.std.specs.Option.{option_or}
use Rattle.order_ints.specs.declared.atom.Atom.{Atom}
use Rattle.rule_base.specs.declared.sought.SoughtEquation.TheVariants.{Apart}
use Rattle.rule_base.specs.Pairs.{first_sought}
use Rattle.rule_base.proofs.PairLaws.{both-found}
use Rattle.alldiff_rules.specs.declared.table.Places.{Places}
use Rattle.alldiff_rules.specs.Twins.{twin_equations, shown_equations}
use Rattle.alldiff_rules.proofs.twins.apart_from_each.Goals as goal

pub returns : goal.returns
returns c =
    let one = twin_equations c.args.ints.now c.args.atom c.args.place (Some c.in-Some.places.first) in
    let two = twin_equations c.args.ints.now c.args.atom c.args.place c.in-Some.places.second in
    let three = twin_equations c.args.ints.now c.args.atom c.args.place c.in-Some.places.third in
    c.or-2.ensures ∙ ap (λ (o : Option (Atom × Atom)). option_or o c.apart_from-with_third.result) c.or.ensures
    ∙ both-found Apart (one ++ two) three (option_or c.apart_from-with_first.result c.apart_from-with_second.result) c.apart_from-with_third.result
    (both-found Apart one two c.apart_from-with_first.result c.apart_from-with_second.result c.apart_from-with_first.ensures c.apart_from-with_second.ensures) c.apart_from-with_third.ensures
    ∙ ap (λ (o : Option Places). first_sought Apart (shown_equations c.args.ints.now c.args.atom c.args.place o)) (sym c.in-Some.is)
