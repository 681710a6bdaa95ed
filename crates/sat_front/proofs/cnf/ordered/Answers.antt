use Rattle.std.proofs.Common.{ap, ◌∙◌, arith, map, filter_map, ◌++◌, ◌∷◌, []}
use Rattle.std.proofs.lemmas.List.{nil_from_length}
use Rattle.std.specs.Vec.Iter.{into_iter_items}
use Rattle.order_ints.specs.declared.atom.Atom.TheVariants.{Of}
use Rattle.order_ints.specs.OrderedClauses.{ordered_clause}
use Rattle.sat_front.proofs.Lists.{ordered_each, ordered_next, ordered_all}
use Rattle.sat_front.proofs.cnf.ordered.Goals as goal

pub loop-clause-preserved : goal.loop-clause-preserved
loop-clause-preserved c =
    ordered_next c.loop-clause.kept c.add.new.self c.in-Some.clause (into_iter_items c.loop-clause.clause-iterator) (into_iter_items c.next.new.self) (ordered_each c.args.clauses.items)
    c.in-Some.ensures.steps.0
    (c.in_ok-add.ensures.added ∙ ap (λ atoms. c.loop-clause.kept ++ filter_map (ordered_clause []) (atoms ∷ [])) (c.as_slice-in-loop-clause.ensures.value ∙ c.in_ok-atoms.ensures ∙ ap (map Of) c.as_slice.ensures))
    c.loop-clause.invariant

pub returns : goal.returns
returns c =
    let none = nil_from_length (into_iter_items c.loop-clause.clause-iterator) (omega (arith, c.in-None.ensures.steps.0, c.loop-clause.clause-iterator.rest.ok.0)) in
    ordered_all c.loop-clause.kept (into_iter_items c.loop-clause.clause-iterator) (ordered_each c.args.clauses.items) none c.loop-clause.invariant
