-- Each clause is added, unless it is there.
use Rattle.std.proofs.Common.{map, sym, ap, ◌∙◌, arith}
use Rattle.std.proofs.lemmas.List.{nil_from_length}
use Rattle.std.specs.Vec.Iter.{into_iter_items}
use Rattle.clause_order.proofs.DistinctSteps.{literals_of, with_clause, with_clause-insert, with_each, clause_taken, each_once}
use Rattle.clause_order.proofs.distinct.set_of.Goals as goal

pub loop-clause-preserved : goal.loop-clause-preserved
loop-clause-preserved c =
    clause_taken (map literals_of c.loop-clause.set.keys) (map literals_of c.insert.new.self.keys) c.in-Some.clause (into_iter_items c.loop-clause.clause-iterator)
    (into_iter_items c.next.new.self) c.args.clauses.items c.in-Some.ensures.steps.0 (ap (map literals_of) c.in_ok-insert.ensures.keys ∙ with_clause-insert c.loop-clause.set.keys c.into_vec.result ∙ ap (with_clause (map literals_of c.loop-clause.set.keys)) c.into_vec.ensures) c.loop-clause.invariant

pub returns : goal.returns
returns c =
    let kept = map literals_of c.loop-clause.set.keys in
    let none = nil_from_length (into_iter_items c.loop-clause.clause-iterator) (omega (arith, c.in-None.ensures.steps.0, c.loop-clause.clause-iterator.rest.ok.0)) in
    ap (with_each kept) (sym none) ∙ c.loop-clause.invariant ∙ each_once c.args.clauses.items
