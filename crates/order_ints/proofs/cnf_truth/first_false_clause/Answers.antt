-- A clause that is false, where those so far are true, is the first one.
use Rattle.std.proofs.Common.{◌≡◌, ◌+◌, Bool, false, cond, Some, get_or, drop, sym, ap, ◌∙◌}
use Rattle.std.proofs.lemmas.List.{at_drop_more}
use Rattle.order_ints.specs.Truth.{valuation_of}
use Rattle.order_ints.specs.Satisfies.{clause_truth}
use Rattle.order_ints.specs.FirstFalse.{first_false_from}
use Rattle.order_ints.proofs.cnf_truth.first_false_clause.Goals as goal

pub returns-then-not-is_clause_true : goal.returns-then-not-is_clause_true
returns-then-not-is_clause_true c =
    let σ = valuation_of c.args.sigma.now in
    let clauses = c.args.clauses.now in
    let i = c.loop-i.i in
    let clause = c.index-clauses-i.result in
    let is_false : clause_truth σ (get_or clauses i clause) ≡ false =
    ap (clause_truth σ) (sym (c.as_slice.ensures ∙ c.index-clauses-i.is)) ∙ sym c.is_clause_true.ensures ∙ c.if-not-is_clause_true.true in
    let stops : first_false_from i σ (drop i clauses) ≡ Some i =
    at_drop_more (first_false_from i σ) clauses i clause c.loop-i-test.true ∙ ap (λ (t : Bool). cond t (first_false_from (i + 1) σ (drop (i + 1) clauses)) (Some i)) is_false in
    sym stops ∙ c.loop-i.invariant
