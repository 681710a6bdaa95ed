use Rattle.std.proofs.Common.{rules, ◌≡◌, ◌+◌, ℕ, true, subst}
use Rattle.order_ints.specs.Place.{LitBelow}
use Rattle.search_rows.proofs.Clauses.{in-range, apart}
use Rattle.search_rows.proofs.stores.add.Goals as goal

pub add-requires-clause-in_range : goal.add-requires-clause-in_range
add-requires-clause-in_range c = λ l is_in.
    let fits : c.is_clause.result ≡ true = search rules in
    subst (λ (n : ℕ). LitBelow (n + 1) l) c.vars.ensures.count (in-range 0 c.vars.result c.args.lits.now l (c.is_clause.ensures fits) is_in)

pub add-requires-clause-apart : goal.add-requires-clause-apart
add-requires-clause-apart c =
    let fits : c.is_clause.result ≡ true = search rules in
    apart 0 c.vars.result c.args.lits.now (c.is_clause.ensures fits)
