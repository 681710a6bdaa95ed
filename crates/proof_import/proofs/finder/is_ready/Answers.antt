use Rattle.std.proofs.Common.{ℕ, ◌+◌, subst}
use Rattle.order_ints.specs.Place.{LitBelow}
use Rattle.proof_import.proofs.finder.is_ready.Goals as goal

pub returns-then-level-eq0-clause-lits : goal.returns-then-level-eq0-clause-lits
returns-then-level-eq0-clause-lits c = λ holds l has. subst (λ (v : ℕ). LitBelow (v + 1) l) c.vars-vars.ensures.count (c.are_within.ensures holds l has)
