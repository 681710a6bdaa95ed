use Rattle.std.proofs.Common.{sym, subst, ◌+◌}
use Rattle.std.specs.List.{Contains}
use Rattle.order_ints.specs.declared.literal.Lit.{Lit}
use Rattle.order_ints.specs.Place.{LitBelow}
use Rattle.clause_rings.specs.Clauses.{ClauseLists}
use Rattle.clause_rings.proofs.clause_db.ClauseDb.add.Goals as goal

pub add-requires-clause-in_range : goal.add-requires-clause-in_range
add-requires-clause-in_range c = subst (λ (d : ClauseLists). (l : Lit) → Contains c.args.lits.now l → LitBelow (d.trail.vars + 1) l) (sym c.self.view_is) c.requires.in_range
