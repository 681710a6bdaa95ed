use Rattle.std.proofs.Common.{subst}
use Rattle.std.specs.Prelude.{◌↔◌, IsTrue}
use Rattle.clause_rings.specs.Clauses.{ClauseLists, IsUnused}
use Rattle.clause_rings.proofs.clause_db.ClauseDb.is_unused.Goals as goal

pub returns : goal.returns
returns c = subst (λ (d : ClauseLists). IsTrue c.is_unused.result ↔ IsUnused d.trail.entries c.args.c) c.self.view_is c.is_unused.ensures
