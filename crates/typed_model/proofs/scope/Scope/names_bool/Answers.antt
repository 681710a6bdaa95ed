use Rattle.std.proofs.Common.{◌∙◌}
use Rattle.typed_model.specs.Scope.{kind_of}
use Rattle.typed_model.proofs.ScopeLaws.{is_bool-sort}
use Rattle.typed_model.proofs.scope.Scope.names_bool.Goals as goal

pub returns : goal.returns
returns c = rw c.sort_of.ensures at c.sort_is_bool.ensures ∙ is_bool-sort (kind_of c.args.name.now c.args.self.now)
