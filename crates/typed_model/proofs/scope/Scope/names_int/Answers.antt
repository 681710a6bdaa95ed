use Rattle.std.proofs.Common.{◌∙◌}
use Rattle.typed_model.specs.Scope.{kind_of}
use Rattle.typed_model.proofs.ScopeLaws.{is_int-sort}
use Rattle.typed_model.proofs.scope.Scope.names_int.Goals as goal

pub returns : goal.returns
returns c = rw c.sort_of.ensures at c.sort_is_int.ensures ∙ is_int-sort (kind_of c.args.name.now c.args.self.now)
