use Rattle.std.proofs.Common.{◌∙◌}
use Rattle.typed_model.proofs.ScopeLaws.{place_of-entries}
use Rattle.typed_model.proofs.scope.Scope.place_of.Goals as goal

pub returns : goal.returns
returns c =
    c.get_index_of.ensures.index ∙ rw (← c.self.view_is) (place_of-entries c.args.name.now c.self.inside.sorts.entries c.self.inside.decls.items c.self.invariant)
