use Rattle.std.proofs.Common.{sym}
use Rattle.typed_model.proofs.ScopeLaws.{sort_of-entry, sort_of-absent}
use Rattle.typed_model.proofs.scope.Scope.sort_of.Goals as goal

pub returns-in-Some : goal.returns-in-Some
returns-in-Some c =
    rw (← c.self.view_is) (sym (sort_of-entry c.args.name.now c.self.inside.sorts.entries c.self.inside.decls.items c.self.invariant c.in-Some.field-0-0 c.in-Some.field-0-1.now c.in-Some.sort.now (sym c.in-Some.ensures.index) c.in-Some.ensures.entry))

pub returns-in-None : goal.returns-in-None
returns-in-None c =
    rw (← c.self.view_is) (sym (sort_of-absent c.args.name.now c.self.inside.sorts.entries c.self.inside.decls.items c.self.invariant (sym c.in-None.ensures.index)))
