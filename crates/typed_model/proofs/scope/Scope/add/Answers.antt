use Rattle.std.proofs.Common.{sym, ◌∙◌, ap, map}
use Rattle.typed_model.specs.Scope.{entry_of}
use Rattle.typed_model.proofs.ScopeLaws.{entry-with_item}
use Rattle.typed_model.proofs.scope.Scope.add.Goals as goal

pub invariant_of-self-2 : goal.invariant_of-self-2
invariant_of-self-2 c =
    let ds = c.self.inside.decls.items in
    let d = c.args.decl in
    let pushed = rw (c.unwrap.ensures, c.in_ok-reserve.ensures.items) at c.push.ensures.items in
    let absent = rw (← c.self.view_is) at c.requires in
    entry-with_item d c.self.inside.sorts.entries c.insert.new.self.entries ds c.self.invariant absent (rw (c.in_ok-name.ensures.cases, c.sort_of.ensures) at c.in_ok-insert.ensures.entries) ∙ ap (map entry_of) (sym pushed)
