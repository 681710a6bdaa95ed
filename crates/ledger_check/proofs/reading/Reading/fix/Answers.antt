use Rattle.std.proofs.Common.{◌≡◌, ◌+◌, length, sym, ap, subst, ◌∙◌, to_z, of_z}
use Rattle.std.specs.Int.{w64}
use Rattle.order_ints.specs.declared.atom.Atom.{Atom}
use Rattle.order_ints.specs.Place.{AtomBelow}
use Rattle.order_ints.specs.View.{resolve}
use Rattle.answer_document.specs.BoundAtoms.{fixed}
use Rattle.ledger_check.proofs.Beginnings.{fixed-resolved}
use Rattle.ledger_check.proofs.reading.Reading.fix.Goals as goal

pub fixed_checker-requires : goal.fixed_checker-requires
fixed_checker-requires c =
    let view = c.args.self.now.state.view in
    let number = to_z w64 (of_z w64 c.args.bounds.first) in
    let aim = c.args.model.now.goal in
    let same : c.resolve.result ≡ resolve view (fixed aim c.args.self.now.map.entries number) =
    c.resolve.ensures ∙ ap (λ v. resolve v c.fixed-bound.result) c.view.ensures.view
    ∙ ap (resolve view) (c.fixed-bound.ensures ∙ ap (λ es. fixed aim es number) c.as_slice.ensures) in
    subst (λ (a : Atom). AtomBelow (length view + 1) a) (sym same)
    (fixed-resolved c.args.self.now.state aim c.args.self.now.map.entries number c.view.ensures.kernel c.requires)
