use Rattle.std.proofs.Common.{◌∙◌, ap, map, sym, subst, List}
use Rattle.order_ints.specs.declared.atom.Atom.{Atom}
use Rattle.order_ints.specs.declared.atom.Atom.TheVariants.{Of}
use Rattle.equation_store.specs.Merge.{replaced, IsReplacement}
use Rattle.equation_store.specs.Store.{IsKept}
use Rattle.equation_store.proofs.Kept.{kept-constant, kept-joined, sizes-fit, is_of-constant}
use Rattle.equation_store.proofs.relabel.apply.Goals as goal

pub take_in-requires-clause-fits : goal.take_in-requires-clause-fits
take_in-requires-clause-fits c =
    sizes-fit c.args.labels.now c.args.sizes.now c.args.next.now c.requires.kept c.args.change.loser c.in-Of.winner
    (subst (IsReplacement c.args.labels.now c.args.change.loser) c.in-Of.is c.requires.replaces)

pub returns-in-Of-clause-kept : goal.returns-in-Of-clause-kept
returns-in-Of-clause-kept c =
    let r : IsReplacement c.args.labels.now c.args.change.loser (Of c.in-Of.winner) = subst (IsReplacement c.args.labels.now c.args.change.loser) c.in-Of.is c.requires.replaces in
    subst (λ (l : List Atom). IsKept l c.take_in.new.sizes c.take_in.new.next)
    (sym (c.relabel.ensures ∙ ap (λ (n : Atom). map (replaced c.args.change.loser n) c.args.labels.now) c.in-Of.is))
    (kept-joined c.args.labels.now c.args.sizes.now c.args.next.now c.requires.kept c.args.change.loser c.in-Of.winner r c.take_in.new.sizes c.take_in.new.next c.take_in.ensures.sizes c.take_in.ensures.next)

pub returns-in_default : goal.returns-in_default
returns-in_default c = record {
  labels = c.relabel.ensures;
  kept = subst (λ (l : List Atom). IsKept l c.args.sizes.now c.args.next.now) (sym c.relabel.ensures)
      (kept-constant c.args.labels.now c.args.sizes.now c.args.next.now c.requires.kept c.args.change.loser c.args.change.label c.requires.replaces (is_of-constant c.args.change.label c.in_default.not-Of));
}
