use Rattle.std.proofs.Common.{[], List, ap, ◌∙◌}
use Rattle.std.proofs.lemmas.Result.{IfOk-weaker}
use Rattle.order_ints.specs.declared.atom.Atom.{Atom}
use Rattle.order_ints.specs.OrderedClauses.{ordered_clause}
use Rattle.drup_check.proofs.Additions.{ordered-as}
use Rattle.drup_check.proofs.keeping.ordered.Goals as goal

pub returns : goal.returns
returns c =
    IfOk-weaker c.ordered_clause.result _ _
    (λ kept h. ordered-as c.args.lits.now kept (h ∙ ap (λ (as_ : List Atom). ordered_clause [] as_) (c.as_slice.ensures.value ∙ c.in_ok-atoms.ensures))) c.ordered_clause.ensures
