use Rattle.std.proofs.Common.{◌≡◌, List, IfSome, false, ◌==◌, length, subst}
use Rattle.order_ints.specs.declared.order_int.OrdInt.{OrdInt}
use Rattle.core_forms.specs.Totals.{AreTotals, before_last}
use Rattle.core_forms.proofs.AddedUp.{dropped-totals}
use Rattle.core_forms.proofs.summands.Summands.drop_last.Goals as goal

pub invariant_of-self : goal.invariant_of-self
invariant_of-self c =
    let old = c.deref_mut.result.now.ints in
    let same : c.as_slice.result.now ≡ old = cc in
    let some : (length old == 0) ≡ false = cc in
    let new : c.drop_last.new.self ≡ c.deref_mut-2.result.now.ints = cc in
    subst (λ (ys : List OrdInt). IfSome c.without_last-totals.result (AreTotals ys)) new
    (dropped-totals c.without_last-totals.result old c.drop_last.new.self some c.drop_last.ensures.dropped
    (subst (λ (ys : List OrdInt). IfSome c.without_last-totals.result (AreTotals (before_last ys))) same c.without_last-totals.ensures.totals))
