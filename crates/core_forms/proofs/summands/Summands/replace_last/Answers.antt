use Rattle.std.proofs.Common.{◌≡◌, List, [], ◌∷◌, ◌++◌, IfSome, false, ◌==◌, length, subst}
use Rattle.order_ints.specs.declared.order_int.OrdInt.{OrdInt}
use Rattle.core_forms.specs.Totals.{AreTotals, before_last}
use Rattle.core_forms.proofs.AddedUp.{replaced-totals}
use Rattle.core_forms.proofs.summands.Summands.replace_last.Goals as goal

pub invariant_of-self : goal.invariant_of-self
invariant_of-self c =
    let old = c.deref_mut.result.now.ints in
    let same : c.as_slice-ints.result.now ≡ old = cc in
    let some : (length old == 0) ≡ false = cc in
    let new : c.replace_last-last.new.self ≡ c.deref_mut-2.result.now.ints = cc in
    subst (λ (ys : List OrdInt). IfSome c.with_another-totals.result (AreTotals ys)) new
    (replaced-totals c.with_another-totals.result old c.replace_last-last.new.self c.args.a c.replace_last-last.result some c.replace_last-last.ensures.replaced
    (subst (λ (ys : List OrdInt). IfSome c.with_another-totals.result (AreTotals (before_last ys ++ c.args.a ∷ []))) same c.with_another-totals.ensures))
