use Rattle.std.proofs.Common.{rules, ◌≡◌, Option, Some, IfSome, subst}
use Rattle.core_forms.specs.declared.summands.Totals.{Totals}
use Rattle.core_forms.specs.Totals.{AreTotals}
use Rattle.core_forms.proofs.AddedUp.{totals-before}
use Rattle.core_forms.proofs.summands.without_last.Goals as goal

pub returns-in-Some-clause-totals : goal.returns-in-Some-clause-totals
returns-in-Some-clause-totals c =
    let ints = c.args.ints.now in
    let t = c.in_ok-totals.totals in
    let is : c.args.totals ≡ Some t = search rules in
    let h : AreTotals ints t = subst (λ (o : Option Totals). IfSome o (AreTotals ints)) is c.requires in
    totals-before c.without.result ints c.in-Some.last.now t h c.in-Some.ensures c.without.ensures.low c.without.ensures.width c.without.ensures.widest
