use Rattle.std.proofs.Common.{rules, ◌≡◌, Option, Some, IfSome, subst}
use Rattle.core_forms.specs.declared.summands.Totals.{Totals}
use Rattle.core_forms.specs.Totals.{AreTotals, AreNarrow, before_last}
use Rattle.core_forms.proofs.AddedUp.{totals-with}
use Rattle.core_forms.proofs.summands.with_another.Goals as goal

pub returns : goal.returns
returns c =
    let members = before_last c.args.members.now in
    let t = c.in_ok-totals.totals in
    let is : c.args.totals ≡ Some t = search rules in
    let h : AreTotals members t = subst (λ (o : Option Totals). IfSome o (AreTotals members)) is c.requires.totals in
    let narrow : AreNarrow t.widest members = subst (λ (o : Option Totals). IfSome o (λ all. AreNarrow all.widest members)) is c.requires.narrow in
    totals-with c.with.result members c.args.a.now t h.low h.width narrow c.with.ensures.low c.with.ensures.width c.with.ensures.widest
