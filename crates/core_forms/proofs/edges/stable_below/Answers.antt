use Rattle.std.proofs.Common.{◌≡◌, ◌+◌, List, length, IfSome, sym, ap, subst, ◌∙◌}
use Rattle.order_ints.specs.declared.order_int.OrdInt.{OrdInt}
use Rattle.core_forms.specs.declared.form.Core.{Core}
use Rattle.core_forms.specs.declared.form.Core.TheVariants.{Sum, Lex}
use Rattle.core_forms.specs.Edges.{InsideBelow, greatest_vars}
use Rattle.core_forms.specs.Place.{CoreBelow}
use Rattle.core_forms.specs.Totals.{before_last}
use Rattle.core_forms.proofs.EdgeLaws.{inside-below}
use Rattle.core_forms.proofs.GreatestVars.{some-below, some-words}
use Rattle.core_forms.proofs.edges.stable_below.Goals as goal

pub returns-in-Sum-clause-below : goal.returns-in-Sum-clause-below
returns-in-Sum-clause-below c =
    let n = length c.args.view.now + 1 in
    let r = c.greatest_stable.result in
    let below = inside-below n (Sum c.in-Sum.ints c.in-Sum.field-1) (subst (CoreBelow n) c.in-Sum.is c.requires.below) in
    let members : c.before_last.result.now ≡ before_last c.in-Sum.ints = c.before_last.ensures ∙ ap before_last c.as_slice.ensures in
    subst (λ (core : Core). IfSome r (λ most. InsideBelow (most + 1) core)) (sym c.in-Sum.is)
    (some-below r n 0 (before_last c.in-Sum.ints) below
    (subst (λ (xs : List OrdInt). IfSome r (λ all. all ≡ greatest_vars 0 xs)) members c.greatest_stable.ensures.greatest))

pub returns-in_ok-most-in-Lex-clause-below : goal.returns-in_ok-most-in-Lex-clause-below
returns-in_ok-most-in-Lex-clause-below c =
    let n = length c.args.view.now + 1 in
    let r = c.greatest_stable-in-Lex-2.result in
    let most = c.in_ok-most-in-Lex.most in
    let front = c.in-Lex.front in
    let back = c.in-Lex.back in
    let below = inside-below n (Lex c.in-Lex.field-0 c.in-Lex.field-1 front back) (subst (CoreBelow n) c.in-Lex.is c.requires.below) in
    let first : most ≡ greatest_vars 0 front =
    c.in_ok-most-in-Lex.ensures.greatest ∙ ap (greatest_vars 0) (c.as_slice-in-Lex.ensures ∙ c.get.ensures) in
    subst (λ (core : Core). IfSome r (λ all. InsideBelow (all + 1) core)) (sym c.in-Lex.is)
    (some-words r n 0 most front back below first
    (subst (λ (xs : List OrdInt). IfSome r (λ all. all ≡ greatest_vars most xs)) (c.as_slice-in-Lex-2.ensures ∙ c.get-in-Lex.ensures) c.greatest_stable-in-Lex-2.ensures.greatest))
