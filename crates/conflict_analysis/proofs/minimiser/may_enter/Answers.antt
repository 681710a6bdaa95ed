use Rattle.std.proofs.Common.{◌≡◌, ℕ, false, Option, Some, None, is_some, sym, ap, ◌∙◌, refl}
use Rattle.literal_trail.specs.declared.entry.Entry.{Entry}
use Rattle.conflict_analysis.proofs.Places.{decision-above}
use Rattle.conflict_analysis.proofs.minimiser.may_enter.Goals as goal

no-reason : (o : Option ℕ) → is_some o ≡ false → o ≡ None
no-reason None h = refl
no-reason (Some c) h = cc

pub returns-else-is_some-clause-no : goal.returns-else-is_some-clause-no
returns-else-is_some-clause-no g c f e found =
    let same : e ≡ c.in-Some.entry = let q : Some e ≡ Some c.in-Some.entry = sym found ∙ sym c.entry_of.ensures ∙ c.in-Some.is in cc in
    decision-above (g.T.Reasons.trail c.args.source.now) c.requires.trail c.args.var e found
    (no-reason e.reason (ap (λ (x : Entry). is_some x.reason) same ∙ sym c.is_some.ensures ∙ f))
