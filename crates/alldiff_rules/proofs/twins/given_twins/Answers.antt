use Rattle.std.proofs.Common.{sym, ◌∙◌, subst}
use Rattle.std.proofs.lemmas.Bool.{true≢false}
use Rattle.order_ints.specs.Truth.{not_atom}
use Rattle.alldiff_rules.specs.Twins.{HasTwins}
use Rattle.alldiff_rules.proofs.TwinLaws.{no-pair}
use Rattle.alldiff_rules.proofs.twins.given_twins.Goals as goal

pub returns : goal.returns
returns c =
    let xs = c.args.ints.now in
    let cs = c.args.conditions.now in
    let first : HasTwins xs cs c.args.a (not_atom c.args.b) → ⊥ = λ h. true≢false (sym (c.in_ok-has_twins.ensures.1 (subst (HasTwins xs cs c.args.a) (sym c.not.ensures) h)) ∙ c.if-branch.false) in
    let second : HasTwins xs cs c.args.b (not_atom c.args.a) → ⊥ = λ h. true≢false (sym (c.in_ok-has_twins-2.ensures.1 (subst (HasTwins xs cs c.args.b) (sym c.not-2.ensures) h)) ∙ c.if-branch-2.false) in
    no-pair xs cs c.args.a c.args.b first second
