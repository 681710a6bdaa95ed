use Rattle.std.proofs.Common.{◌≡◌, Bool, true, sym, subst, ◌∙◌}
use Rattle.std.specs.Prelude.{◌↔◌}
use Rattle.std.proofs.lemmas.Bool.{true≢false}
use Rattle.alldiff_rules.proofs.InstanceLaws.{IsEither, told-stated}
use Rattle.alldiff_rules.proofs.instances.is_stated.Goals as goal

pub returns : goal.returns
returns c =
    subst (λ (t : Bool). (t ≡ true) ↔ IsEither c.args.core.now c.args.a c.args.b) (sym c.is_some.ensures)
    (told-stated c.args.core.now c.args.a c.args.b (λ e. true≢false (sym (c.eq.ensures.equal.1 e) ∙ c.if-eq.false)) c.in_ok-pair.pair c.in_ok-pair.ensures)
