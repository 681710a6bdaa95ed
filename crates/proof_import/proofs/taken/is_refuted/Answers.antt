use Rattle.std.proofs.Common.{◌≡◌, [], ◌∷◌, true, ap, sym, ◌∙◌, subst, inr}
use Rattle.order_ints.specs.declared.literal.Lit.{Lit}
use Rattle.order_ints.specs.Truth.{not_lit}
use Rattle.proof_check.specs.Known.{known}
use Rattle.drup_check.proofs.Trails.{lit-same}
use Rattle.proof_import.specs.Assumed.{IsRefuted}
use Rattle.proof_import.proofs.taken.is_refuted.Goals as goal

pub returns-else-known : goal.returns-else-known
returns-else-known c = λ holds.
    let e : c.negated.result ≡ not_lit c.in-Some.l = lit-same c.negated.result (not_lit c.in-Some.l) c.negated.ensures.var c.negated.ensures.sign in
    let k : known c.args.checker.now (not_lit c.in-Some.l ∷ []) ≡ true = ap (λ (x : Lit). known c.args.checker.now (x ∷ [])) (sym e) ∙ sym c.known-else-known.ensures ∙ holds in
    subst (IsRefuted c.args.checker.now) (sym c.in-Some.is) (inr k)
