use Rattle.std.proofs.Common.{◌≡◌, ◌∷◌, ap, sym, ◌∙◌}
use Rattle.core_forms.specs.Variables.{int_vars, ints_vars}
use Rattle.core_forms.specs.OwnVars.{with_vars}
use Rattle.core_forms.proofs.OwnVars.{others-left, too-many, where-none}
use Rattle.core_forms.proofs.few.put_ints.Goals as goal

pub loop-a-preserved : goal.loop-a-preserved
loop-a-preserved c =
    let it : c.loop-a.a-iterator ≡ c.in-Some.a.now ∷ c.next.new.self = c.in-Some.ensures.steps in
    others-left (int_vars c.in-Some.a.now) (ints_vars c.next.new.self) c.loop-a.vars c.put_int.new.self _ (ap (λ xs. with_vars (ints_vars xs) c.loop-a.vars) (sym it) ∙ c.loop-a.invariant) c.in_ok-put_int.ensures.put

pub returns-in_err-put_int-clause-full : goal.returns-in_err-put_int-clause-full
returns-in_err-put_int-clause-full c =
    let it : c.loop-a.a-iterator ≡ c.in-Some.a.now ∷ c.next.new.self = c.in-Some.ensures.steps in
    where-none c.from_residual.result
    (too-many (int_vars c.in-Some.a.now) (ints_vars c.next.new.self) c.loop-a.vars _ (ap (λ xs. with_vars (ints_vars xs) c.loop-a.vars) (sym it) ∙ c.loop-a.invariant) c.in_err-put_int.ensures.full)
