use Rattle.std.proofs.Common.{◌-◌, ◌++◌, ◌∷◌, length, take, drop, length-take, ap, ◌∙◌, arith}
use Rattle.std.proofs.lemmas.List.{take-take}
use Rattle.core_forms.proofs.Turned.{set-last, put_mid-turned}
use Rattle.core_forms.proofs.few.put_between.Goals as goal

pub returns : goal.returns
returns c =
    let vars = c.args.vars.now in
    let last = length vars - 1 in
    let is = set-last vars c.args.var (omega arith) in
    put_mid-turned _ (take last vars) c.args.var c.args.place _ c.rotate_right.new.self is (omega (arith, length-take last vars)) (omega arith) c.rotate_right.ensures.after
    ∙ ap (λ front. front ++ c.args.var ∷ drop c.args.place (take last vars)) (take-take c.args.place last vars (omega arith))
