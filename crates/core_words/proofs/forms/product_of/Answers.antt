use Rattle.std.proofs.Common.{◌≡◌, ◌≤◌, sym, subst, arith}
use Rattle.std.proofs.Math.Nat.{mul-le-mul}
use Rattle.std.proofs.lemmas.Result.{IfOk-weaker}
use Rattle.core_forms.specs.declared.form.Core.{Core}
use Rattle.core_forms.specs.declared.form.Core.TheVariants.{Prod}
use Rattle.core_forms.specs.WellFormed.{greatest_abs, IsWellFormed}
use Rattle.core_forms.proofs.Limits.{small-products}
use Rattle.core_words.proofs.forms.product_of.Goals as goal

pub returns : goal.returns
returns c =
    let p : greatest_abs c.args.a ≤ 999 = omega (arith, c.requires.small.0) in
    let q : greatest_abs c.args.b ≤ 999 = omega (arith, c.requires.small.1) in
    let well : IsWellFormed (Prod c.args.a c.args.b c.args.c) =
    (c.requires.sound.0, c.requires.sound.1, c.requires.sound.2, small-products c.args.a c.args.b (omega (arith, mul-le-mul p q))) in
    IfOk-weaker c.prod.result (λ core. core ≡ Prod c.args.a c.args.b c.args.c) (λ core. IsWellFormed core) (λ core e. subst (λ (x : Core). IsWellFormed x) (sym e) well) c.prod.ensures
