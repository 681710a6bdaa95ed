use Rattle.std.proofs.Common.{◌≡◌, ◌≤◌, sym, subst, arith}
use Rattle.std.proofs.Math.Nat.{mul-le-mul}
use Rattle.std.proofs.lemmas.Result.{IfOk-weaker}
use Rattle.core_forms.specs.declared.form.Core.{Core}
use Rattle.core_forms.specs.declared.form.Core.TheVariants.{DivMod}
use Rattle.core_forms.specs.WellFormed.{greatest_abs, IsWellFormed}
use Rattle.core_forms.proofs.Limits.{small-divisions}
use Rattle.core_words.proofs.forms.division_of.Goals as goal

pub returns : goal.returns
returns c =
    let p : greatest_abs c.args.b ≤ 999 = omega (arith, c.requires.small.0) in
    let q : greatest_abs c.args.q ≤ 999 = omega (arith, c.requires.small.1) in
    let well : IsWellFormed (DivMod c.args.a c.args.b c.args.q c.args.r) =
    (c.requires.sound.0, c.requires.sound.1, c.requires.sound.2, c.requires.sound.3, c.requires.least.0, c.requires.least.1, small-divisions c.args.b c.args.q c.args.r (omega (arith, mul-le-mul p q, c.requires.small.2))) in
    IfOk-weaker c.div_mod.result (λ core. core ≡ DivMod c.args.a c.args.b c.args.q c.args.r) (λ core. IsWellFormed core) (λ core e. subst (λ (x : Core). IsWellFormed x) (sym e) well) c.div_mod.ensures
