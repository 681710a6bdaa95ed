use Rattle.std.proofs.Common.{◌≡◌, ◌+ℤ◌, ◌*ℤ◌, arith}
use Rattle.std.specs.Prelude.{FitsSigned}
use mir.Syntax.{w128}
use Rattle.std.proofs.lemmas.Int.{ints, to_z-of_z}
use Rattle.core_forms.proofs.Bounds.{division_from}
use Rattle.core_forms.proofs.meaning.numbers.divides.Goals as goal

pub returns : goal.returns
returns c =
    let fb : FitsSigned w128 c.args.b = c.ranges.b in
    let fq : FitsSigned w128 c.args.q = c.ranges.q in
    let p : c.product.result ≡ c.args.b *ℤ c.args.q = simp to_z-of_z at c.product.ensures in
    let s : c.sum.result ≡ c.args.b *ℤ c.args.q +ℤ c.args.r = omega (arith, ints, p) in
    grind (arith, ints, division_from c.args.a c.args.b c.args.q c.args.r c.sum.result s (omega (arith, ints)) (omega (arith, ints)))
