use Rattle.std.proofs.Common.{w64, ℤ, ◌≡◌, ◌∙◌, ◌*ℤ◌, ◌≤◌, ◌^◌, unsigned_abs, to_z, of_z, FitsSigned}
use Rattle.std.specs.Int.{w128}
use Rattle.std.proofs.lemmas.Int.{to_z-of_z}
use Rattle.model_meaning.proofs.Wide.{wide-product, abs-product}
use Rattle.model_meaning.proofs.integers.product.Goals as goal

value_of : (a b x y : ℤ) → FitsSigned w64 a → FitsSigned w64 b → x ≡ a → y ≡ b → to_z w128 (of_z w128 (to_z w128 (of_z w128 x) *ℤ to_z w128 (of_z w128 y))) ≡ a *ℤ b
value_of a b x y f g p q = rw (p, q) (wide-product a b f g)

range_of : (a b z : ℤ) → FitsSigned w64 a → FitsSigned w64 b → z ≡ a *ℤ b → unsigned_abs z ≤ 2 ^ 126
range_of a b z f g e = rw e (abs-product a b f g)

pub returns : goal.returns
returns c =
    let a : c.from.result ≡ c.args.left = c.from.ensures ∙ to_z-of_z w64 c.args.left c.ranges.left in
    let b : c.from-2.result ≡ c.args.right = c.from-2.ensures ∙ to_z-of_z w64 c.args.right c.ranges.right in
    let e = value_of c.args.left c.args.right c.from.result c.from-2.result c.ranges.left c.ranges.right a b in
    record { value = e; range = range_of c.args.left c.args.right _ c.ranges.left c.ranges.right e }
