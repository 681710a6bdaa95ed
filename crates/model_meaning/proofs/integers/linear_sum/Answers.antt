use Rattle.std.proofs.Common.{◌≡◌, ◌≤◌, ℤ, pos, ◌*ℤ◌, unsigned_abs, get_or, to_z, of_z, w64, FitsSigned, arith, rules}
use Rattle.std.proofs.lemmas.Int.{ints, to_z-of_z}
use Rattle.model_meaning.proofs.Sums.{linear_sum-drop, linear_sum-past, no_number}
use Rattle.model_meaning.proofs.LimitLaws.{InLimit-number_of, product_in_limit}
use Rattle.model_meaning.specs.Terms.{number_of}
use Rattle.model_meaning.proofs.integers.linear_sum.Goals as goal

product_is : (x y n r : ℤ) → FitsSigned w64 x → FitsSigned w64 n → n ≡ y → r ≡ to_z w64 (of_z w64 x) *ℤ to_z w64 (of_z w64 n) → r ≡ x *ℤ y
product_is x y n r f g e h = rw (to_z-of_z w64 x f, to_z-of_z w64 n g, e) at h

pub loop-i-preserved : goal.loop-i-preserved
loop-i-preserved c =
    let a = c.args.values.now in
    let cs = c.args.coefficients.now in
    let xs = c.args.members.now in
    let i = c.loop-i.i in
    let e = linear_sum-drop a cs xs i (omega arith) (omega arith) in
    let f : FitsSigned w64 (get_or cs i (pos 0)) = search rules in
    let p : c.product-sum.result ≡ get_or cs i (pos 0) *ℤ number_of a (get_or xs i no_number) = product_is (get_or cs i (pos 0)) _ c.number_of.result c.product-sum.result f c.number_of.ensures.range c.number_of.ensures.value c.product-sum.ensures.value in
    let b : unsigned_abs c.product-sum.result ≤ 1152921504606846976 = product_in_limit (get_or cs i (pos 0)) (number_of a (get_or xs i no_number)) c.product-sum.result (c.requires.coefficients i) (InLimit-number_of a (get_or xs i no_number) c.requires.values (c.requires.members i)) p in
    record { sum = omega (arith, ints, e, p); low = omega (arith, ints, b); high = omega (arith, ints, b) }

pub returns-then-i-members : goal.returns-then-i-members
returns-then-i-members c =
    let e = linear_sum-past c.args.values.now c.args.coefficients.now c.args.members.now c.loop-i.i (omega arith) in
    omega (arith, ints, e)
