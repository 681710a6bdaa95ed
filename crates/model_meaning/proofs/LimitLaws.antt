-- Numbers in the limit: what terms are worth, and how large products are.
use Rattle.std.proofs.Common.{◌≡◌, ◌≤◌, ℤ, ◌*ℤ◌, unsigned_abs, List}
use Rattle.std.proofs.lemmas.Int.{unsigned_abs-mul}
use Rattle.std.proofs.Math.Nat.{mul-le-mul}
use Rattle.model_meaning.specs.declared.what.IntTerm.{IntTerm}
use Rattle.model_meaning.specs.declared.what.IntTerm.TheVariants as int_term
use Rattle.model_meaning.specs.Terms.{number_of}
use Rattle.model_meaning.specs.Limits.{InLimit, AllInLimit, TermInLimit}

pub InLimit-number_of : (a : List ℤ) (t : IntTerm) → AllInLimit a → TermInLimit t → InLimit (number_of a t)
InLimit-number_of a (int_term.Number n) h k = k
InLimit-number_of a (int_term.Of place) h k = h place

pub product_in_limit : (x y r : ℤ) → InLimit x → InLimit y → r ≡ x *ℤ y → unsigned_abs r ≤ 1152921504606846976
product_in_limit x y r h k e = rw (e, unsigned_abs-mul x y) (mul-le-mul h k)
