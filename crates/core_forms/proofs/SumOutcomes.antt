-- What an outcome that is the values of a fresh sum means.
use Rattle.std.proofs.Common.{◌≡◌, ◌+◌, ◌<◌, ◌≤◌, ◌^◌, length, List, ℤ, subst, sym}
use Rattle.std.specs.Prelude.{IfOk}
use Rattle.std.specs.Global.{Vec}
use Rattle.std.specs.declared.result.Result.{Result}
use Rattle.std.proofs.lemmas.Result.{IfOk-weaker}
use Rattle.order_ints.specs.declared.order_int.OrdInt.{OrdInt}
use Rattle.order_ints.specs.OrderMade.{AreAscending, AreSmall}
use Rattle.core_cost.specs.Sums.{fresh_sum_of}
use Rattle.core_forms.specs.WellFormed.{greatest_abs}
use Rattle.core_forms.specs.Shapes.{shape_of}
use Rattle.core_forms.specs.Sums.{sums_of}
use Rattle.core_forms.proofs.SumValues.{sums-some, sums-ascend, sums-small, sums-few}

module _ {E : Type 0} (r : Result (Vec ℤ) E) (a b : OrdInt) where
  abbrev IsIt : Vec ℤ → Type 0
  IsIt v = v.items ≡ sums_of a b

  -- what holds of the values holds of the vector's members
  carried : (P : List ℤ → Type 0) → P (sums_of a b) → IfOk r IsIt → IfOk r (λ v. P v.items)
  carried P p h = IfOk-weaker r IsIt (λ v. P v.items) (λ v e. subst P (sym e) p) h

  pub some_ok : IfOk r IsIt → IfOk r (λ v. 0 < length v.items)
  some_ok h = carried (λ xs. 0 < length xs) (sums-some a b) h

  pub ascending_ok : IfOk r IsIt → IfOk r (λ v. AreAscending v.items)
  ascending_ok h = carried AreAscending (sums-ascend a b) h

  pub small_ok : greatest_abs a + greatest_abs b < 2 ^ 100 → IfOk r IsIt → IfOk r (λ v. AreSmall v.items)
  small_ok limit h = carried AreSmall (sums-small a b limit) h

  pub steps_ok : IfOk r IsIt → IfOk r (λ v. length v.items ≤ (fresh_sum_of (shape_of a) (shape_of b)).steps + 1)
  steps_ok h = carried (λ xs. length xs ≤ (fresh_sum_of (shape_of a) (shape_of b)).steps + 1) (sums-few a b) h
