-- The value of an integer of one value.
use Rattle.std.proofs.Common.{◌≡◌, ℕ, ◌==◌, true, List, [], ◌∷◌, length, pos, ◌+ℤ◌, arith}
use Rattle.std.proofs.lemmas.Int.{ints}
use Rattle.std.proofs.lemmas.Bool.Decides.{nat_tests}
use Rattle.order_ints.specs.declared.atom.Atom.{Atom}
use Rattle.order_ints.specs.declared.order_int.OrdInt.{OrdInt}
use Rattle.order_ints.specs.Truth.{Valuation}
use Rattle.order_ints.specs.OrderValue.{gains, value_of}
use Rattle.order_ints.specs.OrderRange.{low_of}
use Rattle.rule_base.specs.Constant.{is_constant}

-- under every valuation it is the least value
pub constant-value : (σ : Valuation) (a : OrdInt) → is_constant a ≡ true → value_of σ a ≡ low_of a
constant-value σ a h = by_steps a.steps h
  where
    by_steps : (steps : List (Atom × ℕ)) → (length steps == 0) ≡ true → a.base +ℤ pos (gains σ steps) ≡ a.base
    by_steps [] is = omega (arith, ints)
    by_steps (s ∷ steps) is = absurd (grind (arith, nat_tests))
