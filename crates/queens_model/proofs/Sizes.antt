-- The model of each size from 4 to 24 is well typed, in the limits, and not too heavy. This is computed, size by size.
use Rattle.std.proofs.Common.{◌≡◌, ℕ, zero, suc, ◌+◌, ◌<◌, ◌≤◌, ◌⊎◌, Bool, true, ◌&&◌, nat_le, refl, sym, subst, inl, inr, ⊎_elim, arith}
use Rattle.std.proofs.lemmas.Bool.{and_parts, leb-true}
use Rattle.std.specs.Fmt.{digits}
use Rattle.core_cost.specs.Divisor.{common_divisor_of}
use Rattle.model_meaning.specs.declared.model.Model.{Model}
use Rattle.model_meaning.specs.WellTyped.{WellTyped}
use Rattle.model_meaning.specs.Limits.{InLimits}
use Rattle.model_weight.specs.Weight.{weight_of}
use Rattle.model_lower.specs.Weighed.{most_weight}
use Rattle.queens_model.specs.Queens.{queens}
use Rattle.queens_model.proofs.ModelTests.{decls_test, decls_fit, decls_limit_test, decls_in_limit, apart_test, shares_fit}
use Rattle.queens_model.proofs.StatementTests.{stmts_test, stmts_fit, stmts_in_limit}

-- tests of one size

decls_are : ℕ → Bool
decls_are size = decls_test 1 (queens size).decls && decls_limit_test (queens size).decls

stmts_are : ℕ → Bool
stmts_are size = stmts_test (queens size).decls 1 (queens size).stmts

numbers_are : ℕ → Bool
numbers_are size = apart_test (queens size).decls (queens size).stmts

weight_is : ℕ → Bool
weight_is size = nat_le (weight_of (queens size)) most_weight

-- of so many sizes, from one on

module _ (test : ℕ → Bool) where
  tests_from : ℕ → ℕ → Bool
  tests_from first zero = true
  tests_from first (suc count) = test first && tests_from (first + 1) count

  tested : (first count n : ℕ) → tests_from first count ≡ true → first ≤ n → n < first + count → test n ≡ true
  unfolding tests_from
  tested first zero n h least most = absurd (none first n least most)
    where
      none : (a b : ℕ) → a ≤ b → b < a + 0 → ⊥
      none a b p q = omega (arith, p, q)
  tested first (suc count) n h least most =
      let parts = and_parts (test first) (tests_from (first + 1) count) h in
      ⊎_elim (λ (e : first ≡ n). subst (λ (k : ℕ). test k ≡ true) e parts.0)
      (λ (more : first + 1 ≤ n). tested (first + 1) count n parts.1 more (later first count n most)) (cases first n least)
    where
      later : (a b k : ℕ) → k < a + suc b → k < (a + 1) + b
      later a b k q = omega (arith, q)

      cases : (a k : ℕ) → a ≤ k → (a ≡ k) ⊎ (a + 1 ≤ k)
      cases a k q = grind (arith, q)

-- every size

decls_all : tests_from decls_are 4 21 ≡ true
unfolding tests_from decls_are digits
decls_all = refl

stmts_all : tests_from stmts_are 4 21 ≡ true
unfolding tests_from stmts_are
stmts_all = refl

numbers_all : tests_from numbers_are 4 21 ≡ true
unfolding tests_from numbers_are
numbers_all = refl

weights_all : tests_from weight_is 4 21 ≡ true
unfolding tests_from weight_is common_divisor_of
weights_all = refl

module _ (size : ℕ) (least : 4 ≤ size) (most : size ≤ 24) where
  below : size < 4 + 21
  below = omega (arith, most)

  decls_here : (decls_test 1 (queens size).decls && decls_limit_test (queens size).decls) ≡ true
  unfolding decls_are
  decls_here = tested decls_are 4 21 size decls_all least below

  stmts_here : stmts_test (queens size).decls 1 (queens size).stmts ≡ true
  unfolding stmts_are
  stmts_here = tested stmts_are 4 21 size stmts_all least below

  numbers_here : apart_test (queens size).decls (queens size).stmts ≡ true
  unfolding numbers_are
  numbers_here = tested numbers_are 4 21 size numbers_all least below

  weight_here : nat_le (weight_of (queens size)) most_weight ≡ true
  unfolding weight_is
  weight_here = tested weight_is 4 21 size weights_all least below

  decls_parts : (decls_test 1 (queens size).decls ≡ true) × (decls_limit_test (queens size).decls ≡ true)
  decls_parts = and_parts (decls_test 1 (queens size).decls) (decls_limit_test (queens size).decls) decls_here

  pub well_typed : WellTyped (queens size)
  well_typed = record {
    decls = decls_fit 1 (queens size).decls decls_parts.0;
    stmts = stmts_fit (queens size).decls 1 (queens size).stmts stmts_here;
    shares = shares_fit (queens size).decls (queens size).stmts numbers_here;
    goal = tt;
  }

  pub in_limits : InLimits (queens size)
  in_limits = (decls_in_limit (queens size).decls decls_parts.1, stmts_in_limit (queens size).decls 1 (queens size).stmts stmts_here)

  pub is_light : weight_of (queens size) ≤ most_weight
  is_light = leb-true (weight_of (queens size)) most_weight weight_here
