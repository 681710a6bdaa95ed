-- The members of a linear statement: their values, added up, and their limits.
use Rattle.std.proofs.Common.{◌≡◌, ℕ, zero, suc, ◌+◌, ◌*◌, ◌<◌, ◌≤◌, ◌^◌, ℤ, pos, negsuc, ◌+ℤ◌, ◌*ℤ◌, Bool, true, false, ◌&&◌, List, [], ◌∷◌, length, map, refl, ap, ◌∙◌, arith}
use Rattle.std.specs.Prelude.{neg_ℤ, unsigned_abs, if◌then◌else◌}
use Rattle.std.specs.Ordering.{int_eq}
use Rattle.std.proofs.lemmas.Bool.{and_parts}
use Rattle.std.proofs.lemmas.Bool.Decides.{same_from_decides, Decides-int_eq, Decides-like}
use Rattle.std.proofs.lemmas.Int.{ints, unsigned_abs-mul}
use Rattle.order_ints.specs.declared.atom.Atom.{Atom}
use Rattle.order_ints.specs.declared.order_int.OrdInt.{OrdInt}
use Rattle.order_ints.specs.Truth.{Valuation}
use Rattle.order_ints.specs.OrderMade.{integer_of_atom}
use Rattle.order_ints.specs.OrderRange.{low_of, high_of, IsBounded, IntBelow}
use Rattle.order_ints.specs.OrderValue.{gains, value_of, in_order, IsOrdered}
use Rattle.order_ints.specs.OrderChange.{negated_of, multiplied_of, scaled_of}
use Rattle.order_ints.proofs.Negation.{value_of-negated_of, high_of-negated_of, IsBounded-negated_of, AreRising-negated, StepsBelow-negated}
use Rattle.order_ints.proofs.Multiples.{value_of-scaled_of, IsOrdered-scaled_of, AreRising-scaled_of, IntBelow-scaled_of, high_of-multiplied_of, IsBounded-scaled_of}
use Rattle.core_forms.specs.Values as forms
use Rattle.core_forms.specs.Meaning.{core_truth}
use Rattle.core_forms.specs.Place.{CoreBelow, IntsBelow}
use Rattle.core_forms.specs.WellFormed.{AreSound, IsWellFormed, greatest_abs, abs_total}
use Rattle.core_forms.proofs.IntLists.{all_ordered-append, values-append, total-append}
use Rattle.core_forms.proofs.Limits.{times-le}
use Rattle.model_meaning.specs.Integers.{weight_of_true, linear_sum}
use Rattle.model_meaning.specs.Terms.{as_number}
use Rattle.model_meaning.specs.Limits.{InLimit, AllInLimit}
use Rattle.statement_lower.specs.Linear.{scaled_each, has_steps, with_steps, constant_of_members, linear_members, zero_sum, equal_sum, IsSummand, AreSummands}
use Rattle.statement_lower.proofs.EntryLaws.{AreSmallIntegers, IsSmall, AreSmall}
use Rattle.statement_lower.proofs.IntegerLines.{ordered-negated}

-- Values.

constant-value : (σ : Valuation) (a : OrdInt) → has_steps a.steps ≡ false → value_of σ a ≡ a.base
constant-value σ a e = at-steps a.base a.steps e
  where
    at-steps : (base : ℤ) (steps : List (Atom × ℕ)) → has_steps steps ≡ false → base +ℤ pos (gains σ steps) ≡ base
    at-steps base [] e = omega (arith, ints)
    at-steps base (s ∷ steps) e = absurd (cc)

pub total-parts : (σ : Valuation) (members : List OrdInt) → forms.total (forms.values σ members) ≡ forms.total (forms.values σ (with_steps members)) +ℤ constant_of_members members
total-parts σ [] = refl
total-parts σ (a ∷ members) = by_steps (has_steps a.steps) refl (total-parts σ members)
  where
    by_steps : (b : Bool) → has_steps a.steps ≡ b → forms.total (forms.values σ members) ≡ forms.total (forms.values σ (with_steps members)) +ℤ constant_of_members members
        → value_of σ a +ℤ forms.total (forms.values σ members) ≡ forms.total (forms.values σ (if b then a ∷ with_steps members else with_steps members)) +ℤ (if b then constant_of_members members else a.base +ℤ constant_of_members members)
    by_steps true is e = omega (arith, ints, e)
    by_steps false is e = let c = constant-value σ a is in omega (arith, ints, e, c)

pub ordered-parts : (σ : Valuation) (members : List OrdInt) → forms.all_ordered σ members ≡ true → forms.all_ordered σ (with_steps members) ≡ true
ordered-parts σ [] h = refl
ordered-parts σ (a ∷ members) h =
    let p = and_parts (in_order σ a.steps) (forms.all_ordered σ members) h in
    by_steps (has_steps a.steps) p.0 (ordered-parts σ members p.1)
  where
    by_steps : (b : Bool) → in_order σ a.steps ≡ true → forms.all_ordered σ (with_steps members) ≡ true → forms.all_ordered σ (if b then a ∷ with_steps members else with_steps members) ≡ true
    by_steps true o h = rw (o, h) refl
    by_steps false o h = h

zero-sum-truth : (σ : Valuation) (members : List OrdInt) → forms.all_ordered σ members ≡ true → core_truth σ (zero_sum members) ≡ int_eq (forms.total (forms.values σ members)) (pos 0)
zero-sum-truth σ members h =
    only-test (forms.all_ordered σ (with_steps members)) _ (ordered-parts σ members h)
    ∙ same_from_decides _ _
    (Decides-like _ (λ e. omega (arith, ints, e, total-parts σ members)) (λ e. omega (arith, ints, e, total-parts σ members))
    (Decides-int_eq (forms.total (forms.values σ (with_steps members))) (neg_ℤ (constant_of_members members))))
    (Decides-int_eq (forms.total (forms.values σ members)) (pos 0))
  where
    only-test : (o t : Bool) → o ≡ true → (o && t) ≡ t
    only-test o t e = rw e refl

pub ordered-last : (σ : Valuation) (ints : List OrdInt) (a : OrdInt) → forms.all_ordered σ ints ≡ true → IsOrdered σ a → forms.all_ordered σ (linear_members ints a) ≡ true
ordered-last σ ints a h k = all_ordered-append σ ints (negated_of a ∷ []) ∙ rw (h, ordered-negated σ a k) refl

-- all members, added up, are the integers less the right side
pub total-last : (σ : Valuation) (ints : List OrdInt) (a : OrdInt) → forms.total (forms.values σ (linear_members ints a)) ≡ forms.total (forms.values σ ints) +ℤ (neg_ℤ (value_of σ a) +ℤ pos 0)
total-last σ members a =
    ap forms.total (values-append σ members (negated_of a ∷ []))
    ∙ (total-append (forms.values σ members) (value_of σ (negated_of a) ∷ []) ∙ ap (λ v. forms.total (forms.values σ members) +ℤ (v +ℤ pos 0)) (value_of-negated_of σ a))

-- the integers, added up, are the right side
pub equal-sum-truth : (σ : Valuation) (ints : List OrdInt) (a : OrdInt) → forms.all_ordered σ ints ≡ true → IsOrdered σ a → core_truth σ (equal_sum ints a) ≡ int_eq (forms.total (forms.values σ ints)) (value_of σ a)
equal-sum-truth σ members a h k =
    let split = total-last σ members a in
    zero-sum-truth σ (linear_members members a) (ordered-last σ members a h k)
    ∙ same_from_decides _ _
    (Decides-like _ (λ e. omega (arith, ints, e, split)) (λ e. omega (arith, ints, e, split)) (Decides-int_eq (forms.total (forms.values σ (linear_members members a))) (pos 0)))
    (Decides-int_eq (forms.total (forms.values σ members)) (value_of σ a))

-- Multiples.

pub scaled-total : (σ : Valuation) (cs : List ℤ) (members : List OrdInt) → forms.total (forms.values σ (scaled_each cs members)) ≡ linear_sum cs (forms.values σ members)
scaled-total σ [] members = refl
scaled-total σ (c ∷ cs) [] = refl
scaled-total σ (c ∷ cs) (a ∷ members) = rw (value_of-scaled_of σ a c, scaled-total σ cs members) refl

pub scaled-ordered : (σ : Valuation) (cs : List ℤ) (members : List OrdInt) → forms.all_ordered σ members ≡ true → forms.all_ordered σ (scaled_each cs members) ≡ true
scaled-ordered σ [] members h = refl
scaled-ordered σ (c ∷ cs) [] h = refl
scaled-ordered σ (c ∷ cs) (a ∷ members) h =
    let p = and_parts (in_order σ a.steps) (forms.all_ordered σ members) h in
    rw (IsOrdered-scaled_of σ a c p.0, scaled-ordered σ cs members p.1) refl

times-bit : (c : ℤ) (t : Bool) → c *ℤ as_number t ≡ (if t then c else pos 0)
times-bit (pos n) true = omega (arith, ints)
times-bit (pos n) false = omega (arith, ints)
times-bit (negsuc n) true = omega (arith, ints)
times-bit (negsuc n) false = omega (arith, ints)

-- multiples of Booleans as integers are the coefficients of the true ones
pub bits-linear : (cs : List ℤ) (ts : List Bool) → linear_sum cs (map as_number ts) ≡ weight_of_true cs ts
bits-linear [] ts = refl
bits-linear (c ∷ cs) [] = refl
bits-linear (c ∷ cs) (t ∷ ts) = rw (times-bit c t, bits-linear cs ts) refl

-- Limits.

pub small-each : (n : ℕ) (members : List OrdInt) → AreSmallIntegers n members → AreSmall members
small-each n [] h = tt
small-each n (a ∷ members) h = ((h.0.sound, h.0.small), small-each n members h.1)

pub summand-small : (a : OrdInt) → IsSmall a → IsSummand a
summand-small a h = (h.0, omega (arith, h.1))

pub summands-small : (members : List OrdInt) → AreSmall members → AreSummands members
summands-small [] h = tt
summands-small (a ∷ members) h = (summand-small a h.0, summands-small members h.1)

-- Booleans as integers
pub small-truths : (atoms : List Atom) → AreSmall (map integer_of_atom atoms)
small-truths [] = tt
small-truths (a ∷ atoms) = ((((omega (arith, ints), omega (arith, ints)), (omega arith, tt)), omega (arith, ints)), small-truths atoms)

pub small-negative : (a : OrdInt) → IsSmall a → IsSmall (negated_of a)
small-negative a h = ((IsBounded-negated_of a h.0.0, AreRising-negated a.steps h.0.1), omega (arith, ints, high_of-negated_of a, h.1))

multiplied-abs : (n : ℕ) (a : OrdInt) → greatest_abs a ≤ 1073741824 → n ≤ 1073741824 → greatest_abs (multiplied_of n a) ≤ 1152921504606846976
multiplied-abs n a h le =
    let low = unsigned_abs-mul (pos n) (low_of a) in
    let high = unsigned_abs-mul (pos n) (high_of a) in
    let eh = high_of-multiplied_of n a in
    let x = times-le n (unsigned_abs (low_of a)) 1073741824 1073741824 le (omega (arith, h)) in
    let y = times-le n (unsigned_abs (high_of a)) 1073741824 1073741824 le (omega (arith, h)) in
    omega (arith, ints, low, high, eh, x, y)

scaled-abs : (a : OrdInt) (c : ℤ) → greatest_abs a ≤ 1073741824 → InLimit c → greatest_abs (scaled_of a c) ≤ 1152921504606846976
scaled-abs a (pos zero) h k = omega (arith, ints)
scaled-abs a (pos (suc n)) h k = multiplied-abs (suc n) a h k
scaled-abs a (negsuc n) h k = multiplied-abs (suc n) (negated_of a) (omega (arith, ints, high_of-negated_of a, h)) k

-- the multiple of an integer in the limit is in the range of integers
pub scaled-bounded : (a : OrdInt) (c : ℤ) → greatest_abs a ≤ 1073741824 → InLimit c → IsBounded (scaled_of a c)
scaled-bounded a c h k =
    let le = times-le (unsigned_abs c) 1073741824 1073741824 1073741824 k (omega arith) in
    IsBounded-scaled_of a c 1073741824 (omega (arith, h)) (omega (arith, h)) (omega (arith, le))

summand-scaled : (a : OrdInt) (c : ℤ) → IsSmall a → InLimit c → IsSummand (scaled_of a c)
summand-scaled a c h k = ((scaled-bounded a c h.1 k, AreRising-scaled_of a c h.0.1), scaled-abs a c h.1 k)

pub summands-scaled : (cs : List ℤ) (members : List OrdInt) → AllInLimit cs → AreSmall members → AreSummands (scaled_each cs members)
summands-scaled [] members k h = tt
summands-scaled (c ∷ cs) [] k h = tt
summands-scaled (c ∷ cs) (a ∷ members) k h = (summand-scaled a c h.0 (k 0), summands-scaled cs members (λ i. k (suc i)) h.1)

pub below-scaled : (n : ℕ) (cs : List ℤ) (members : List OrdInt) → IntsBelow n members → IntsBelow n (scaled_each cs members)
below-scaled n [] members h = tt
below-scaled n (c ∷ cs) [] h = tt
below-scaled n (c ∷ cs) (a ∷ members) h = (IntBelow-scaled_of n a c h.0, below-scaled n cs members h.1)

pub length-scaled : (cs : List ℤ) (members : List OrdInt) → length (scaled_each cs members) ≤ length members
length-scaled [] members = omega arith
length-scaled (c ∷ cs) [] = omega arith
length-scaled (c ∷ cs) (a ∷ members) = omega (arith, length-scaled cs members)

pub summands-last : (members : List OrdInt) (a : OrdInt) → AreSummands members → IsSmall a → AreSummands (linear_members members a)
summands-last [] a h k = (summand-small (negated_of a) (small-negative a k), tt)
summands-last (b ∷ members) a h k = (h.0, summands-last members a h.1 k)

pub below-last : (n : ℕ) (members : List OrdInt) (a : OrdInt) → IntsBelow n members → IntBelow n a → IntsBelow n (linear_members members a)
below-last n [] a h k = (StepsBelow-negated n a.steps k, tt)
below-last n (b ∷ members) a h k = (h.0, below-last n members a h.1 k)

pub below-steps : (n : ℕ) (members : List OrdInt) → IntsBelow n members → IntsBelow n (with_steps members)
below-steps n [] h = tt
below-steps n (a ∷ members) h = by_steps (has_steps a.steps) (below-steps n members h.1)
  where
    by_steps : (b : Bool) → IntsBelow n (with_steps members) → IntsBelow n (if b then a ∷ with_steps members else with_steps members)
    by_steps true r = (h.0, r)
    by_steps false r = r

pub sound-steps : (members : List OrdInt) → AreSummands members → AreSound (with_steps members)
sound-steps [] h = tt
sound-steps (a ∷ members) h = by_steps (has_steps a.steps) (sound-steps members h.1)
  where
    by_steps : (b : Bool) → AreSound (with_steps members) → AreSound (if b then a ∷ with_steps members else with_steps members)
    by_steps true r = (h.0.0, r)
    by_steps false r = r

pub summands-total : (members : List OrdInt) → AreSummands members → abs_total (with_steps members) + unsigned_abs (constant_of_members members) ≤ length members * 1152921504606846976
summands-total [] h = omega (arith, ints)
summands-total (a ∷ members) h = by_steps (has_steps a.steps) (summands-total members h.1)
  where
    base-within : unsigned_abs a.base ≤ greatest_abs a
    base-within = omega arith

    by_steps : (b : Bool) → abs_total (with_steps members) + unsigned_abs (constant_of_members members) ≤ length members * 1152921504606846976
        → abs_total (if b then a ∷ with_steps members else with_steps members) + unsigned_abs (if b then constant_of_members members else a.base +ℤ constant_of_members members) ≤ suc (length members) * 1152921504606846976
    by_steps true r = omega (arith, h.0.1, r)
    by_steps false r = omega (arith, ints, h.0.1, r, base-within)

pub length-last : (members : List OrdInt) (a : OrdInt) → length (linear_members members a) ≡ suc (length members)
length-last [] a = refl
length-last (b ∷ members) a = ap suc (length-last members a)

-- all members of a linear statement, and the number that those without steps are together
pub last-total : (members : List OrdInt) (a : OrdInt) → AreSummands members → IsSmall a → length members ≤ 16777216
    → abs_total (with_steps (linear_members members a)) + unsigned_abs (constant_of_members (linear_members members a)) < 2 ^ 85
last-total members a h k few =
    let t = summands-total (linear_members members a) (summands-last members a h k) in
    let l = length-last members a in
    omega (arith, t, l, few)

pub equal-sum-below : (n : ℕ) (members : List OrdInt) (a : OrdInt) → IntsBelow n members → IntBelow n a → CoreBelow n (equal_sum members a)
equal-sum-below n members a h k = (tt, below-steps n (linear_members members a) (below-last n members a h k))

pub equal-sum-well_formed : (members : List OrdInt) (a : OrdInt) → AreSummands members → IsSmall a → length members ≤ 16777216 → IsWellFormed (equal_sum members a)
equal-sum-well_formed members a h k few =
    (sound-steps (linear_members members a) (summands-last members a h k), omega (arith, ints, last-total members a h k few))
