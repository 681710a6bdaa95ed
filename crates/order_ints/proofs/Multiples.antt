-- Shifts and multiples of an integer: value, order, conditions, and at which atom a shift reaches a value.
use Rattle.std.proofs.Common.{◌≡◌, ℕ, zero, suc, ◌+◌, ◌-◌, ◌*◌, ◌<◌, ◌≤◌, ◌^◌, Bool, true, false, cond, length, get_or, take, drop, List, [], ◌∷◌, ◌++◌, map, ℤ, pos, negsuc, neg_ℤ, ◌+ℤ◌, ◌-ℤ◌, ◌*ℤ◌, ◌≤ℤ◌, ◌<ℤ◌, refl, sym, ap, subst, ◌∙◌, arith}
use Rattle.std.specs.Prelude.{int_le, unsigned_abs, reverse}
use Rattle.std.proofs.Math.IntN.{suc_ℤ-*ℤ, zero-*ℤ, *ℤ_comm, *ℤ-negsuc, neg_ℤ-+ℤ}
use Rattle.std.proofs.Math.Nat.{mul-le-mul_left}
use Rattle.std.proofs.lemmas.Int.{ints, unsigned_abs-mul}
use Rattle.std.proofs.lemmas.List.{length-map, length-take, get_or-append_right, get_or-drop}
use Rattle.order_ints.specs.declared.atom.Atom.{Atom}
use Rattle.order_ints.specs.declared.atom.Atom.TheVariants.{True, False}
use Rattle.order_ints.specs.declared.order_int.OrdInt.{OrdInt}
use Rattle.order_ints.specs.Truth.{Valuation, atom_truth}
use Rattle.order_ints.specs.Place.{StepsBelow}
use Rattle.order_ints.specs.OrderValue.{gains, value_of, none_true, in_order, IsOrdered}
use Rattle.order_ints.specs.OrderRange.{weights, low_of, high_of, AreRising, IntBelow, IsBounded}
use Rattle.order_ints.specs.OrderLevels.{levels, first_reaching, at_of}
use Rattle.order_ints.specs.OrderChange.{negated_step, negated_of, shifted_of, multiplied_steps, multiplied_of, scaled_of}
use Rattle.order_ints.proofs.Comparisons.{int_le-true, int_le-false, by_int_le}
use Rattle.order_ints.proofs.Negation.{value_of-negated_of, in_order-negated, AreRising-negated, StepsBelow-negated, high_of-negated_of}

-- the value of a shift
pub value_of-shifted_of : (σ : Valuation) (a : OrdInt) (by : ℤ) → value_of σ (shifted_of a by) ≡ value_of σ a +ℤ by
value_of-shifted_of σ a by = omega (arith, ints)

test-shift : (v low by : ℤ) → int_le v (low +ℤ by) ≡ int_le (v -ℤ by) low
test-shift v low by =
    by_int_le (v -ℤ by) low true false (λ b. int_le v (low +ℤ by) ≡ b) (λ h. int_le-true v (low +ℤ by) (omega (arith, ints))) (λ h. int_le-false v (low +ℤ by) (omega (arith, ints)))
    ∙ cond-itself (int_le (v -ℤ by) low)
  where
    cond-itself : (b : Bool) → cond b true false ≡ b
    cond-itself true = refl
    cond-itself false = refl

reaching-shifted : (v low by : ℤ) (x : Atom) (steps : List (Atom × ℕ)) → first_reaching v (levels (low +ℤ by) x steps) ≡ first_reaching (v -ℤ by) (levels low x steps)
reaching-shifted v low by x [] = ap (λ b. cond b x False) (test-shift v low by)
reaching-shifted v low by x (s ∷ steps) =
    ap (λ b. cond b x (first_reaching v (levels (low +ℤ by +ℤ pos s.1) s.0 steps))) (test-shift v low by)
    ∙ ap (cond (int_le (v -ℤ by) low) x)
    (ap (λ z. first_reaching v (levels z s.0 steps)) (omega (arith, ints)) ∙ reaching-shifted v (low +ℤ pos s.1) by s.0 steps)

-- a shift is at least v exactly where the integer is at least v less the shift
pub at_of-shifted_of : (a : OrdInt) (by v : ℤ) → at_of (shifted_of a by) v ≡ at_of a (v -ℤ by)
at_of-shifted_of a by v = reaching-shifted v a.base by True a.steps

-- products of signed numbers
regroup : (x b : ℤ) (m g : ℕ) → (x +ℤ pos m) +ℤ (b +ℤ pos g) ≡ (x +ℤ b) +ℤ pos (m + g)
regroup x b m g = omega (arith, ints)

-- a sum is multiplied part by part
pub pos-*ℤ-sum : (n : ℕ) (b : ℤ) (g : ℕ) → pos n *ℤ (b +ℤ pos g) ≡ (pos n *ℤ b) +ℤ pos (n * g)
pos-*ℤ-sum zero b g = zero-*ℤ (b +ℤ pos g) ∙ sym (ap (λ z. z +ℤ pos (zero * g)) (zero-*ℤ b) ∙ omega (arith, ints))
pos-*ℤ-sum (suc n) b g =
    suc_ℤ-*ℤ (pos n) (b +ℤ pos g) ∙ ap (λ z. z +ℤ (b +ℤ pos g)) (pos-*ℤ-sum n b g) ∙ regroup (pos n *ℤ b) b (n * g) g
    ∙ ap (λ z. z +ℤ pos (n * g + g)) (sym (suc_ℤ-*ℤ (pos n) b)) ∙ ap (λ m. (pos (suc n) *ℤ b) +ℤ pos m) (omega arith)

neg-sum : (x k : ℤ) → neg_ℤ x +ℤ neg_ℤ k ≡ neg_ℤ (x +ℤ k)
neg-sum x k = sym (neg_ℤ-+ℤ x k)

pub pos-*ℤ-neg : (n : ℕ) (k : ℤ) → pos n *ℤ neg_ℤ k ≡ neg_ℤ (pos n *ℤ k)
pos-*ℤ-neg zero k = zero-*ℤ (neg_ℤ k) ∙ sym (ap neg_ℤ (zero-*ℤ k))
pos-*ℤ-neg (suc n) k =
    suc_ℤ-*ℤ (pos n) (neg_ℤ k) ∙ ap (λ z. z +ℤ neg_ℤ k) (pos-*ℤ-neg n k) ∙ neg-sum (pos n *ℤ k) k ∙ ap neg_ℤ (sym (suc_ℤ-*ℤ (pos n) k))

pub negsuc-*ℤ : (n : ℕ) (k : ℤ) → negsuc n *ℤ k ≡ pos (suc n) *ℤ neg_ℤ k
negsuc-*ℤ n k = *ℤ_comm (negsuc n) k ∙ *ℤ-negsuc k n ∙ ap neg_ℤ (*ℤ_comm k (pos (suc n))) ∙ sym (pos-*ℤ-neg (suc n) k)

gain-multiplied : (t : Bool) (n w : ℕ) → cond t (n * w) 0 ≡ n * cond t w 0
gain-multiplied true n w = refl
gain-multiplied false n w = omega arith

pub gains-multiplied : (σ : Valuation) (n : ℕ) (steps : List (Atom × ℕ)) → gains σ (multiplied_steps n steps) ≡ n * gains σ steps
gains-multiplied σ n [] = omega arith
gains-multiplied σ n (s ∷ steps) =
    omega (arith, gains-multiplied σ n steps, gain-multiplied (atom_truth σ s.0) n s.1)

pub weights-multiplied : (n : ℕ) (steps : List (Atom × ℕ)) → weights (multiplied_steps n steps) ≡ n * weights steps
weights-multiplied n [] = omega arith
weights-multiplied n (s ∷ steps) = omega (arith, weights-multiplied n steps)

none_true-multiplied : (σ : Valuation) (n : ℕ) (steps : List (Atom × ℕ)) → none_true σ (multiplied_steps n steps) ≡ none_true σ steps
none_true-multiplied σ n [] = refl
none_true-multiplied σ n (s ∷ steps) = rw (none_true-multiplied σ n steps) refl

pub in_order-multiplied : (σ : Valuation) (n : ℕ) (steps : List (Atom × ℕ)) → in_order σ (multiplied_steps n steps) ≡ in_order σ steps
in_order-multiplied σ n [] = refl
in_order-multiplied σ n (s ∷ steps) = rw (in_order-multiplied σ n steps, none_true-multiplied σ n steps) refl

AreRising-multiplied : (n : ℕ) (steps : List (Atom × ℕ)) → AreRising steps → AreRising (multiplied_steps (suc n) steps)
AreRising-multiplied n [] h = tt
AreRising-multiplied n (s ∷ steps) h = (omega (arith, h.0), AreRising-multiplied n steps h.1)

StepsBelow-multiplied : (m n : ℕ) (steps : List (Atom × ℕ)) → StepsBelow m steps → StepsBelow m (multiplied_steps n steps)
StepsBelow-multiplied m n [] h = tt
StepsBelow-multiplied m n (s ∷ steps) h = (h.0, StepsBelow-multiplied m n steps h.1)

pub value_of-multiplied_of : (σ : Valuation) (n : ℕ) (a : OrdInt) → value_of σ (multiplied_of n a) ≡ pos n *ℤ value_of σ a
value_of-multiplied_of σ n a =
    ap (λ g. (pos n *ℤ a.base) +ℤ pos g) (gains-multiplied σ n a.steps) ∙ sym (pos-*ℤ-sum n a.base (gains σ a.steps))

-- the value of a multiple
pub value_of-scaled_of : (σ : Valuation) (a : OrdInt) (by : ℤ) → value_of σ (scaled_of a by) ≡ by *ℤ value_of σ a
value_of-scaled_of σ a (pos zero) = sym (zero-*ℤ (value_of σ a))
value_of-scaled_of σ a (pos (suc n)) = value_of-multiplied_of σ (suc n) a
value_of-scaled_of σ a (negsuc n) =
    value_of-multiplied_of σ (suc n) (negated_of a) ∙ ap (λ z. pos (suc n) *ℤ z) (value_of-negated_of σ a) ∙ sym (negsuc-*ℤ n (value_of σ a))

-- a multiple is ordered where the integer is, rises where it does, and has its variables below n where it has
pub IsOrdered-scaled_of : (σ : Valuation) (a : OrdInt) (by : ℤ) → IsOrdered σ a → IsOrdered σ (scaled_of a by)
IsOrdered-scaled_of σ a (pos zero) h = refl
IsOrdered-scaled_of σ a (pos (suc n)) h = in_order-multiplied σ (suc n) a.steps ∙ h
IsOrdered-scaled_of σ a (negsuc n) h = in_order-multiplied σ (suc n) (negated_of a).steps ∙ in_order-negated σ a.steps ∙ h

pub AreRising-scaled_of : (a : OrdInt) (by : ℤ) → AreRising a.steps → AreRising (scaled_of a by).steps
AreRising-scaled_of a (pos zero) h = tt
AreRising-scaled_of a (pos (suc n)) h = AreRising-multiplied n a.steps h
AreRising-scaled_of a (negsuc n) h = AreRising-multiplied n (negated_of a).steps (AreRising-negated a.steps h)

pub IntBelow-scaled_of : (n : ℕ) (a : OrdInt) (by : ℤ) → IntBelow n a → IntBelow n (scaled_of a by)
IntBelow-scaled_of m a (pos zero) h = tt
IntBelow-scaled_of m a (pos (suc n)) h = StepsBelow-multiplied m (suc n) a.steps h
IntBelow-scaled_of m a (negsuc n) h = StepsBelow-multiplied m (suc n) (negated_of a).steps (StepsBelow-negated m a.steps h)

-- one step weighs no more than all
weight-le : (steps : List (Atom × ℕ)) (i : ℕ) (d : Atom × ℕ) → i < length steps → (get_or steps i d).1 ≤ weights steps
weight-le [] i d h = absurd (omega arith)
weight-le (s ∷ steps) zero d h = omega arith
weight-le (s ∷ steps) (suc i) d h = omega (arith, weight-le steps i d (omega arith))

-- in a list that is multiplied up to a place, the step at that place is still the old one, so that its product fits
pub multiplied-fits : (n i : ℕ) (steps now : List (Atom × ℕ)) (d : Atom × ℕ) → i < length steps → now ≡ multiplied_steps n (take i steps) ++ drop i steps → n * (get_or now i d).1 ≤ n * weights steps
multiplied-fits n i steps now d h e =
    let front = multiplied_steps n (take i steps) in
    let long : length front ≡ i = simp (length-map, length-take) (omega arith) in
    let here : get_or now i d ≡ get_or steps i d =
    ap (λ (xs : List (Atom × ℕ)). get_or xs i d) e ∙ get_or-append_right front (drop i steps) i i d long (omega arith) ∙ get_or-drop i steps (i - i) d
    ∙ ap (λ k. get_or steps k d) (omega arith) in
    rw here (omega (arith, mul-le-mul_left n (weight-le steps i d h)))

-- the parts of a multiple
pub scaled_base-down : (a : OrdInt) (by : ℤ) → by <ℤ pos 0 → (scaled_of a by).base ≡ by *ℤ high_of a
scaled_base-down a (pos zero) h = absurd (omega (arith, ints))
scaled_base-down a (pos (suc n)) h = absurd (omega (arith, ints))
scaled_base-down a (negsuc n) h = sym (negsuc-*ℤ n (high_of a))

pub scaled_base-up : (a : OrdInt) (by : ℤ) → pos 0 ≤ℤ by → (scaled_of a by).base ≡ by *ℤ a.base
scaled_base-up a (pos zero) h = sym (zero-*ℤ a.base)
scaled_base-up a (pos (suc n)) h = refl
scaled_base-up a (negsuc n) h = absurd (omega (arith, ints))

pub scaled_steps-none : (a : OrdInt) (by : ℤ) → by ≡ pos 0 → (scaled_of a by).steps ≡ []
scaled_steps-none a (pos zero) h = refl
scaled_steps-none a (pos (suc n)) h = absurd (omega (arith, ints))
scaled_steps-none a (negsuc n) h = absurd (omega (arith, ints))

pub scaled_steps-up : (a : OrdInt) (by : ℤ) → pos 0 <ℤ by → (scaled_of a by).steps ≡ multiplied_steps (unsigned_abs by) a.steps
scaled_steps-up a (pos zero) h = absurd (omega (arith, ints))
scaled_steps-up a (pos (suc n)) h = refl
scaled_steps-up a (negsuc n) h = absurd (omega (arith, ints))

pub scaled_steps-down : (a : OrdInt) (by : ℤ) → by <ℤ pos 0 → (scaled_of a by).steps ≡ multiplied_steps (unsigned_abs by) (map negated_step (reverse a.steps))
scaled_steps-down a (pos zero) h = absurd (omega (arith, ints))
scaled_steps-down a (pos (suc n)) h = absurd (omega (arith, ints))
scaled_steps-down a (negsuc n) h = refl

-- the weights of an integer within its limits fit
weights-fit : (a : OrdInt) → IsBounded a → weights a.steps < 2 ^ 101
weights-fit a h = omega (arith, ints, h.0, h.1)

-- the product of steps and a factor fits where the multiple is within its limits
pub products-fit : (a : OrdInt) (by : ℤ) (factor : ℕ) (these steps : List (Atom × ℕ)) → IsBounded (scaled_of a by) → (scaled_of a by).steps ≡ multiplied_steps (unsigned_abs by) steps → factor ≡ unsigned_abs by → these ≡ steps → factor * weights these < 2 ^ 128
products-fit a by factor these steps h e f g =
    let fits : unsigned_abs by * weights steps < 2 ^ 128 =
    omega (arith, weights-fit (scaled_of a by) h, ap weights e, weights-multiplied (unsigned_abs by) steps) in
    rw (f, g) fits

-- the ends of a multiple
pub high_of-multiplied_of : (n : ℕ) (a : OrdInt) → high_of (multiplied_of n a) ≡ pos n *ℤ high_of a
high_of-multiplied_of n a =
    ap (λ (w : ℕ). (pos n *ℤ a.base) +ℤ pos w) (weights-multiplied n a.steps) ∙ sym (pos-*ℤ-sum n a.base (weights a.steps))

abs-neg : (z : ℤ) → unsigned_abs (neg_ℤ z) ≡ unsigned_abs z
abs-neg z = omega (arith, ints)

product-small : (n m : ℕ) (z : ℤ) → unsigned_abs z ≤ m → n * m < 2 ^ 100 → unsigned_abs (pos n *ℤ z) < 2 ^ 100
product-small n m z h k = rw (unsigned_abs-mul (pos n) z) (omega (arith, mul-le-mul_left n h))

multiplied-small : (n m : ℕ) (a : OrdInt) → unsigned_abs (low_of a) ≤ m → unsigned_abs (high_of a) ≤ m → n * m < 2 ^ 100 → IsBounded (multiplied_of n a)
multiplied-small n m a low high k =
    (product-small n m a.base low k, subst (λ (z : ℤ). unsigned_abs z < 2 ^ 100) (sym (high_of-multiplied_of n a)) (product-small n m (high_of a) high k))

-- a multiple is within the limits where the greatest absolute value, multiplied, is
pub IsBounded-scaled_of : (a : OrdInt) (by : ℤ) (m : ℕ) → unsigned_abs (low_of a) ≤ m → unsigned_abs (high_of a) ≤ m → unsigned_abs by * m < 2 ^ 100 → IsBounded (scaled_of a by)
IsBounded-scaled_of a (pos zero) m low high k = (omega arith, omega arith)
IsBounded-scaled_of a (pos (suc n)) m low high k = multiplied-small (suc n) m a low high k
IsBounded-scaled_of a (negsuc n) m low high k =
    multiplied-small (suc n) m (negated_of a) (omega (arith, abs-neg (high_of a)))
    (omega (arith, ap unsigned_abs (high_of-negated_of a), abs-neg (low_of a))) k
