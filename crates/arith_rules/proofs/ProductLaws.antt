-- Products and quotients of signed numbers: what keeps their order, and what turns it.
use Rattle.std.proofs.Common.{◌≡◌, ℕ, zero, suc, ◌*◌, ◌/◌, ◌<◌, ◌≤◌, ℤ, pos, negsuc, neg_ℤ, ◌+ℤ◌, ◌-ℤ◌, ◌*ℤ◌, ◌≤ℤ◌, ◌<ℤ◌, sym, ap, subst, ◌∙◌, arith}
use Rattle.std.specs.Prelude.{int_le, unsigned_abs}
use Rattle.std.specs.Int.{int_min, int_max}
use Rattle.std.proofs.Math.IntN.{zero-*ℤ, *ℤ_comm}
use Rattle.std.proofs.Math.Nat.{mul-div-le, lt-div-mul-add}
use Rattle.std.proofs.lemmas.Int.{ints, clamps, by_lt_z}
use Rattle.order_ints.proofs.Comparisons.{int_le-true, int_le-false}
use Rattle.order_ints.proofs.Multiples.{pos-*ℤ-sum, pos-*ℤ-neg, negsuc-*ℤ}
use Rattle.arith_rules.specs.ProductRows.{floor_of, ceiling_of}

-- ---- order of products

gap-of : (x y : ℤ) → x ≤ℤ y → y ≡ x +ℤ pos (unsigned_abs (y -ℤ x))
gap-of x y le = omega (arith, ints, le)

more-by : (p q : ℤ) (m : ℕ) → q ≡ p +ℤ pos m → p ≤ℤ q
more-by p q m e = omega (arith, ints, e)

turned-le : (x y : ℤ) → x ≤ℤ y → neg_ℤ y ≤ℤ neg_ℤ x
turned-le x y le = omega (arith, ints, le)

-- a factor from 0 keeps the order
pub times-up : (k x y : ℤ) → pos 0 ≤ℤ k → x ≤ℤ y → (k *ℤ x) ≤ℤ (k *ℤ y)
times-up (pos n) x y from le =
    let g = unsigned_abs (y -ℤ x) in
    more-by (pos n *ℤ x) (pos n *ℤ y) (n * g) (ap (λ z. pos n *ℤ z) (gap-of x y le) ∙ pos-*ℤ-sum n x g)
times-up (negsuc n) x y from le = absurd (omega (arith, ints, from))

both-le : (p q p' q' : ℤ) → p ≡ p' → q ≡ q' → p' ≤ℤ q' → p ≤ℤ q
both-le p q p' q' e f le = omega (arith, ints, e, f, le)

-- and one to 0 turns it
pub times-down : (k x y : ℤ) → k ≤ℤ pos 0 → x ≤ℤ y → (k *ℤ y) ≤ℤ (k *ℤ x)
times-down (pos zero) x y to le = both-le (pos 0 *ℤ y) (pos 0 *ℤ x) (pos 0) (pos 0) (zero-*ℤ y) (zero-*ℤ x) (omega (arith, ints))
times-down (pos (suc n)) x y to le = absurd (omega (arith, ints, to))
times-down (negsuc n) x y to le =
    both-le (negsuc n *ℤ y) (negsuc n *ℤ x) (pos (suc n) *ℤ neg_ℤ y) (pos (suc n) *ℤ neg_ℤ x) (negsuc-*ℤ n y) (negsuc-*ℤ n x)
    (times-up (pos (suc n)) (neg_ℤ y) (neg_ℤ x) (omega (arith, ints)) (turned-le x y le))

next-up : (k x y : ℤ) → y ≡ x +ℤ k → pos 1 ≤ℤ k → x <ℤ y
next-up k x y e one = omega (arith, ints, e, one)

pub times-next : (k x : ℤ) → pos 1 ≤ℤ k → (k *ℤ (x +ℤ pos 1)) ≡ (k *ℤ x) +ℤ k
times-next (pos n) x one = pos-*ℤ-sum n x 1 ∙ ap (λ m. (pos n *ℤ x) +ℤ pos m) (omega arith)
times-next (negsuc n) x one = absurd (omega (arith, ints, one))

lt-le : (p q r : ℤ) → p <ℤ q → q ≤ℤ r → p <ℤ r
lt-le p q r lt le = omega (arith, ints, lt, le)

le-lt : (p q r : ℤ) → p ≤ℤ q → q <ℤ r → p <ℤ r
le-lt p q r le lt = omega (arith, ints, le, lt)

pub le-le : (p q r : ℤ) → p ≤ℤ q → q ≤ℤ r → p ≤ℤ r
le-le p q r le le' = omega (arith, ints, le, le')

from-one : (k : ℤ) → pos 1 ≤ℤ k → pos 0 ≤ℤ k
from-one k one = omega (arith, ints, one)

-- a factor from 1 keeps what is strictly in order
pub times-above : (k x y : ℤ) → pos 1 ≤ℤ k → x <ℤ y → (k *ℤ x) <ℤ (k *ℤ y)
times-above k x y one lt =
    lt-le (k *ℤ x) (k *ℤ (x +ℤ pos 1)) (k *ℤ y) (next-up k (k *ℤ x) (k *ℤ (x +ℤ pos 1)) (times-next k x one) one)
    (times-up k (x +ℤ pos 1) y (from-one k one) (omega (arith, ints, lt)))

-- two tests are one where each side of the one gives that of the other
same-tests : (v w x y : ℤ) → (v ≤ℤ w → x ≤ℤ y) → (w <ℤ v → y <ℤ x) → int_le v w ≡ int_le x y
same-tests v w x y up over =
    by_lt_z w v (λ lt. int_le-false v w lt ∙ sym (int_le-false x y (over lt))) (λ le. int_le-true v w le ∙ sym (int_le-true x y (up le)))

pub times-test : (k x y : ℤ) → pos 1 ≤ℤ k → int_le x y ≡ int_le (k *ℤ x) (k *ℤ y)
times-test k x y one = same-tests x y (k *ℤ x) (k *ℤ y) (times-up k x y (from-one k one)) (times-above k y x one)

-- ---- products of what lies in ranges

min-left : (p q : ℤ) → int_min p q ≤ℤ p
min-left p q = omega (arith, ints, clamps)

min-right : (p q : ℤ) → int_min p q ≤ℤ q
min-right p q = omega (arith, ints, clamps)

max-left : (p q : ℤ) → p ≤ℤ int_max p q
max-left p q = omega (arith, ints, clamps)

max-right : (p q : ℤ) → q ≤ℤ int_max p q
max-right p q = omega (arith, ints, clamps)

-- with one factor fixed, the product lies between those with the ends of the other's range
line-low : (k l x h : ℤ) → l ≤ℤ x → x ≤ℤ h → int_min (k *ℤ l) (k *ℤ h) ≤ℤ (k *ℤ x)
line-low k l x h from to =
    by_lt_z k (pos 0)
    (λ lt. le-le _ (k *ℤ h) _ (min-right (k *ℤ l) (k *ℤ h)) (times-down k x h (omega (arith, ints, lt)) to))
    (λ le. le-le _ (k *ℤ l) _ (min-left (k *ℤ l) (k *ℤ h)) (times-up k l x le from))

line-high : (k l x h : ℤ) → l ≤ℤ x → x ≤ℤ h → (k *ℤ x) ≤ℤ int_max (k *ℤ l) (k *ℤ h)
line-high k l x h from to =
    by_lt_z k (pos 0)
    (λ lt. le-le _ (k *ℤ l) _ (times-down k l x (omega (arith, ints, lt)) from) (max-left (k *ℤ l) (k *ℤ h)))
    (λ le. le-le _ (k *ℤ h) _ (times-up k x h le to) (max-right (k *ℤ l) (k *ℤ h)))

least-of-four : (p q r s x y z : ℤ) → int_min p r ≤ℤ x → int_min q s ≤ℤ y → int_min x y ≤ℤ z → int_min (int_min p q) (int_min r s) ≤ℤ z
least-of-four p q r s x y z f g h = omega (arith, ints, clamps, f, g, h)

greatest-of-four : (p q r s x y z : ℤ) → x ≤ℤ int_max p r → y ≤ℤ int_max q s → z ≤ℤ int_max x y → z ≤ℤ int_max (int_max p q) (int_max r s)
greatest-of-four p q r s x y z f g h = omega (arith, ints, clamps, f, g, h)

module _ (l x h m y n : ℤ) (from : l ≤ℤ x) (to : x ≤ℤ h) (from' : m ≤ℤ y) (to' : y ≤ℤ n) where
  low-at : (k : ℤ) → int_min (l *ℤ k) (h *ℤ k) ≤ℤ (x *ℤ k)
  low-at k =
      subst (λ (z : ℤ). int_min z (h *ℤ k) ≤ℤ (x *ℤ k)) (*ℤ_comm k l) (subst (λ (z : ℤ). int_min (k *ℤ l) z ≤ℤ (x *ℤ k)) (*ℤ_comm k h)
      (subst (λ (z : ℤ). int_min (k *ℤ l) (k *ℤ h) ≤ℤ z) (*ℤ_comm k x) (line-low k l x h from to)))

  high-at : (k : ℤ) → (x *ℤ k) ≤ℤ int_max (l *ℤ k) (h *ℤ k)
  high-at k =
      subst (λ (z : ℤ). (x *ℤ k) ≤ℤ int_max z (h *ℤ k)) (*ℤ_comm k l) (subst (λ (z : ℤ). (x *ℤ k) ≤ℤ int_max (k *ℤ l) z) (*ℤ_comm k h)
      (subst (λ (z : ℤ). z ≤ℤ int_max (k *ℤ l) (k *ℤ h)) (*ℤ_comm k x) (line-high k l x h from to)))

  -- the product of two numbers lies between the least and the greatest of the products of the ends of their ranges
  pub corners-low : int_min (int_min (l *ℤ m) (l *ℤ n)) (int_min (h *ℤ m) (h *ℤ n)) ≤ℤ (x *ℤ y)
  corners-low = least-of-four (l *ℤ m) (l *ℤ n) (h *ℤ m) (h *ℤ n) (x *ℤ m) (x *ℤ n) (x *ℤ y) (low-at m) (low-at n) (line-low x m y n from' to')

  pub corners-high : (x *ℤ y) ≤ℤ int_max (int_max (l *ℤ m) (l *ℤ n)) (int_max (h *ℤ m) (h *ℤ n))
  corners-high = greatest-of-four (l *ℤ m) (l *ℤ n) (h *ℤ m) (h *ℤ n) (x *ℤ m) (x *ℤ n) (x *ℤ y) (high-at m) (high-at n) (line-high x m y n from' to')

-- ---- quotients

-- the divisor times the quotient rounded down is not above v, and that with the next number is
pub floor-low : (v d : ℤ) → pos 1 ≤ℤ d → (d *ℤ floor_of v d) ≤ℤ v
floor-low v (negsuc b) one = absurd (omega (arith, ints, one))
floor-low v (pos zero) one = absurd (omega (arith, ints, one))
floor-low (pos a) (pos (suc b)) one = let h = mul-div-le a (suc b) in whole (suc b) (a / suc b) a h
  where
    whole : (d q a : ℕ) → d * q ≤ a → (pos d *ℤ pos q) ≤ℤ pos a
    whole d q a h = omega (arith, ints, h)
floor-low (negsuc a) (pos (suc b)) one = let h = lt-div-mul-add {a = a} {b = suc b} (omega arith) in whole (suc b) (a / suc b) a (omega (arith, h))
  where
    whole : (d q a : ℕ) → suc a ≤ d * suc q → (pos d *ℤ negsuc q) ≤ℤ negsuc a
    whole d q a h = omega (arith, ints, h)

pub floor-high : (v d : ℤ) → pos 1 ≤ℤ d → v <ℤ (d *ℤ (floor_of v d +ℤ pos 1))
floor-high v (negsuc b) one = absurd (omega (arith, ints, one))
floor-high v (pos zero) one = absurd (omega (arith, ints, one))
floor-high (pos a) (pos (suc b)) one = let h = lt-div-mul-add {a = a} {b = suc b} (omega arith) in whole (suc b) (a / suc b) a (omega (arith, h))
  where
    whole : (d q a : ℕ) → a < d * suc q → pos a <ℤ (pos d *ℤ (pos q +ℤ pos 1))
    whole d q a h = omega (arith, ints, h)
floor-high (negsuc a) (pos (suc b)) one = let h = mul-div-le a (suc b) in whole (suc b) (a / suc b) a h
  where
    above : (p : ℤ) (a : ℕ) → p ≤ℤ pos a → negsuc a <ℤ neg_ℤ p
    above p a le = omega (arith, ints, le)

    whole : (d q a : ℕ) → d * q ≤ a → negsuc a <ℤ (pos d *ℤ (negsuc q +ℤ pos 1))
    whole d q a h =
        let turned : negsuc q +ℤ pos 1 ≡ neg_ℤ (pos q) = omega (arith, ints) in
        let product : (pos d *ℤ pos q) ≤ℤ pos a = omega (arith, ints, h) in
        subst (λ (z : ℤ). negsuc a <ℤ z) (sym (ap (λ z. pos d *ℤ z) turned ∙ pos-*ℤ-neg d (pos q))) (above (pos d *ℤ pos q) a product)

-- a number is at most the quotient rounded down exactly where the divisor times it is at most v
pub floor-test : (v w d : ℤ) → pos 1 ≤ℤ d → int_le w (floor_of v d) ≡ int_le (d *ℤ w) v
floor-test v w d one =
    same-tests w (floor_of v d) (d *ℤ w) v
    (λ le. le-le (d *ℤ w) (d *ℤ floor_of v d) v (times-up d w (floor_of v d) (from-one d one) le) (floor-low v d one))
    (λ lt. lt-le v (d *ℤ (floor_of v d +ℤ pos 1)) (d *ℤ w) (floor-high v d one) (times-up d (floor_of v d +ℤ pos 1) w (from-one d one) (omega (arith, ints, lt))))

times-neg : (d w : ℤ) → pos 1 ≤ℤ d → (d *ℤ neg_ℤ w) ≡ neg_ℤ (d *ℤ w)
times-neg (pos n) w one = pos-*ℤ-neg n w
times-neg (negsuc n) w one = absurd (omega (arith, ints, one))

turned-test : (x y : ℤ) → int_le (neg_ℤ x) y ≡ int_le (neg_ℤ y) x
turned-test x y = grind (arith, ints)

both-turned : (x y : ℤ) → int_le (neg_ℤ x) (neg_ℤ y) ≡ int_le y x
both-turned x y = grind (arith, ints)

-- the quotient rounded up is at most a number exactly where v is at most the divisor times it
pub ceiling-test : (v w d : ℤ) → pos 1 ≤ℤ d → int_le (ceiling_of v d) w ≡ int_le v (d *ℤ w)
ceiling-test v w d one =
    turned-test (floor_of (neg_ℤ v) d) w ∙ floor-test (neg_ℤ v) (neg_ℤ w) d one
    ∙ ap (λ z. int_le z (neg_ℤ v)) (times-neg d w one) ∙ both-turned (d *ℤ w) v

-- a factor below 0 turns a test
pub negative-test : (k x y : ℤ) → k <ℤ pos 0 → int_le (k *ℤ x) (k *ℤ y) ≡ int_le y x
negative-test k x y neg =
    sym (same-tests y x (k *ℤ x) (k *ℤ y) (times-down k y x (omega (arith, ints, neg))) (λ lt. turned k neg lt))
  where
    strict : (n : ℕ) → x <ℤ y → (pos (suc n) *ℤ neg_ℤ y) <ℤ (pos (suc n) *ℤ neg_ℤ x)
    strict n lt = times-above (pos (suc n)) (neg_ℤ y) (neg_ℤ x) (omega (arith, ints)) (omega (arith, ints, lt))

    turned : (k : ℤ) → k <ℤ pos 0 → x <ℤ y → (k *ℤ y) <ℤ (k *ℤ x)
    turned (pos n) neg lt = absurd (omega (arith, ints, neg))
    turned (negsuc n) neg lt =
        subst (λ (z : ℤ). z <ℤ (negsuc n *ℤ x)) (sym (negsuc-*ℤ n y)) (subst (λ (z : ℤ). (pos (suc n) *ℤ neg_ℤ y) <ℤ z) (sym (negsuc-*ℤ n x)) (strict n lt))

-- where k is below 0: the product with k is at least w exactly where the number is at most -w by -k, rounded down
pub negative-floor : (k w y : ℤ) → k <ℤ pos 0 → int_le w (k *ℤ y) ≡ int_le y (floor_of (neg_ℤ w) (neg_ℤ k))
negative-floor (pos n) w y neg = absurd (omega (arith, ints, neg))
negative-floor (negsuc n) w y neg =
    ap (int_le w) (negsuc-*ℤ n y ∙ pos-*ℤ-neg (suc n) y) ∙ turned w (pos (suc n) *ℤ y) ∙ sym (floor-test (neg_ℤ w) y (pos (suc n)) (omega (arith, ints)))
  where
    turned : (x z : ℤ) → int_le x (neg_ℤ z) ≡ int_le z (neg_ℤ x)
    turned x z = grind (arith, ints)
