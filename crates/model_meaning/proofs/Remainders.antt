-- A number is the remainder exactly where a quotient goes with it.
use Rattle.std.proofs.Common.{◌≡◌, ℕ, suc, ◌+◌, ◌*◌, ◌<◌, ◌%◌, ◌/◌, ℤ, pos, negsuc, ◌+ℤ◌, ◌*ℤ◌, ◌≤ℤ◌, ◌<ℤ◌, arith, refl, sym, ◌∙◌, ap}
use Rattle.std.specs.Bool.{Decides}
use Rattle.std.specs.Int.{int_rem_euclid}
use Rattle.std.proofs.lemmas.Bool.Decides.{Decides-int_eq, Decides-and, Decides-like}
use Rattle.std.proofs.lemmas.Int.{ints, int_rem_euclid_is}
use Rattle.std.proofs.lemmas.Nat.{mod-mul-add}
use Rattle.std.proofs.Math.Nat.{div-add-mod, mod-lt, mod-eq_of_lt, mul_comm}
use Rattle.model_meaning.specs.Integers.{IsRemainder, is_remainder}
use Rattle.model_meaning.proofs.DomainLaws.{Decides-int_lt}

-- the remainder by a positive number
rem_parts : (i : ℤ) (n : ℕ) → 0 < n → IsRemainder i (pos n) (int_rem_euclid i (pos n))
rem_parts (pos a) n h =
    (pos (a / n), ap pos (sym (div-add-mod a n)), omega (arith, ints), omega (arith, ints, mod-lt a h))
rem_parts (negsuc a) n h =
    let e : n * (a / n) + a % n ≡ a = div-add-mod a n in
    let l : a % n < n = mod-lt a h in
    let m : n * suc (a / n) ≡ n * (a / n) + n = omega arith in
    (negsuc (a / n), omega (arith, ints, e, l, m), omega (arith, ints), omega (arith, ints, l))

to_parts : (i j k : ℤ) → (pos 0 <ℤ j) × (k ≡ int_rem_euclid i j) → IsRemainder i j k
to_parts i (pos n) k h = rw h.1 (rem_parts i n (omega (arith, ints, h.0)))
to_parts i (negsuc n) k h = absurd (omega (arith, ints, h.0))

from_parts : (i q : ℤ) (n r : ℕ) → i ≡ pos n *ℤ q +ℤ pos r → r < n → int_rem_euclid i (pos n) ≡ pos r
from_parts i (pos p) n r e h =
    int_rem_euclid_is i (pos n) n 0 (p * n + r) (omega arith) refl (omega (arith, ints, e, mul_comm n p)) ∙ ap pos (mod-mul-add p n r h)
from_parts i (negsuc p) n r e h =
    let m : n * suc p ≡ suc p * n = mul_comm n (suc p) in
    int_rem_euclid_is i (pos n) n (suc p) r (omega arith) refl (omega (arith, ints, e, m)) ∙ ap pos (mod-eq_of_lt h)

from_quotient : (i j k q : ℤ) → i ≡ j *ℤ q +ℤ k → pos 0 ≤ℤ k → k <ℤ j → (pos 0 <ℤ j) × (k ≡ int_rem_euclid i j)
from_quotient i (pos n) (pos r) q e l m = (omega (arith, ints, l, m), sym (from_parts i q n r e (omega (arith, ints, m))))
from_quotient i j (negsuc r) q e l m = absurd (omega (arith, ints, l))
from_quotient i (negsuc n) k q e l m = absurd (omega (arith, ints, l, m))

pub Decides-is_remainder : (i j k : ℤ) → Decides (is_remainder i j k) (IsRemainder i j k)
Decides-is_remainder i j k =
    Decides-like _ (to_parts i j k) (λ h. from_quotient i j k h.0 h.1 h.2 h.3) (Decides-and _ _ (Decides-int_lt (pos 0) j) (Decides-int_eq k (int_rem_euclid i j)))
