-- The common divisor of the weights of steps that are reversed or multiplied.
use Rattle.std.proofs.Common.{◌≡◌, ℕ, zero, suc, ◌*◌, ◌/◌, ◌≤◌, ◌<◌, List, [], ◌∷◌, ◌++◌, map, length, sym, ap, subst, ◌∙◌, arith}
use Rattle.std.specs.Prelude.{reverse}
use Prim.Native.Nat.{◌∣◌}
use Rattle.std.proofs.Math.Nat.{one-dvd, mul-dvd-mul_left, dvd-mul_right, dvd_of_mul-dvd-mul_left, mul-div_cancel'}
use Rattle.std.proofs.lemmas.Nat.Gcd.{dvd_refl, dvd-zero, dvd_antisymm}
use Rattle.order_ints.specs.declared.atom.Atom.{Atom}
use Rattle.order_ints.specs.OrderRange.{weights, AreRising}
use Rattle.order_ints.specs.OrderChange.{negated_step, multiplied_steps}
use Rattle.order_ints.proofs.Negation.{negated-cons}
use Rattle.core_cost.specs.Divisor.{common_divisor_of}
use Rattle.core_cost.specs.Sums.{unit_steps}
use Rattle.core_cost.proofs.ShapeLaws.{common-divides_first, common-divides_second}
use Rattle.core_forms.specs.Shapes.{divisor_of}
use Rattle.core_forms.proofs.ShapeLaws.{divides-common, divides-first, divides-second}

-- what divides each weight
abbrev DividesEach : ℕ → List (Atom × ℕ) → Type 0
DividesEach d [] = Unit {0}
DividesEach d (s ∷ steps) = (d ∣ s.1) × DividesEach d steps

each-divided : (d : ℕ) (steps : List (Atom × ℕ)) → d ∣ divisor_of steps → DividesEach d steps
each-divided d [] h = tt
each-divided d (s ∷ steps) h =
    (divides-first d s.1 (divisor_of steps) h, each-divided d steps (divides-second d s.1 (divisor_of steps) h))

divided-each : (d : ℕ) (steps : List (Atom × ℕ)) → DividesEach d steps → d ∣ divisor_of steps
divided-each d [] h = dvd-zero d
divided-each d (s ∷ steps) h = divides-common d s.1 (divisor_of steps) h.0 (divided-each d steps h.1)

each-append : (d : ℕ) (xs ys : List (Atom × ℕ)) → DividesEach d xs → DividesEach d ys → DividesEach d (xs ++ ys)
each-append d [] ys h k = k
each-append d (x ∷ xs) ys h k = (h.0, each-append d xs ys h.1 k)

each-negated : (d : ℕ) (steps : List (Atom × ℕ)) → DividesEach d steps → DividesEach d (map negated_step (reverse steps))
each-negated d [] h = tt
each-negated d (s ∷ steps) h =
    rw (negated-cons s steps) (each-append d (map negated_step (reverse steps)) (negated_step s ∷ []) (each-negated d steps h.1) (h.0, tt))

each-multiplied : (k d : ℕ) (steps : List (Atom × ℕ)) → DividesEach d steps → DividesEach (k * d) (multiplied_steps k steps)
each-multiplied k d [] h = tt
each-multiplied k d (s ∷ steps) h = (mul-dvd-mul_left d k h.0, each-multiplied k d steps h.1)

pub divides-negated : (d : ℕ) (steps : List (Atom × ℕ)) → d ∣ divisor_of steps → d ∣ divisor_of (map negated_step (reverse steps))
divides-negated d steps h = divided-each d (map negated_step (reverse steps)) (each-negated d steps (each-divided d steps h))

pub divides-multiplied : (k d : ℕ) (steps : List (Atom × ℕ)) → d ∣ divisor_of steps → (k * d) ∣ divisor_of (multiplied_steps k steps)
divides-multiplied k d steps h = divided-each (k * d) (multiplied_steps k steps) (each-multiplied k d steps (each-divided d steps h))

-- what divides each weight of the reversed steps divides each weight

each-first : (d : ℕ) (xs ys : List (Atom × ℕ)) → DividesEach d (xs ++ ys) → DividesEach d xs × DividesEach d ys
each-first d [] ys h = (tt, h)
each-first d (x ∷ xs) ys h =
    let rest = each-first d xs ys h.1 in
    ((h.0, rest.0), rest.1)

each-turned : (d : ℕ) (steps : List (Atom × ℕ)) → DividesEach d (map negated_step (reverse steps)) → DividesEach d steps
each-turned d [] h = tt
each-turned d (s ∷ steps) h =
    let parts = each-first d (map negated_step (reverse steps)) (negated_step s ∷ []) (subst (λ (xs : List (Atom × ℕ)). DividesEach d xs) (negated-cons s steps) h) in
    (parts.1.0, each-turned d steps parts.0)

pub divisor-negated : (steps : List (Atom × ℕ)) → divisor_of (map negated_step (reverse steps)) ≡ divisor_of steps
divisor-negated steps =
    let turned : List (Atom × ℕ) = map negated_step (reverse steps) in
    let most : divisor_of turned ∣ divisor_of steps = divided-each (divisor_of turned) steps (each-turned (divisor_of turned) steps (each-divided (divisor_of turned) turned (dvd_refl (divisor_of turned)))) in
    let least : divisor_of steps ∣ divisor_of turned = divides-negated (divisor_of steps) steps (dvd_refl (divisor_of steps)) in
    dvd_antisymm most least

-- the common divisor of multiples is the multiple of the common divisor

common-multiplied : (k a b : ℕ) → 0 < k → common_divisor_of (k * a) (k * b) ≡ k * common_divisor_of a b
common-multiplied k a b some =
    let g : ℕ = common_divisor_of a b in
    let e : ℕ = common_divisor_of (k * a) (k * b) in
    let whole : k ∣ e = divides-common k (k * a) (k * b) (dvd-mul_right k a) (dvd-mul_right k b) in
    let is : k * (e / k) ≡ e = mul-div_cancel' k whole in
    let first : (e / k) ∣ a = dvd_of_mul-dvd-mul_left (e / k) some (subst (λ (x : ℕ). x ∣ (k * a)) (sym is) (common-divides_first (k * a) (k * b))) in
    let second : (e / k) ∣ b = dvd_of_mul-dvd-mul_left (e / k) some (subst (λ (x : ℕ). x ∣ (k * b)) (sym is) (common-divides_second (k * a) (k * b))) in
    let least : e ∣ (k * g) = subst (λ (x : ℕ). x ∣ (k * g)) is (mul-dvd-mul_left (e / k) k (divides-common (e / k) a b first second)) in
    let most : (k * g) ∣ e = divides-common (k * g) (k * a) (k * b) (mul-dvd-mul_left g k (common-divides_first a b)) (mul-dvd-mul_left g k (common-divides_second a b)) in
    dvd_antisymm least most

pub divisor-multiplied : (k : ℕ) (steps : List (Atom × ℕ)) → 0 < k → divisor_of (multiplied_steps k steps) ≡ k * divisor_of steps
divisor-multiplied k [] some = omega arith
divisor-multiplied k (s ∷ steps) some =
    ap (λ (d : ℕ). common_divisor_of (k * s.1) d) (divisor-multiplied k steps some) ∙ common-multiplied k s.1 (divisor_of steps) some

-- 1 divides each weight, and without a step there is none
pub divides-units : (n : ℕ) (steps : List (Atom × ℕ)) → AreRising steps → weights steps ≤ n → (unit_steps n).divisor ∣ divisor_of steps
divides-units zero [] up h = dvd_refl 0
divides-units zero (s ∷ steps) up h = absurd (omega (arith, up.0))
divides-units (suc n) steps up h = one-dvd (divisor_of steps)

-- each step raises the value
pub steps-few : (steps : List (Atom × ℕ)) → AreRising steps → length steps ≤ weights steps
steps-few [] up = omega arith
steps-few (s ∷ steps) up = omega (arith, up.0, steps-few steps up.1)
