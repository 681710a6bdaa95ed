-- How far the values of integers are apart, within the limits of a model.
use Rattle.std.proofs.Common.{◌≡◌, ℕ, zero, suc, ◌+◌, ◌*◌, ◌^◌, ◌≤◌, ℤ, pos, negsuc, ◌-ℤ◌, Bool, true, false, List, [], ◌∷◌, ◌++◌, length, unsigned_abs, refl, arith}
use Rattle.std.specs.Prelude.{slice_get, ◌==◌, if◌then◌else◌}
use Rattle.std.specs.Ordering.{int_eq}
use Rattle.std.proofs.lemmas.Int.{ints}
use Rattle.std.proofs.lemmas.List.{append-nil}
use Rattle.core_cost.proofs.SumLaws.{spans-append}
use Rattle.std.proofs.Math.Nat.{mul-le-mul}
use Rattle.core_cost.specs.declared.shape.Shape.{Shape}
use Rattle.core_cost.specs.Sums.{constant, unit_steps, spans_of}
use Rattle.model_meaning.specs.declared.what.BoolTerm.{BoolTerm}
use Rattle.model_meaning.specs.declared.what.IntTerm.{IntTerm}
use Rattle.model_meaning.specs.declared.what.IntTerm.TheVariants as int_term
use Rattle.model_meaning.specs.declared.model.Kind.{Kind}
use Rattle.model_meaning.specs.declared.model.Kind.TheVariants as kind
use Rattle.model_meaning.specs.declared.model.Decl.{Decl}
use Rattle.model_meaning.specs.Domains.{at_least_zero}
use Rattle.model_meaning.specs.Limits.{InLimit, AllInLimit, KindInLimit, DeclsInLimit}
use Rattle.core_cost.specs.Relations.{IsShape}
use Rattle.core_cost.proofs.ShapeLaws.{IsShape-units}
use Rattle.value_lists.specs.ValueLists.{Ascends, last_behind, shape_of as listed_shape}
use Rattle.value_lists.proofs.Shapes.{span-reaches, steps-within, IsShape-listed}
use Rattle.model_weight.specs.Shapes.{steps_of, shape_of, domain_at, steps_in, shape_in}
use Rattle.model_weight.specs.Linear.{scaled, scaled_truths, scaled_numbers, numbers, with_steps}

pub units-span : (n : ℕ) → (unit_steps n).span ≡ n
units-span zero = refl
units-span (suc n) = refl

pub units-steps : (n : ℕ) → (unit_steps n).steps ≡ n
units-steps zero = refl
units-steps (suc n) = refl

pub units-divisor : (n : ℕ) → (unit_steps n).divisor ≤ 1
units-divisor zero = omega arith
units-divisor (suc n) = omega arith

pub at_least_zero-bound : (z : ℤ) (m : ℕ) → unsigned_abs z ≤ m → at_least_zero z ≤ m
at_least_zero-bound (pos n) m h = h
at_least_zero-bound (negsuc n) m h = omega arith

same-bounds : (z : ℤ) → at_least_zero (z -ℤ z) ≡ 0
same-bounds z = let e : z -ℤ z ≡ pos 0 = omega (arith, ints) in rw e refl

-- the last value of a list is one of its values
pub last-limit : (v : ℤ) (vs : List ℤ) → AllInLimit (v ∷ vs) → InLimit (last_behind v vs)
last-limit v [] h = h 0
last-limit v (w ∷ vs) h = last-limit w vs (λ k. h (suc k))

listed-span : (vs : List ℤ) → AllInLimit vs → Ascends vs → (listed_shape vs).span ≤ 2 ^ 31
listed-span [] h up = omega arith
listed-span (v ∷ vs) h up =
    let top = last-limit v vs h in
    let low : InLimit v = h 0 in
    let ends = span-reaches v vs up in
    omega (arith, ints, low, top, ends)

pub steps-bound : (k : Kind) → KindInLimit k → steps_of k ≤ 2 ^ 31
steps-bound kind.Bool h = omega arith
steps-bound (kind.Range low high) h = at_least_zero-bound (high -ℤ low) (2 ^ 31) (omega (arith, ints, h.0, h.1))
steps-bound (kind.Listed vs) h = omega (arith, steps-within vs h.1, listed-span vs h.0 h.1)

-- the shape of a domain has its steps, its span is bounded, and it is that of an integer
pub kind-steps : (k : Kind) → (shape_of k).steps ≡ steps_of k
kind-steps kind.Bool = refl
kind-steps (kind.Range low high) = units-steps (at_least_zero (high -ℤ low))
kind-steps (kind.Listed vs) = refl

pub kind-span : (k : Kind) → KindInLimit k → (shape_of k).span ≤ 2 ^ 31
kind-span kind.Bool h = omega arith
kind-span (kind.Range low high) h = omega (arith, units-span (at_least_zero (high -ℤ low)), steps-bound (kind.Range low high) h)
kind-span (kind.Listed vs) h = listed-span vs h.0 h.1

pub kind-shape : (k : Kind) → KindInLimit k → IsShape (shape_of k)
kind-shape kind.Bool h = IsShape-units 1
kind-shape (kind.Range low high) h = IsShape-units (at_least_zero (high -ℤ low))
kind-shape (kind.Listed vs) h = IsShape-listed vs h.1

domain-bound : (ds : List Decl) (place : ℕ) → DeclsInLimit ds → steps_of (domain_at (slice_get ds place)) ≤ 2 ^ 31
domain-bound [] place h = omega (arith, same-bounds (pos 0))
domain-bound (d ∷ ds) zero h = steps-bound d.kind h.0
domain-bound (d ∷ ds) (suc place) h = domain-bound ds place h.1

pub term-bound : (ds : List Decl) (i : IntTerm) → DeclsInLimit ds → steps_in ds i ≤ 2 ^ 31
term-bound ds (int_term.Number n) h = omega (arith, same-bounds n)
term-bound ds (int_term.Of place) h = domain-bound ds place h

domain-span : (ds : List Decl) (place : ℕ) → DeclsInLimit ds → (shape_of (domain_at (slice_get ds place))).span ≤ 2 ^ 31
domain-span [] place h = omega (arith, units-span (at_least_zero (pos 0 -ℤ pos 0)), same-bounds (pos 0))
domain-span (d ∷ ds) zero h = kind-span d.kind h.0
domain-span (d ∷ ds) (suc place) h = domain-span ds place h.1

pub span-bound : (ds : List Decl) (i : IntTerm) → DeclsInLimit ds → (shape_in ds i).span ≤ 2 ^ 31
span-bound ds (int_term.Number n) h = omega (arith, units-span (at_least_zero (n -ℤ n)), same-bounds n)
span-bound ds (int_term.Of place) h = domain-span ds place h

domain-shape : (ds : List Decl) (place : ℕ) → DeclsInLimit ds → IsShape (shape_of (domain_at (slice_get ds place)))
domain-shape [] place h = IsShape-units (at_least_zero (pos 0 -ℤ pos 0))
domain-shape (d ∷ ds) zero h = kind-shape d.kind h.0
domain-shape (d ∷ ds) (suc place) h = domain-shape ds place h.1

pub shape-in : (ds : List Decl) (i : IntTerm) → DeclsInLimit ds → IsShape (shape_in ds i)
shape-in ds (int_term.Number n) h = IsShape-units (at_least_zero (n -ℤ n))
shape-in ds (int_term.Of place) h = domain-shape ds place h

scaled-bound : (c : ℤ) (a : Shape) → InLimit c → a.span ≤ 2 ^ 31 → (scaled c a).span ≤ 2 ^ 61
scaled-bound c a h k = by_test (int_eq c (pos 0)) (mul-le-mul h k)
  where
    by_test : (b : Bool) → unsigned_abs c * a.span ≤ 2 ^ 61 → (if b then constant else record { steps = a.steps; span = unsigned_abs c * a.span; divisor = unsigned_abs c * a.divisor }).span ≤ 2 ^ 61
    by_test true e = omega arith
    by_test false e = e

-- members without steps are left out
more-spans : (a : Shape) (rest : List Shape) (m : ℕ) → a.span ≤ 2 ^ 61 → spans_of (with_steps rest) ≤ m → spans_of (with_steps (a ∷ rest)) ≤ 2 ^ 61 + m
more-spans a rest m h k = by_test (a.steps == 0)
  where
    by_test : (b : Bool) → spans_of (if b then with_steps rest else a ∷ with_steps rest) ≤ 2 ^ 61 + m
    by_test true = omega arith
    by_test false = omega arith

next-total : (s m n : ℕ) → s ≤ 2 ^ 61 + 2 ^ 61 * n → s ≤ 2 ^ 61 * suc n
next-total s m n h = omega arith

coefficients-next : (c : ℤ) (cs : List ℤ) → AllInLimit (c ∷ cs) → AllInLimit cs
coefficients-next c cs h k = h (suc k)

pub numbers-spans : (ds : List Decl) (is : List IntTerm) → DeclsInLimit ds → spans_of (with_steps (numbers ds is)) ≤ 2 ^ 61 * length is
numbers-spans ds [] h = omega arith
numbers-spans ds (i ∷ is) h =
    next-total _ 0 (length is) (more-spans (shape_in ds i) (numbers ds is) (2 ^ 61 * length is) (omega (arith, span-bound ds i h)) (numbers-spans ds is h))

pub scaled_numbers-spans : (ds : List Decl) (cs : List ℤ) (is : List IntTerm) → DeclsInLimit ds → AllInLimit cs → spans_of (with_steps (scaled_numbers ds cs is)) ≤ 2 ^ 61 * length is
scaled_numbers-spans ds [] is h k = omega arith
scaled_numbers-spans ds (c ∷ cs) [] h k = omega arith
scaled_numbers-spans ds (c ∷ cs) (i ∷ is) h k =
    next-total _ 0 (length is) (more-spans (scaled c (shape_in ds i)) (scaled_numbers ds cs is) (2 ^ 61 * length is)
    (scaled-bound c (shape_in ds i) (k 0) (span-bound ds i h)) (scaled_numbers-spans ds cs is h (coefficients-next c cs k)))

pub scaled_truths-spans : (cs : List ℤ) (xs : List BoolTerm) → AllInLimit cs → spans_of (with_steps (scaled_truths cs xs)) ≤ 2 ^ 61 * length xs
scaled_truths-spans [] xs k = omega arith
scaled_truths-spans (c ∷ cs) [] k = omega arith
scaled_truths-spans (c ∷ cs) (x ∷ xs) k =
    next-total _ 0 (length xs) (more-spans (scaled c (unit_steps 1)) (scaled_truths cs xs) (2 ^ 61 * length xs)
    (scaled-bound c (unit_steps 1) (k 0) (omega arith)) (scaled_truths-spans cs xs (coefficients-next c cs k)))

-- one member more
pub pushed-spans : (members pushed : List Shape) (a : Shape) → pushed ≡ members ++ with_steps (a ∷ []) → spans_of pushed ≤ spans_of members + a.span
pushed-spans members pushed a e = rw e (by_test (a.steps == 0))
  where
    by_test : (b : Bool) → spans_of (members ++ (if b then [] else a ∷ [])) ≤ spans_of members + a.span
    by_test true = rw (append-nil members) (omega arith)
    by_test false = omega (arith, spans-append members a)
