-- The two greatest of the members' greatest values tell which values one member at most reaches, and which none does.
use Rattle.std.proofs.Common.{◌≡◌, ℕ, ◌+◌, ◌≤◌, ◌<◌, ◌==◌, ◌^◌, Bool, true, false, cond, List, [], ◌∷◌, ◌++◌, length, map, append_assoc, min, ℤ, pos, ◌+ℤ◌, ◌≤ℤ◌, ◌<ℤ◌, refl, sym, ap, ◌∙◌, arith}
use Rattle.std.specs.Prelude.{int_le, int_lt, nat_le, filter, unsigned_abs}
use Rattle.std.specs.List.{AllByRecursion}
use Rattle.std.proofs.lemmas.Int.{ints}
use Rattle.std.proofs.lemmas.Bool.Decides.{nat_tests}
use Rattle.order_ints.specs.declared.atom.Atom.{Atom}
use Rattle.order_ints.specs.declared.atom.Atom.TheVariants.{False}
use Rattle.order_ints.specs.declared.order_int.OrdInt.{OrdInt}
use Rattle.order_ints.specs.OrderRange.{high_of, IsBounded}
use Rattle.order_ints.specs.OrderLevels.{levels_of, values_of, at_of}
use Rattle.order_ints.proofs.Comparisons.{int_le-true, int_le-false, by_int_le}
use Rattle.order_ints.proofs.Everywhere.{levels_small}
use Rattle.core_forms.specs.WellFormed.{AreSound}
use Rattle.rule_base.specs.declared.sought.SoughtEquation.{SoughtEquation}
use Rattle.rule_base.specs.Pairs.{first_sought, only_if}
use Rattle.rule_base.specs.Stated.{is_below}
use Rattle.arith_rules.specs.declared.maxima.Tops.{Tops}
use Rattle.arith_rules.specs.Links.{alike_where, alike_back}
use Rattle.arith_rules.specs.MaxRows.{member_ranges, top_from, top_equations, reaching, is_sole, linked_equations, leader_equations, unreached_equations, max_equations}
use Rattle.arith_rules.specs.Tops.{no_tops, with_top, tops_from, tops_of, false_above, leader_above, leaders_above}

-- whether w is at least v, as a number
abbrev one : ℤ → ℤ → ℕ
one v w = cond (int_le v w) 1 0

-- how many of the two are at least v
abbrev count : ℤ → Tops → ℕ
count v tops = one v tops.first + one v tops.second

module _ (v w : ℤ) where
  one-le : v ≤ℤ w → one v w ≡ 1
  one-le h = let f : Bool → ℕ = λ t. cond t 1 0 in ap f (int_le-true v w h)

  one-lt : w <ℤ v → one v w ≡ 0
  one-lt h = let f : Bool → ℕ = λ t. cond t 1 0 in ap f (int_le-false v w h)

  -- it is reached or passed
  by-one : {X : Type 0} → (v ≤ℤ w → one v w ≡ 1 → X) → (w <ℤ v → one v w ≡ 0 → X) → X
  by-one {X = X} reached passed =
      by_int_le v w true false (λ t. X) (λ le. reached le (one-le le)) (λ lt. passed lt (one-lt lt))

  one-few : one v w ≤ 1
  one-few = by-one {X = one v w ≤ 1} (λ _ e. omega (arith, e)) (λ _ e. omega (arith, e))

-- with one number more
with-counted : (v h : ℤ) (tops : Tops) → tops.second ≤ℤ tops.first → count v (with_top tops h) ≡ min 2 (count v tops + one v h)
with-counted v h tops order =
    by_int_le h tops.second tops (cond (int_le h tops.first) (record { first = tops.first; second = h }) (record { first = h; second = tops.first }))
    (λ t. count v t ≡ min 2 (count v tops + one v h))
    (λ low. by-one v h {X = count v tops ≡ min 2 (count v tops + one v h)}
    (λ le e. let f = one-le v tops.first (omega (arith, ints, le, low, order)) in let s = one-le v tops.second (omega (arith, ints, le, low)) in omega (arith, e, f, s))
    (λ lt e. let f = one-few v tops.first in let s = one-few v tops.second in omega (arith, e, f, s)))
    (λ over. by_int_le h tops.first (record { first = tops.first; second = h }) (record { first = h; second = tops.first })
    (λ t. count v t ≡ min 2 (count v tops + one v h))
    (λ mid. by-one v tops.second {X = one v tops.first + one v h ≡ min 2 (count v tops + one v h)}
    (λ le e. let f = one-le v tops.first (omega (arith, ints, le, order)) in let s = one-le v h (omega (arith, ints, le, over)) in omega (arith, e, f, s))
    (λ lt e. let f = one-few v tops.first in let s = one-few v h in omega (arith, e, f, s)))
    (λ high. by-one v tops.second {X = one v h + one v tops.first ≡ min 2 (count v tops + one v h)}
    (λ le e. let f = one-le v tops.first (omega (arith, ints, le, order)) in let s = one-le v h (omega (arith, ints, le, over)) in omega (arith, e, f, s))
    (λ lt e. let f = one-few v tops.first in let s = one-few v h in omega (arith, e, f, s))))

with-ordered : (h : ℤ) (tops : Tops) → tops.second ≤ℤ tops.first → (with_top tops h).second ≤ℤ (with_top tops h).first
with-ordered h tops order =
    by_int_le h tops.second tops (cond (int_le h tops.first) (record { first = tops.first; second = h }) (record { first = h; second = tops.first }))
    (λ (t : Tops). t.second ≤ℤ t.first)
    (λ _. order)
    (λ _. by_int_le h tops.first (record { first = tops.first; second = h }) (record { first = h; second = tops.first }) (λ (t : Tops). t.second ≤ℤ t.first)
    (λ mid. mid) (λ high. omega (arith, ints, high)))

-- the greater one is the greatest
with-first : (h : ℤ) (tops : Tops) → tops.second ≤ℤ tops.first → (with_top tops h).first ≡ cond (int_le tops.first h) h tops.first
with-first h tops order =
    by_int_le tops.first h h tops.first (λ t. (with_top tops h).first ≡ t)
    (λ up. by_int_le h tops.second tops (cond (int_le h tops.first) (record { first = tops.first; second = h }) (record { first = h; second = tops.first }))
    (λ (t : Tops). t.first ≡ h)
    (λ low. omega (arith, ints, up, low, order))
    (λ _. by_int_le h tops.first (record { first = tops.first; second = h }) (record { first = h; second = tops.first }) (λ (t : Tops). t.first ≡ h)
    (λ mid. omega (arith, ints, up, mid)) (λ _. refl)))
    (λ down. by_int_le h tops.second tops (cond (int_le h tops.first) (record { first = tops.first; second = h }) (record { first = h; second = tops.first }))
    (λ (t : Tops). t.first ≡ tops.first)
    (λ _. refl)
    (λ _. by_int_le h tops.first (record { first = tops.first; second = h }) (record { first = h; second = tops.first }) (λ (t : Tops). t.first ≡ tops.first)
    (λ _. refl) (λ high. absurd (omega (arith, ints, high, down)))))

from-counted : (v : ℤ) (tops : Tops) (xs : List OrdInt) → tops.second ≤ℤ tops.first → count v (tops_from tops xs) ≡ min 2 (count v tops + reaching v xs)
from-counted v tops [] order = let f = one-few v tops.first in let s = one-few v tops.second in omega (arith, f, s)
from-counted v tops (a ∷ xs) order =
    let rest = from-counted v (with_top tops (high_of a)) xs (with-ordered (high_of a) tops order) in
    let more = with-counted v (high_of a) tops order in
    omega (arith, rest, more)

from-ordered : (tops : Tops) (xs : List OrdInt) → tops.second ≤ℤ tops.first → (tops_from tops xs).second ≤ℤ (tops_from tops xs).first
from-ordered tops [] order = order
from-ordered tops (a ∷ xs) order = from-ordered (with_top tops (high_of a)) xs (with-ordered (high_of a) tops order)

from-first : (tops : Tops) (xs : List OrdInt) → tops.second ≤ℤ tops.first → (tops_from tops xs).first ≡ top_from tops.first xs
from-first tops [] order = refl
from-first tops (a ∷ xs) order =
    from-first (with_top tops (high_of a)) xs (with-ordered (high_of a) tops order) ∙ ap (λ t. top_from t xs) (with-first (high_of a) tops order)

none-ordered : no_tops.second ≤ℤ no_tops.first
none-ordered = omega (arith, ints)

-- the first of the two is the greatest of all
top_is : (a : OrdInt) (xs : List OrdInt) → IsBounded a → (tops_of (a ∷ xs)).first ≡ top_from (high_of a) xs
top_is a xs bounded =
    from-first no_tops (a ∷ xs) none-ordered
    ∙ ap (λ t. top_from t xs) (by_int_le no_tops.first (high_of a) (high_of a) no_tops.first (λ t. t ≡ high_of a) (λ _. refl) (λ lt. absurd (omega (arith, ints, lt, bounded.1))))

-- what is found where the first of the two bounds c
pub top-found : (sought : SoughtEquation) (c : OrdInt) (xs : List OrdInt) (tops : Tops) → AreSound xs → tops ≡ tops_of xs → (length xs == 0) ≡ false → first_sought sought (is_below c (tops.first +ℤ pos 1) ∷ []) ≡ first_sought sought (top_equations c xs)
top-found sought c [] tops sound is some = absurd (cc)
top-found sought c (a ∷ xs) tops sound is some =
    ap (λ n. first_sought sought (is_below c (n +ℤ pos 1) ∷ [])) (ap (λ (t : Tops). t.first) is ∙ top_is a xs sound.0.0)

nat_le-true : (m n : ℕ) → m ≤ n → nat_le m n ≡ true
nat_le-true m n h = grind (arith, nat_tests)

nat_le-false : (m n : ℕ) → n < m → nat_le m n ≡ false
nat_le-false m n h = grind (arith, nat_tests)

zero-true : (m : ℕ) → m ≤ 0 → (m == 0) ≡ true
zero-true m h = grind (arith, nat_tests)

zero-false : (m : ℕ) → 1 ≤ m → (m == 0) ≡ false
zero-false m h = grind (arith, nat_tests)

int_lt-true : (v w : ℤ) → v <ℤ w → int_lt v w ≡ true
int_lt-true v w h = grind (arith, ints)

int_lt-false : (v w : ℤ) → w ≤ℤ v → int_lt v w ≡ false
int_lt-false v w h = grind (arith, ints)

-- a value of an integer
module _ (xs : List OrdInt) (v : ℤ) (small : unsigned_abs v < 2 ^ 100) where
  counted : count v (tops_of xs) ≡ min 2 (reaching v xs)
  counted =
      let start = one-lt v no_tops.first (omega (arith, ints, small)) in
      let all = from-counted v no_tops xs none-ordered in
      omega (arith, start, all)

  ordered : (tops_of xs).second ≤ℤ (tops_of xs).first
  ordered = from-ordered no_tops xs none-ordered

  -- one member at most reaches it exactly where it is above the second
  sole-test : int_lt (tops_of xs).second v ≡ is_sole xs v
  sole-test =
      by-one v (tops_of xs).second {X = int_lt (tops_of xs).second v ≡ is_sole xs v}
      (λ le e. let f = one-le v (tops_of xs).first (omega (arith, ints, le, ordered)) in
      int_lt-false (tops_of xs).second v le ∙ sym (nat_le-false (reaching v xs) 1 (omega (arith, e, f, counted))))
      (λ lt e. let f = one-few v (tops_of xs).first in
      int_lt-true (tops_of xs).second v lt ∙ sym (nat_le-true (reaching v xs) 1 (omega (arith, e, f, counted))))

  -- none does exactly where it is above the first
  none-test : int_lt (tops_of xs).first v ≡ (reaching v xs == 0)
  none-test =
      by-one v (tops_of xs).first {X = int_lt (tops_of xs).first v ≡ (reaching v xs == 0)}
      (λ le e. int_lt-false (tops_of xs).first v le ∙ sym (zero-false (reaching v xs) (omega (arith, e, counted))))
      (λ lt e. let s = one-lt v (tops_of xs).second (omega (arith, ints, lt, ordered)) in
      int_lt-true (tops_of xs).first v lt ∙ sym (zero-true (reaching v xs) (omega (arith, e, s, counted))))

-- two tests that agree on each of some levels pass the same values
filter-same : (p q : ℤ → Bool) (ls : List (ℤ × Atom)) → ((v : ℤ) → unsigned_abs v < 2 ^ 100 → p v ≡ q v) → AllByRecursion (λ (level : ℤ × Atom). unsigned_abs level.0 < 2 ^ 100) ls → filter p (map (λ (level : ℤ × Atom). level.0) ls) ≡ filter q (map (λ (level : ℤ × Atom). level.0) ls)
filter-same p q [] agree small = refl
filter-same p q (l ∷ ls) agree small =
    λ i. cond (agree l.0 small.0 i) (l.0 ∷ filter-same p q ls agree small.1 i) (filter-same p q ls agree small.1 i)

values-same : (p q : ℤ → Bool) (a : OrdInt) → IsBounded a → ((v : ℤ) → unsigned_abs v < 2 ^ 100 → p v ≡ q v) → filter p (values_of a) ≡ filter q (values_of a)
values-same p q a bounded agree = filter-same p q (levels_of a) agree (levels_small a bounded)

module _ (xs : List OrdInt) (c : OrdInt) (bounded : IsBounded c) where
  pub unreached_is : false_above (tops_of xs).first c ≡ unreached_equations c xs
  unreached_is = ap (map (λ v. (at_of c v, False))) (values-same (int_lt (tops_of xs).first) (λ v. reaching v xs == 0) c bounded (none-test xs))

  alike-is : (a b : OrdInt) → IsBounded a → alike_where (int_lt (tops_of xs).second) a b ≡ alike_where (is_sole xs) a b
  alike-is a b small = ap (map (λ v. (at_of a v, at_of b v))) (values-same (int_lt (tops_of xs).second) (is_sole xs) a small (sole-test xs))

  alike_back-is : (a b : OrdInt) → IsBounded a → alike_back (int_lt (tops_of xs).second) a b ≡ alike_back (is_sole xs) a b
  alike_back-is a b small = ap (map (λ v. (at_of b v, at_of a v))) (values-same (int_lt (tops_of xs).second) (is_sole xs) a small (sole-test xs))

  leader-is : (a : OrdInt) → IsBounded a → leader_above (tops_of xs).second c a ≡ only_if (is_sole xs (high_of a)) (linked_equations c a xs)
  leader-is a small = λ i. only_if (sole-test xs (high_of a) small.1 i) (alike-is c a bounded i ++ alike_back-is a c small i)

  pub leaders_is : (ys : List OrdInt) → AreSound ys → leaders_above (tops_of xs).second c ys ≡ leader_equations c xs ys
  leaders_is [] sound = refl
  leaders_is (a ∷ ys) sound = λ i. leader-is a sound.0.0 i ++ leaders_is ys sound.1 i

-- all equations of a greatest member: those of ranges first
pub max-parts : (c : OrdInt) (xs : List OrdInt) → member_ranges c xs ++ (top_equations c xs ++ unreached_equations c xs ++ leader_equations c xs xs) ≡ max_equations xs c
max-parts c xs =
    sym (append_assoc (member_ranges c xs) (top_equations c xs ++ unreached_equations c xs) (leader_equations c xs xs))
    ∙ ap (λ ps. ps ++ leader_equations c xs xs) (sym (append_assoc (member_ranges c xs) (top_equations c xs) (unreached_equations c xs)))
