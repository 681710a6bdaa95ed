-- The values of a fresh sum: they ascend, they are within the limits, each sum of two values is among them, and the shape
-- of an integer of these values is within the one that costs count.
use Rattle.std.proofs.Common.{◌≡◌, ℕ, ◌+◌, ◌-◌, ◌*◌, ◌/◌, ◌<◌, ◌≤◌, ◌^◌, zero, suc, min, Bool, true, false, List, [], ◌∷◌, ◌++◌, map, length, ◌⊎◌, inl, inr, Contains, ℤ, pos, ◌+ℤ◌, ◌-ℤ◌, ◌<ℤ◌, ◌≤ℤ◌, refl, sym, ap, ◌∙◌, subst, arith}
use Rattle.std.specs.Prelude.{nat_le, unsigned_abs, max}
use Prim.Native.Nat.{◌∣◌}
use Rattle.std.proofs.Math.Nat.{dvd-add, dvd-add_iff_right, dvd-mul_left, div-mul_cancel, div-mul-le_self, div-zero}
use Rattle.std.proofs.lemmas.Int.{ints}
use Rattle.std.proofs.lemmas.Nat.{le-div}
use Rattle.std.proofs.lemmas.Nat.Gcd.{dvd-zero, dvd_antisymm}
use Rattle.std.proofs.lemmas.List.{length-map, length-append}
use Rattle.std.proofs.lemmas.Bool.Decides.{nat_tests}
use Rattle.order_ints.specs.declared.atom.Atom.{Atom}
use Rattle.order_ints.specs.declared.atom.Atom.TheVariants.{True}
use Rattle.order_ints.specs.declared.order_int.OrdInt.{OrdInt}
use Rattle.order_ints.specs.OrderRange.{weights, low_of, high_of}
use Rattle.order_ints.specs.OrderLevels.{levels, values_of}
use Rattle.order_ints.specs.OrderMade.{AscendFrom, AreAscending, AreSmall, steps_between, integer_of_values}
use Rattle.core_cost.specs.Arithmetic.{pairs_of_values}
use Rattle.core_cost.specs.Sums.{fresh_sum_of}
use Rattle.core_cost.specs.Relations.{IsWithin}
use Rattle.core_cost.proofs.ShapeLaws.{common-divides_first, common-divides_second}
use Rattle.core_forms.specs.WellFormed.{greatest_abs}
use Rattle.core_forms.specs.Shapes.{divisor_of, steps_of, shape_of}
use Rattle.core_forms.specs.Sums.{ascending, pair_sums, spaced, gap_of, gaps_of, sums_of}
use Rattle.core_forms.proofs.Tidied.{by_test}
use Rattle.core_forms.proofs.Kept.{IsReached, IsReached-from}
use Rattle.core_forms.proofs.ShapeLaws.{divides-common, divides-first, divides-second}
use Rattle.core_forms.proofs.Ascending.{Among, Among-from, Contains-among, Among-ascending, Among-from_ascending, AreAscending-ascending, length-ascending}

-- a number from the least one on, at most a span above it, by a multiple of a divisor
pub record IsOffset (d : ℕ) (low : ℤ) (span : ℕ) (v : ℤ) : Type 0 where
  pub by : ℕ
  pub is : v ≡ low +ℤ pos by
  pub most : by ≤ span
  pub divides : d ∣ by

-- ---- numbers of values

length-levels : (base : ℤ) (x : Atom) (steps : List (Atom × ℕ)) → length (map (λ level. level.0) (levels base x steps)) ≡ suc (length steps)
length-levels base x [] = refl
length-levels base x (s ∷ steps) = ap suc (length-levels (base +ℤ pos s.1) s.0 steps)

length-pair_sums : (vs ws : List ℤ) → length (pair_sums vs ws) ≡ length vs * length ws
length-pair_sums [] ws = omega arith
length-pair_sums (v ∷ vs) ws =
    omega (arith, length-append (map (λ w. v +ℤ w) ws) (pair_sums vs ws), length-map ws (λ w. v +ℤ w), length-pair_sums vs ws)

length-different : (a b : OrdInt) → length (ascending (pair_sums (values_of a) (values_of b))) ≤ pairs_of_values (steps_of a) (steps_of b)
length-different a b =
    let n : length (values_of a) ≡ steps_of a + 1 = omega (arith, length-levels a.base True a.steps) in
    let m : length (values_of b) ≡ steps_of b + 1 = omega (arith, length-levels b.base True b.steps) in
    let most = length-ascending (pair_sums (values_of a) (values_of b)) in
    let all = length-pair_sums (values_of a) (values_of b) in
    subst (λ (k : ℕ). length (ascending (pair_sums (values_of a) (values_of b))) ≤ k) (all ∙ ap (λ k. k * length (values_of b)) n ∙ ap (λ k. (steps_of a + 1) * k) m) most

length-spaced : (low : ℤ) (gap count : ℕ) → length (spaced low gap count) ≡ count
length-spaced low gap zero = refl
length-spaced low gap (suc count) = ap suc (length-spaced (low +ℤ pos gap) gap count)

-- ---- members of sums

Among-append_left : (u : ℤ) (vs ws : List ℤ) → Among u vs → Among u (vs ++ ws)
Among-append_left u [] ws m = absurd m
Among-append_left u (v ∷ vs) ws (inl e) = inl e
Among-append_left u (v ∷ vs) ws (inr m) = inr (Among-append_left u vs ws m)

Among-append_right : (u : ℤ) (vs ws : List ℤ) → Among u ws → Among u (vs ++ ws)
Among-append_right u [] ws m = m
Among-append_right u (v ∷ vs) ws m = inr (Among-append_right u vs ws m)

Among-append_cases : (u : ℤ) (vs ws : List ℤ) → Among u (vs ++ ws) → Among u vs ⊎ Among u ws
Among-append_cases u [] ws m = inr m
Among-append_cases u (v ∷ vs) ws (inl e) = inl (inl e)
Among-append_cases u (v ∷ vs) ws (inr m) = by (Among-append_cases u vs ws m)
  where
    by : Among u vs ⊎ Among u ws → ((v ≡ u) ⊎ Among u vs) ⊎ Among u ws
    by (inl n) = inl (inr n)
    by (inr n) = inr n

Among-map : (v w : ℤ) (ws : List ℤ) → Among w ws → Among (v +ℤ w) (map (λ w. v +ℤ w) ws)
Among-map v w [] m = absurd m
Among-map v w (x ∷ ws) (inl e) = inl (ap (λ z. v +ℤ z) e)
Among-map v w (x ∷ ws) (inr m) = inr (Among-map v w ws m)

Among-from_map : (u v : ℤ) (ws : List ℤ) → Among u (map (λ w. v +ℤ w) ws) → (w : ℤ) × Among w ws × (v +ℤ w ≡ u)
Among-from_map u v [] m = absurd m
Among-from_map u v (x ∷ ws) (inl e) = (x, inl refl, e)
Among-from_map u v (x ∷ ws) (inr m) = let r = Among-from_map u v ws m in (r.0, inr r.1, r.2)

Among-pair_sums : (v w : ℤ) (vs ws : List ℤ) → Among v vs → Among w ws → Among (v +ℤ w) (pair_sums vs ws)
Among-pair_sums v w [] ws m n = absurd m
Among-pair_sums v w (x ∷ vs) ws (inl e) n =
    Among-append_left (v +ℤ w) (map (λ w. x +ℤ w) ws) (pair_sums vs ws) (subst (λ (z : ℤ). Among (z +ℤ w) (map (λ w. x +ℤ w) ws)) e (Among-map x w ws n))
Among-pair_sums v w (x ∷ vs) ws (inr m) n =
    Among-append_right (v +ℤ w) (map (λ w. x +ℤ w) ws) (pair_sums vs ws) (Among-pair_sums v w vs ws m n)

Among-from_pair_sums : (u : ℤ) (vs ws : List ℤ) → Among u (pair_sums vs ws) → (v : ℤ) × (w : ℤ) × Among v vs × Among w ws × (v +ℤ w ≡ u)
Among-from_pair_sums u [] ws m = absurd m
Among-from_pair_sums u (x ∷ vs) ws m = by (Among-append_cases u (map (λ w. x +ℤ w) ws) (pair_sums vs ws) m) (Among-from_pair_sums u vs ws)
  where
    by : Among u (map (λ w. x +ℤ w) ws) ⊎ Among u (pair_sums vs ws) → (Among u (pair_sums vs ws) → (v : ℤ) × (w : ℤ) × Among v vs × Among w ws × (v +ℤ w ≡ u))
        → (v : ℤ) × (w : ℤ) × Among v (x ∷ vs) × Among w ws × (v +ℤ w ≡ u)
    by (inl n) rest = let r = Among-from_map u x ws n in (x, r.0, inl refl, r.1, r.2)
    by (inr n) rest = let r = rest n in (r.0, r.1, inr r.2, r.3, r.4)

-- the least value is among them
Among-least : (base : ℤ) (x : Atom) (steps : List (Atom × ℕ)) → Among base (map (λ level. level.0) (levels base x steps))
Among-least base x [] = inl refl
Among-least base x (s ∷ steps) = inl refl

-- ---- values by their distance from the least

reached-offset : (d : ℕ) (v base : ℤ) (steps : List (Atom × ℕ)) → d ∣ divisor_of steps → IsReached v base steps → IsOffset d base (weights steps) v
reached-offset d v base [] h e = record { by = 0; is = omega (arith, ints, e); most = omega arith; divides = dvd-zero d }
reached-offset d v base (s ∷ steps) h (inl e) = record { by = 0; is = omega (arith, ints, e); most = omega arith; divides = dvd-zero d }
reached-offset d v base (s ∷ steps) h (inr r) =
    let o = reached-offset d v (base +ℤ pos s.1) steps (divides-second d s.1 (divisor_of steps) h) r in
    record {
      by = s.1 + o.by;
      is = omega (arith, ints, o.is);
      most = omega (arith, o.most);
      divides = dvd-add d (divides-first d s.1 (divisor_of steps) h) o.divides;
    }

value-offset : (d : ℕ) (a : OrdInt) (v : ℤ) → d ∣ divisor_of a.steps → Contains (values_of a) v → IsOffset d a.base (weights a.steps) v
value-offset d a v h c = reached-offset d v a.base a.steps h (IsReached-from v a.base True a.steps c)

sum-offset : (d : ℕ) (low low' v w : ℤ) (span span' : ℕ) → IsOffset d low span v → IsOffset d low' span' w → IsOffset d (low +ℤ low') (span + span') (v +ℤ w)
sum-offset d low low' v w span span' o p = record {
  by = o.by + p.by;
  is = omega (arith, ints, o.is, p.is);
  most = omega (arith, o.most, p.most);
  divides = dvd-add d o.divides p.divides;
}

-- the sum of two values
pub values-offset : (a b : OrdInt) (v w : ℤ) → Contains (values_of a) v → Contains (values_of b) w
    → IsOffset (gap_of a b) (low_of a +ℤ low_of b) (weights a.steps + weights b.steps) (v +ℤ w)
values-offset a b v w c e =
    sum-offset (gap_of a b) a.base b.base v w (weights a.steps) (weights b.steps)
    (value-offset (gap_of a b) a v (common-divides_first _ _) c) (value-offset (gap_of a b) b w (common-divides_second _ _) e)

-- ---- spaced numbers

spaced-offset : (gap : ℕ) (low u : ℤ) (span k count : ℕ) → (k + count) * gap ≤ span + gap → Among u (spaced (low +ℤ pos (k * gap)) gap count) → IsOffset gap low span u
spaced-offset gap low u span k zero h m = absurd m
spaced-offset gap low u span k (suc count) h (inl e) = record { by = k * gap; is = sym e; most = omega (arith, h); divides = dvd-mul_left gap k }
spaced-offset gap low u span k (suc count) h (inr m) =
    spaced-offset gap low u span (suc k) count (omega (arith, h))
    (let e : low +ℤ pos (k * gap) +ℤ pos gap ≡ low +ℤ pos (suc k * gap) = omega (arith, ints) in subst (λ (z : ℤ). Among u (spaced z gap count)) e m)

spaced-ascends : (low : ℤ) (gap count : ℕ) → 1 ≤ gap → AscendFrom low (spaced (low +ℤ pos gap) gap count)
spaced-ascends low gap zero h = tt
spaced-ascends low gap (suc count) h = (omega (arith, ints, h), spaced-ascends (low +ℤ pos gap) gap count h)

Among-spaced : (low : ℤ) (gap i count : ℕ) → i < count → Among (low +ℤ pos (i * gap)) (spaced low gap count)
Among-spaced low gap i zero h = absurd (omega (arith, h))
Among-spaced low gap zero (suc count) h = inl (omega (arith, ints))
Among-spaced low gap (suc i) (suc count) h =
    let e : low +ℤ pos gap +ℤ pos (i * gap) ≡ low +ℤ pos (suc i * gap) = omega (arith, ints) in
    inr (subst (λ (z : ℤ). Among z (spaced (low +ℤ pos gap) gap count)) e (Among-spaced (low +ℤ pos gap) gap i count (omega (arith, h))))

-- a number that is apart from the least by a multiple of the gap
offset-among : (gap : ℕ) (low u : ℤ) (span : ℕ) → IsOffset gap low span u → Among u (spaced low gap (span / gap + 1))
offset-among zero low u span o =
    let none : o.by ≡ 0 = dvd_antisymm (dvd-zero o.by) o.divides in
    subst (λ (n : ℕ). Among u (spaced low zero n)) (add-one (span / zero)) (inl (omega (arith, ints, o.is, none)))
  where
    add-one : (n : ℕ) → suc n ≡ n + 1
    add-one n = omega arith
offset-among (suc gap) low u span o =
    let whole = div-mul_cancel (suc gap) o.divides in
    let most : o.by / suc gap ≤ span / suc gap = le-div (o.by / suc gap) span (suc gap) (omega arith) (omega (arith, whole, o.most)) in
    let e : low +ℤ pos (o.by / suc gap * suc gap) ≡ u = ap (λ n. low +ℤ pos n) whole ∙ sym o.is in
    subst (λ (z : ℤ). Among z (spaced low (suc gap) (span / suc gap + 1))) e (Among-spaced low (suc gap) (o.by / suc gap) (span / suc gap + 1) (omega (arith, most)))

-- ---- the values of a fresh sum

module _ (a b : OrdInt) where
  abbrev span : ℕ
  span = weights a.steps + weights b.steps

  abbrev test : Bool
  test = nat_le (pairs_of_values (steps_of a) (steps_of b) - 1) (gaps_of a b)

  abbrev different : List ℤ
  different = ascending (pair_sums (values_of a) (values_of b))

  abbrev apart : List ℤ
  apart = spaced (low_of a +ℤ low_of b) (gap_of a b) (gaps_of a b + 1)

  by_sums : (P : List ℤ → Type 0) → (test ≡ true → P different) → (test ≡ false → P apart) → P (sums_of a b)
  by_sums P when unless = by_test test different apart P when unless

  -- each sum of two values is among them
  pub sums-among : (v w : ℤ) → Contains (values_of a) v → Contains (values_of b) w → Contains (sums_of a b) (v +ℤ w)
  sums-among v w c e =
      by_sums (λ xs. Contains xs (v +ℤ w))
      (λ _. Contains-among _ _ (Among-ascending _ _ (Among-pair_sums v w _ _ (Among-from v _ c) (Among-from w _ e))))
      (λ _. Contains-among _ _ (offset-among (gap_of a b) _ _ span (values-offset a b v w c e)))

  -- all values are from the least sum to the greatest, apart from it by a multiple of the gap
  pub sums-offset : (u : ℤ) → Among u (sums_of a b) → IsOffset (gap_of a b) (low_of a +ℤ low_of b) (weights a.steps + weights b.steps) u
  sums-offset u =
      by_sums (λ xs. Among u xs → IsOffset (gap_of a b) (low_of a +ℤ low_of b) (weights a.steps + weights b.steps) u)
      (λ _ m. let r = Among-from_pair_sums u _ _ (Among-from_ascending u _ m) in
      subst (IsOffset (gap_of a b) (low_of a +ℤ low_of b) (weights a.steps + weights b.steps)) r.4
      (values-offset a b r.0 r.1 (Contains-among r.0 _ r.2) (Contains-among r.1 _ r.3)))
      (λ _ m. spaced-offset (gap_of a b) (low_of a +ℤ low_of b) u span 0 (gaps_of a b + 1)
      (let l = div-mul-le_self span (gap_of a b) in omega (arith, l))
      (let e : low_of a +ℤ low_of b ≡ low_of a +ℤ low_of b +ℤ pos (0 * gap_of a b) = omega (arith, ints) in subst (λ (z : ℤ). Among u (spaced z (gap_of a b) (gaps_of a b + 1))) e m))

  -- they ascend
  pub sums-ascend : AreAscending (sums_of a b)
  sums-ascend = by_sums AreAscending (λ _. AreAscending-ascending (pair_sums (values_of a) (values_of b))) (λ _. spread (gap_of a b) refl)
    where
      spread : (gap : ℕ) → gap_of a b ≡ gap → AreAscending (spaced (low_of a +ℤ low_of b) (gap_of a b) (gaps_of a b + 1))
      spread zero e =
          let none : gaps_of a b ≡ 0 = ap (λ g. span / g) e ∙ div-zero span in
          subst (λ (n : ℕ). AreAscending (spaced (low_of a +ℤ low_of b) (gap_of a b) (n + 1))) (sym none) tt
      spread (suc gap) e =
          let s : suc (gaps_of a b) ≡ gaps_of a b + 1 = omega arith in
          subst (λ (n : ℕ). AreAscending (spaced (low_of a +ℤ low_of b) (gap_of a b) n)) s
          (spaced-ascends (low_of a +ℤ low_of b) (gap_of a b) (gaps_of a b) (omega (arith, e)))

  -- there is one at least, and at most one more than costs count steps
  pub sums-some : 0 < length (sums_of a b)
  sums-some =
      some (sums_of a b) (by_sums (λ xs. Among (low_of a +ℤ low_of b) xs)
      (λ _. Among-ascending _ _ (Among-pair_sums a.base b.base _ _ (Among-least a.base True a.steps) (Among-least b.base True b.steps))) (λ _. Among-first (gaps_of a b)))
    where
      some : (xs : List ℤ) → Among (low_of a +ℤ low_of b) xs → 0 < length xs
      some [] m = absurd m
      some (x ∷ xs) m = omega arith

      Among-first : (n : ℕ) → Among (low_of a +ℤ low_of b) (spaced (low_of a +ℤ low_of b) (gap_of a b) (n + 1))
      Among-first n = let s : suc n ≡ n + 1 = omega arith in subst (λ (k : ℕ). Among (low_of a +ℤ low_of b) (spaced (low_of a +ℤ low_of b) (gap_of a b) k)) s (inl refl)

  pub sums-few : length (sums_of a b) ≤ (fresh_sum_of (shape_of a) (shape_of b)).steps + 1
  sums-few =
      by_sums (λ xs. length xs ≤ (fresh_sum_of (shape_of a) (shape_of b)).steps + 1)
      (λ e. different-few (pairs_of_values (steps_of a) (steps_of b)) (gaps_of a b) (length different) e (length-different a b))
      (λ e. apart-few (pairs_of_values (steps_of a) (steps_of b)) (gaps_of a b) (length apart) e (length-spaced (low_of a +ℤ low_of b) (gap_of a b) (gaps_of a b + 1)))
    where
      different-few : (p g l : ℕ) → nat_le (p - 1) g ≡ true → l ≤ p → l ≤ min (p - 1) g + 1
      different-few p g l e h = grind (arith, nat_tests)

      apart-few : (p g l : ℕ) → nat_le (p - 1) g ≡ false → l ≡ g + 1 → l ≤ min (p - 1) g + 1
      apart-few p g l e h = grind (arith, nat_tests)

-- ---- the integer of such values

-- all members are such offsets
AllOffset : (d : ℕ) (low : ℤ) (span : ℕ) → List ℤ → Type 0
AllOffset d low span vs = (u : ℤ) → Among u vs → IsOffset d low span u

length-between : (v : ℤ) (vs : List ℤ) (var : ℕ) → length (steps_between v vs var) ≡ length vs
length-between v [] var = refl
length-between v (w ∷ vs) var = ap suc (length-between w vs (var + 1))

-- the way from a value up to the last one
record IsClimb (d span from : ℕ) (steps : List (Atom × ℕ)) : Type 0 where
  pub most : from + weights steps ≤ span
  pub divides : d ∣ divisor_of steps

further : (low v w : ℤ) (k l : ℕ) → v ≡ low +ℤ pos k → w ≡ low +ℤ pos l → v <ℤ w → k + unsigned_abs (w -ℤ v) ≡ l
further low v w k l e f h = omega (arith, ints, e, f, h)

climb : (d : ℕ) (low : ℤ) (span : ℕ) (v : ℤ) (vs : List ℤ) (var : ℕ) → (o : IsOffset d low span v) → AscendFrom v vs
    → ((u : ℤ) → Among u vs → IsOffset d low span u) → IsClimb d span o.by (steps_between v vs var)
climb d low span v [] var o up all = record { most = omega (arith, o.most); divides = dvd-zero d }
climb d low span v (w ∷ vs) var o up all =
    let p = all w (inl refl) in
    let far = further low v w o.by p.by o.is p.is up.0 in
    let rest = climb d low span w vs (var + 1) p up.1 (λ u m. all u (inr m)) in
    record {
      most = omega (arith, far, rest.most);
      divides = divides-common d (unsigned_abs (w -ℤ v)) _ ((dvd-add_iff_right d o.divides).1 (subst (λ (n : ℕ). d ∣ n) (sym far) p.divides)) rest.divides;
    }

within-made : (a b : OrdInt) (vs : List ℤ) (var : ℕ) → AreAscending vs
    → ((u : ℤ) → Among u vs → IsOffset (gap_of a b) (low_of a +ℤ low_of b) (weights a.steps + weights b.steps) u)
    → length vs ≤ (fresh_sum_of (shape_of a) (shape_of b)).steps + 1
    → IsWithin (shape_of (integer_of_values vs var)) (fresh_sum_of (shape_of a) (shape_of b))
within-made a b [] var up all few = record { steps = omega arith; span = omega arith; divisor = dvd-zero _ }
within-made a b (v ∷ vs) var up all few =
    let c = climb (gap_of a b) (low_of a +ℤ low_of b) (weights a.steps + weights b.steps) v vs var (all v (inl refl)) up (λ u m. all u (inr m)) in
    record {
      steps = omega (arith, few, length-between v vs var);
      span = omega (arith, c.most);
      divisor = c.divides;
    }

-- ---- the span is that of both

Among-greatest : (base : ℤ) (x : Atom) (steps : List (Atom × ℕ)) → Among (base +ℤ pos (weights steps)) (map (λ level. level.0) (levels base x steps))
Among-greatest base x [] = inl (omega (arith, ints))
Among-greatest base x (s ∷ steps) =
    let e : base +ℤ pos s.1 +ℤ pos (weights steps) ≡ base +ℤ pos (s.1 + weights steps) = omega (arith, ints) in
    inr (subst (λ (z : ℤ). Among z (map (λ level. level.0) (levels (base +ℤ pos s.1) s.0 steps))) e (Among-greatest (base +ℤ pos s.1) s.0 steps))

-- all values are between the first and the first with all steps
within-climb : (u v : ℤ) (vs : List ℤ) (var : ℕ) → AscendFrom v vs → (v ≡ u) ⊎ Among u vs → (v ≤ℤ u) × (u ≤ℤ (v +ℤ pos (weights (steps_between v vs var))))
within-climb u v vs var up (inl e) = (omega (arith, ints, e), omega (arith, ints, e))
within-climb u v [] var up (inr m) = absurd m
within-climb u v (w ∷ vs) var up (inr m) =
    let r = within-climb u w vs (var + 1) up.1 m in (omega (arith, ints, r.0, up.0), omega (arith, ints, r.1, up.0))

span-made : (a b : OrdInt) (vs : List ℤ) (var : ℕ) → AreAscending vs
    → ((u : ℤ) → Among u vs → IsOffset (gap_of a b) (low_of a +ℤ low_of b) (weights a.steps + weights b.steps) u)
    → Among (low_of a +ℤ low_of b) vs → Among (high_of a +ℤ high_of b) vs
    → weights (integer_of_values vs var).steps ≡ weights a.steps + weights b.steps
span-made a b [] var up all least greatest = absurd least
span-made a b (v ∷ vs) var up all least greatest =
    let c = climb (gap_of a b) (low_of a +ℤ low_of b) (weights a.steps + weights b.steps) v vs var (all v (inl refl)) up (λ u m. all u (inr m)) in
    let l = within-climb (low_of a +ℤ low_of b) v vs var up least in
    let g = within-climb (high_of a +ℤ high_of b) v vs var up greatest in
    meet a.base b.base v (weights a.steps) (weights b.steps) (weights (steps_between v vs var)) (all v (inl refl)).by c.most l.0 g.1
  where
    meet : (p q v : ℤ) (m n w from : ℕ) → from + w ≤ m + n → v ≤ℤ (p +ℤ q) → ((p +ℤ pos m) +ℤ (q +ℤ pos n)) ≤ℤ (v +ℤ pos w) → w ≡ m + n
    meet p q v m n w from h l g = omega (arith, ints, h, l, g)

least-among : (a b : OrdInt) → Among (low_of a +ℤ low_of b) (sums_of a b)
least-among a b =
    Among-from _ _ (sums-among a b a.base b.base (Contains-among _ _ (Among-least a.base True a.steps)) (Contains-among _ _ (Among-least b.base True b.steps)))

pub fresh-span : (a b : OrdInt) (var : ℕ) → weights (integer_of_values (sums_of a b) var).steps ≡ weights a.steps + weights b.steps
fresh-span a b var =
    span-made a b (sums_of a b) var (sums-ascend a b) (sums-offset a b) (least-among a b)
    (Among-from _ _ (sums-among a b (high_of a) (high_of b) (Contains-among _ _ (Among-greatest a.base True a.steps)) (Contains-among _ _ (Among-greatest b.base True b.steps))))

-- its base is the least sum, and its greatest value the greatest one
base-made : (a b : OrdInt) (vs : List ℤ) (var : ℕ) → AreAscending vs
    → ((u : ℤ) → Among u vs → IsOffset (gap_of a b) (low_of a +ℤ low_of b) (weights a.steps + weights b.steps) u)
    → Among (low_of a +ℤ low_of b) vs → low_of (integer_of_values vs var) ≡ low_of a +ℤ low_of b
base-made a b [] var up all least = absurd least
base-made a b (v ∷ vs) var up all least =
    let l = within-climb (low_of a +ℤ low_of b) v vs var up least in
    let o = all v (inl refl) in
    meet a.base b.base v o.by o.is l.0
  where
    meet : (p q v : ℤ) (k : ℕ) → v ≡ p +ℤ q +ℤ pos k → v ≤ℤ (p +ℤ q) → v ≡ p +ℤ q
    meet p q v k e h = omega (arith, ints, e, h)

pub fresh-base : (a b : OrdInt) (var : ℕ) → low_of (integer_of_values (sums_of a b) var) ≡ low_of a +ℤ low_of b
fresh-base a b var = base-made a b (sums_of a b) var (sums-ascend a b) (sums-offset a b) (least-among a b)

pub fresh-abs : (a b : OrdInt) (var : ℕ) → greatest_abs (integer_of_values (sums_of a b) var) ≤ greatest_abs a + greatest_abs b
fresh-abs a b var =
    both a.base b.base (low_of (integer_of_values (sums_of a b) var)) (weights a.steps) (weights b.steps) (weights (integer_of_values (sums_of a b) var).steps)
    (fresh-base a b var) (fresh-span a b var)
  where
    both : (p q v : ℤ) (m n w : ℕ) → v ≡ p +ℤ q → w ≡ m + n
        → max (unsigned_abs v) (unsigned_abs (v +ℤ pos w)) ≤ max (unsigned_abs p) (unsigned_abs (p +ℤ pos m)) + max (unsigned_abs q) (unsigned_abs (q +ℤ pos n))
    both p q v m n w e f = omega (arith, ints, e, f)

-- each value is from the least sum to the greatest
pub sums-between : (a b : OrdInt) (u : ℤ) → Contains (sums_of a b) u → ((low_of a +ℤ low_of b) ≤ℤ u) × (u ≤ℤ (high_of a +ℤ high_of b))
sums-between a b u c =
    let o = sums-offset a b u (Among-from u _ c) in between a.base b.base u (weights a.steps) (weights b.steps) o.by o.is o.most
  where
    between : (p q u : ℤ) (m n k : ℕ) → u ≡ p +ℤ q +ℤ pos k → k ≤ m + n → ((p +ℤ q) ≤ℤ u) × (u ≤ℤ ((p +ℤ pos m) +ℤ (q +ℤ pos n)))
    between p q u m n k e h = (omega (arith, ints, e, h), omega (arith, ints, e, h))

-- the shape of an integer of the values of a fresh sum is within the one that costs count
pub fresh-within : (a b : OrdInt) (var : ℕ) → IsWithin (shape_of (integer_of_values (sums_of a b) var)) (fresh_sum_of (shape_of a) (shape_of b))
fresh-within a b var = within-made a b (sums_of a b) var (sums-ascend a b) (sums-offset a b) (sums-few a b)

-- ---- within the limits

small-offset : (a b : OrdInt) (d : ℕ) (u : ℤ) → greatest_abs a + greatest_abs b < 2 ^ 100
    → IsOffset d (low_of a +ℤ low_of b) (weights a.steps + weights b.steps) u → unsigned_abs u < 2 ^ 100
small-offset a b d u small o = limits a.base b.base (weights a.steps) (weights b.steps) o.by u o.is o.most small
  where
    limits : (p q : ℤ) (m n k : ℕ) (u : ℤ) → u ≡ p +ℤ q +ℤ pos k → k ≤ m + n
        → max (unsigned_abs p) (unsigned_abs (p +ℤ pos m)) + max (unsigned_abs q) (unsigned_abs (q +ℤ pos n)) < 2 ^ 100 → unsigned_abs u < 2 ^ 100
    limits p q m n k u e h s = omega (arith, ints, e, h, s)

all-small : (vs : List ℤ) → ((u : ℤ) → Among u vs → unsigned_abs u < 2 ^ 100) → AreSmall vs
all-small [] h = tt
all-small (v ∷ vs) h = (h v (inl refl), all-small vs (λ u m. h u (inr m)))

pub sums-small : (a b : OrdInt) → greatest_abs a + greatest_abs b < 2 ^ 100 → AreSmall (sums_of a b)
sums-small a b small = all-small (sums_of a b) (λ u m. small-offset a b (gap_of a b) u small (sums-offset a b u m))
