-- Marks sorted by their values: a stable sort keeps those of each value, and a walk along the values takes them together.
use Rattle.std.proofs.Common.{◌≡◌, ℕ, ◌+◌, ◌<◌, suc, Bool, true, false, not, ◌&&◌, cond, List, [], ◌∷◌, ◌++◌, map, length, drop, get_or, append_assoc, ◌⊎◌, inl, inr, ℤ, ◌<ℤ◌, ◌≤ℤ◌, refl, sym, ap, ◌∙◌, subst, arith, Less, Equal, Greater, IsPermutation, IsSorted}
use Rattle.std.specs.Prelude.{int_lt, filter}
use Rattle.std.specs.List.{dedup}
use Rattle.std.specs.List.Sorted.{ties, IsStableByKey, IsSortedByKey}
use Rattle.std.specs.Ordering.{int_cmp, int_eq, is_lt, is_eq}
use Rattle.std.proofs.lemmas.Int.{ints}
use Rattle.std.proofs.lemmas.List.{length-map, at_drop_more}
use Rattle.std.proofs.Math.ListN.{get_or-map}
use Rattle.std.proofs.lemmas.List.Sorted.{Contains-permutation, IsPermutation-sym}
use Rattle.order_ints.specs.declared.atom.Atom.{Atom}
use Rattle.order_ints.specs.declared.atom.Atom.TheVariants.{True}
use Rattle.order_ints.specs.OrderMade.{AscendFrom, AreAscending}
use Rattle.core_forms.specs.Sums.{ascending}
use Rattle.core_forms.proofs.Ascending.{cases_int, Among, Among-from, Contains-among, Among-ascending, AreAscending-ascending, above, ascending-from_sort}
use Rattle.decompose.specs.DifferingParts.{marks_from, marked}
use Rattle.decompose.specs.MarksByValue.{marked_values, leading, grouped, groups_of}
use Rattle.decompose.proofs.Tests.{int_eq-false, int_lt-true}
use Rattle.decompose.proofs.Marks.{by_equal, ascend-rest}

-- ---- a stable sort by value

abbrev by_value : ℤ × Atom → ℤ × Atom → Bool
by_value m n = is_lt (int_cmp m.0 n.0)

-- marks tie where they have one value
ties-value : (v w : ℤ) → (not (is_lt (int_cmp v w)) && not (is_lt (int_cmp w v))) ≡ int_eq v w
ties-value v w = by (int_lt v w) (int_lt w v)
  where
    by : (a b : Bool) → (not (is_lt (cond a Less (cond b Greater Equal))) && not (is_lt (cond b Less (cond a Greater Equal)))) ≡ is_eq (cond a Less (cond b Greater Equal))
    by true true = refl
    by true false = refl
    by false true = refl
    by false false = refl

marked-filter : (v : ℤ) (d : Atom) (ms : List (ℤ × Atom)) → marked v ms ≡ map (λ m. m.1) (filter (ties by_value (v, d)) ms)
marked-filter v d [] = refl
marked-filter v d (m ∷ ms) =
    ap (λ t. cond t (m.1 ∷ marked v ms) (marked v ms)) (sym (ties-value v m.0)) ∙ by (ties by_value (v, d) m) (marked-filter v d ms)
  where
    by : (t : Bool) → marked v ms ≡ map (λ m. m.1) (filter (ties by_value (v, d)) ms)
        → cond t (m.1 ∷ marked v ms) (marked v ms) ≡ map (λ m. m.1) (cond t (m ∷ filter (ties by_value (v, d)) ms) (filter (ties by_value (v, d)) ms))
    by true e = ap (λ xs. m.1 ∷ xs) e
    by false e = e

-- the marks of a value stay in their order
pub marked-stable : (ms ns : List (ℤ × Atom)) → IsStableByKey (λ (m : ℤ × Atom). m.0) int_cmp ms ns → (v : ℤ) → marked v ns ≡ marked v ms
marked-stable ms ns stable v = marked-filter v True ns ∙ ap (map (λ m. m.1)) (stable (v, True)) ∙ sym (marked-filter v True ms)

-- and the values are sorted
pub values-sorted : (ms : List (ℤ × Atom)) → IsSortedByKey (λ (m : ℤ × Atom). m.0) int_cmp ms → IsSorted int_cmp (marked_values ms)
values-sorted ms sorted k d z h =
    let i : get_or (marked_values ms) (k + 1) d ≡ (get_or ms (k + 1) (d, True)).0 = get_or-map (λ (m : ℤ × Atom). m.0) ms (k + 1) (d, True) in
    let j : get_or (marked_values ms) k d ≡ (get_or ms k (d, True)).0 = get_or-map (λ (m : ℤ × Atom). m.0) ms k (d, True) in
    ap (λ x. is_lt (int_cmp x (get_or (marked_values ms) k d))) i
    ∙ ap (λ y. is_lt (int_cmp (get_or ms (k + 1) (d, True)).0 y)) j
    ∙ sorted k (d, True) z (omega (arith, h, length-map ms (λ (m : ℤ × Atom). m.0)))

-- ---- numbers that don't fall

-- from one on none is below the one before
abbrev RiseFrom : ℤ → List ℤ → Type 0
RiseFrom low [] = Unit {0}
RiseFrom low (v ∷ vs) = (low ≤ℤ v) × RiseFrom v vs

abbrev DoRise : List ℤ → Type 0
DoRise [] = Unit {0}
DoRise (v ∷ vs) = RiseFrom v vs

-- and the first one is above a number
abbrev RiseAbove : ℤ → List ℤ → Type 0
RiseAbove low [] = Unit {0}
RiseAbove low (v ∷ vs) = (low <ℤ v) × RiseFrom v vs

at_most : (v w : ℤ) → is_lt (int_cmp w v) ≡ false → v ≤ℤ w
at_most v w e = by (cases_int v w)
  where
    by : (v ≡ w) ⊎ ((v <ℤ w) ⊎ (w <ℤ v)) → v ≤ℤ w
    by (inl f) = omega (arith, ints, f)
    by (inr (inl h)) = omega (arith, ints, h)
    by (inr (inr h)) =
        absurd (let f : is_lt (int_cmp w v) ≡ true = ap (λ t. is_lt (cond t Less (cond (int_lt v w) Greater Equal))) (int_lt-true w v h) in cc)

DoRise-from_sorted : (vs : List ℤ) → IsSorted int_cmp vs → DoRise vs
DoRise-from_sorted [] s = tt
DoRise-from_sorted (v ∷ []) s = tt
DoRise-from_sorted (v ∷ w ∷ vs) s = (
  at_most v w (s 0 v (omega arith) (omega arith)),
  DoRise-from_sorted (w ∷ vs) (λ k d z h.
      let e : suc k + 1 ≡ suc (k + 1) = omega arith in
      subst (λ (n : ℕ). is_lt (int_cmp (get_or (v ∷ w ∷ vs) n d) (get_or (w ∷ vs) k d)) ≡ false) e (s (suc k) d (omega arith) (omega (arith, h)))),
)

rises : (v : ℤ) (us : List ℤ) → RiseAbove v us → DoRise us
rises v [] r = tt
rises v (u ∷ us) r = r.1

from-above : (v w u : ℤ) (us : List ℤ) → v <ℤ w → RiseFrom w us → Among u us → v <ℤ u
from-above v w u [] h r m = absurd m
from-above v w u (x ∷ us) h r (inl e) = omega (arith, ints, h, r.0, e)
from-above v w u (x ∷ us) h r (inr m) = from-above v x u us (omega (arith, ints, h, r.0)) r.1 m

all-above : (v u : ℤ) (us : List ℤ) → RiseAbove v us → Among u us → v <ℤ u
all-above v u [] r m = absurd m
all-above v u (x ∷ us) r (inl e) = subst (λ (z : ℤ). v <ℤ z) e r.0
all-above v u (x ∷ us) r (inr m) = from-above v x u us r.0 r.1 m

-- numbers that are all among ascending ones begin at the least of these or above it
begin : (v : ℤ) (vs us : List ℤ) → AscendFrom v vs → DoRise us → ((u : ℤ) → Among u us → Among u (v ∷ vs)) → RiseFrom v us
begin v vs [] up rise all = tt
begin v vs (u ∷ us) up rise all = (least (all u (inl refl)), rise)
  where
    least : Among u (v ∷ vs) → v ≤ℤ u
    least (inl e) = omega (arith, ints, e)
    least (inr m) = let h = above v u vs up m in omega (arith, ints, h)

-- ---- the marks in front that have a value, and those behind them

abbrev behind : ℤ → List (ℤ × Atom) → List (ℤ × Atom)
behind v ms = drop (length (leading v ms)) ms

-- cases on whether the first mark has the value
by_first : (v : ℤ) (m : ℤ × Atom) (ms : List (ℤ × Atom)) (P : List Atom → List (ℤ × Atom) → Type 0)
    → (v ≡ m.0 → P (m.1 ∷ leading v ms) (behind v ms)) → ((v ≡ m.0 → ⊥) → P [] (m ∷ ms)) → P (leading v (m ∷ ms)) (behind v (m ∷ ms))
by_first v m ms P same other =
    by_equal v m.0 (λ t. P (cond t (m.1 ∷ leading v ms) []) (drop (length (cond t (m.1 ∷ leading v ms) [])) (m ∷ ms))) same other

unmarked : (v w : ℤ) (ms : List (ℤ × Atom)) → v <ℤ w → RiseFrom w (marked_values ms) → marked v ms ≡ []
unmarked v w [] h r = refl
unmarked v w (m ∷ ms) h r =
    ap (λ t. cond t (m.1 ∷ marked v ms) (marked v ms)) (int_eq-false v m.0 (λ e. omega (arith, ints, e, h, r.0)))
    ∙ unmarked v m.0 ms (omega (arith, ints, h, r.0)) r.1

leading-is : (v : ℤ) (ms : List (ℤ × Atom)) → RiseFrom v (marked_values ms) → leading v ms ≡ marked v ms
leading-is v [] r = refl
leading-is v (m ∷ ms) r =
    by_equal v m.0 (λ t. cond t (m.1 ∷ leading v ms) [] ≡ cond t (m.1 ∷ marked v ms) (marked v ms))
    (λ e. ap (λ xs. m.1 ∷ xs) (leading-is v ms (subst (λ (z : ℤ). RiseFrom z (marked_values ms)) (sym e) r.1)))
    (λ n. sym (unmarked v m.0 ms (strictly v m.0 n r.0) r.1))
  where
    strictly : (v w : ℤ) → (v ≡ w → ⊥) → v ≤ℤ w → v <ℤ w
    strictly v w n h = by (cases_int v w)
      where
        by : (v ≡ w) ⊎ ((v <ℤ w) ⊎ (w <ℤ v)) → v <ℤ w
        by (inl e) = absurd (n e)
        by (inr (inl k)) = k
        by (inr (inr k)) = omega (arith, ints, h, k)

behind-above : (v : ℤ) (ms : List (ℤ × Atom)) → RiseFrom v (marked_values ms) → RiseAbove v (marked_values (behind v ms))
behind-above v [] r = tt
behind-above v (m ∷ ms) r =
    by_first v m ms (λ _ rest. RiseAbove v (marked_values rest))
    (λ e. behind-above v ms (subst (λ (z : ℤ). RiseFrom z (marked_values ms)) (sym e) r.1))
    (λ n. (strictly v m.0 n r.0, r.1))
  where
    strictly : (v w : ℤ) → (v ≡ w → ⊥) → v ≤ℤ w → v <ℤ w
    strictly v w n h = by (cases_int v w)
      where
        by : (v ≡ w) ⊎ ((v <ℤ w) ⊎ (w <ℤ v)) → v <ℤ w
        by (inl e) = absurd (n e)
        by (inr (inl k)) = k
        by (inr (inr k)) = omega (arith, ints, h, k)

Among-behind : (u v : ℤ) (ms : List (ℤ × Atom)) → Among u (marked_values (behind v ms)) → Among u (marked_values ms)
Among-behind u v [] m = m
Among-behind u v (m ∷ ms) k =
    by_first v m ms (λ _ rest. Among u (marked_values rest) → Among u (marked_values (m ∷ ms))) (λ e i. inr (Among-behind u v ms i)) (λ n i. i) k

marked-behind : (v w : ℤ) (ms : List (ℤ × Atom)) → (w ≡ v → ⊥) → marked w (behind v ms) ≡ marked w ms
marked-behind v w [] other = refl
marked-behind v w (m ∷ ms) other =
    by_first v m ms (λ _ rest. marked w rest ≡ marked w (m ∷ ms))
    (λ e. marked-behind v w ms other ∙ sym (ap (λ t. cond t (m.1 ∷ marked w ms) (marked w ms)) (int_eq-false w m.0 (λ f. other (f ∙ sym e)))))
    (λ n. refl)

-- ---- all values

map-same : (f g : ℤ → List Atom) (vs : List ℤ) → ((w : ℤ) → Among w vs → f w ≡ g w) → map f vs ≡ map g vs
map-same f g [] h = refl
map-same f g (v ∷ vs) h = ap (λ x. x ∷ map f vs) (h v (inl refl)) ∙ ap (λ xs. g v ∷ xs) (map-same f g vs (λ w m. h w (inr m)))

grouped-is : (vs : List ℤ) (ms : List (ℤ × Atom)) → AreAscending vs → DoRise (marked_values ms) → ((u : ℤ) → Among u (marked_values ms) → Among u vs)
    → grouped vs ms ≡ map (λ v. marked v ms) vs
grouped-is [] ms up rise all = refl
grouped-is (v ∷ vs) ms up rise all =
    let here = begin v vs (marked_values ms) up rise all in
    let past = behind-above v ms here in
    let rest = grouped-is vs (behind v ms) (ascend-rest v vs up) (rises v (marked_values (behind v ms)) past)
    (λ u m. others u (all-above v u (marked_values (behind v ms)) past m) (all u (Among-behind u v ms m))) in
    ap (λ x. x ∷ grouped vs (behind v ms)) (leading-is v ms here)
    ∙ ap (λ xs. marked v ms ∷ xs) (rest ∙ map-same (λ w. marked w (behind v ms)) (λ w. marked w ms) vs
    (λ w m. let h = above v w vs up m in marked-behind v w ms (λ e. omega (arith, ints, e, h))))
  where
    others : (u : ℤ) → v <ℤ u → Among u (v ∷ vs) → Among u vs
    others u h (inl e) = absurd (omega (arith, ints, h, e))
    others u h (inr m) = m

-- the groups along sorted marks are those of all marks
pub groups-made : (ms ns : List (ℤ × Atom)) → IsPermutation (marked_values ms) (marked_values ns) → IsSorted int_cmp (marked_values ns)
    → ((v : ℤ) → marked v ns ≡ marked v ms) → grouped (dedup int_eq (marked_values ns)) ns ≡ groups_of ms
groups-made ms ns moved sorted same =
    let vs = ascending (marked_values ms) in
    ap (λ us. grouped us ns) (ascending-from_sort (marked_values ms) (marked_values ns) (dedup int_eq (marked_values ns)) moved sorted refl)
    ∙ grouped-is vs ns (AreAscending-ascending (marked_values ms)) (DoRise-from_sorted (marked_values ns) sorted)
    (λ u m. Among-ascending u (marked_values ms) (Among-from u (marked_values ms) (Contains-permutation _ _ u (IsPermutation-sym _ _ moved) (Contains-among u (marked_values ns) m))))
    ∙ map-same (λ v. marked v ns) (λ v. marked v ms) vs (λ w m. same w)

-- one value more of the walk
pub group-more : (so_far more : List (List Atom)) (vs : List ℤ) (i : ℕ) (d V : ℤ) (ms rest : List (ℤ × Atom)) (atoms : List Atom) (all : List (List Atom))
    → i < length vs → V ≡ get_or vs i d → atoms ≡ leading V ms → rest ≡ drop (length atoms) ms → more ≡ so_far ++ atoms ∷ []
    → so_far ++ grouped (drop i vs) ms ≡ all → more ++ grouped (drop (i + 1) vs) rest ≡ all
group-more so_far more vs i d V ms rest atoms all lt is made cut put before =
    let taken : atoms ≡ leading (get_or vs i d) ms = made ∙ ap (λ v. leading v ms) is in
    ap (λ xs. xs ++ grouped (drop (i + 1) vs) rest) put
    ∙ append_assoc so_far (atoms ∷ []) (grouped (drop (i + 1) vs) rest)
    ∙ ap (λ r. so_far ++ atoms ∷ grouped (drop (i + 1) vs) r) cut
    ∙ ap (λ (xs : List Atom). so_far ++ xs ∷ grouped (drop (i + 1) vs) (drop (length xs) ms)) taken
    ∙ ap (λ xs. so_far ++ xs) (sym (at_drop_more (λ us. grouped us ms) vs i d lt))
    ∙ before

-- what marks are made of
pub values-marks : (var : ℕ) (vs : List ℤ) → marked_values (marks_from var vs) ≡ vs
values-marks var [] = refl
values-marks var (v ∷ vs) = ap (λ us. v ∷ us) (values-marks (var + 1) vs)
