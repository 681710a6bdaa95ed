-- How often a node stands in lists, and how long they are.
use Rattle.std.proofs.Common.{◌≡◌, ℕ, zero, suc, ◌+◌, ◌≤◌, ◌<◌, Bool, true, false, List, [], ◌∷◌, ◌++◌, map, length, get_or, set, replicate, refl, ap, sym, ◌∙◌, arith, ⊎_elim}
use Rattle.std.specs.Prelude.{if◌then◌else◌, ◌==◌}
use Rattle.std.proofs.lemmas.Bool.{cases_lt, cases_eq, eq-eqb, ne_eqb, eqb-true, eqb-false, cond-true, cond-false}
use Rattle.std.proofs.lemmas.List.{get_or-set_same, get_or-set_other}
use Rattle.index_ring.specs.Lists.{times, times_in_all, without}
use Rattle.index_ring.specs.Laws.{total_length}

-- the node itself is found at the front of a list
pub times-same : (v w : ℕ) (list : List ℕ) → w ≡ v → times v (w ∷ list) ≡ 1 + times v list
times-same v w list e = ap (λ (n : ℕ). n + times v list) (cond-true (w == v) 1 0 (eq-eqb w v e))

pub times-other : (v w : ℕ) (list : List ℕ) → (w ≡ v → ⊥) → times v (w ∷ list) ≡ times v list
times-other v w list ne = omega (arith, cond-false {A = ℕ} (w == v) 1 0 (ne_eqb w v ne))

-- at least as often as in the rest
pub times-grows : (v w : ℕ) (list : List ℕ) → times v list ≤ times v (w ∷ list)
times-grows v w list = omega arith

pub times-append : (v : ℕ) (xs ys : List ℕ) → times v (xs ++ ys) ≡ times v xs + times v ys
times-append v [] ys = omega arith
times-append v (x ∷ xs) ys = omega (arith, times-append v xs ys)

-- a node that stands in a list cuts it in two
pub cut : (v : ℕ) (list : List ℕ) → 1 ≤ times v list → (front : List ℕ) × (back : List ℕ) × (list ≡ front ++ v ∷ back)
cut v [] here = absurd (omega arith)
cut v (w ∷ list) here = ⊎_elim found (later (cut v list)) (cases_eq w v)
  where
    found : w ≡ v → (front : List ℕ) × (back : List ℕ) × (w ∷ list ≡ front ++ v ∷ back)
    found e = ([], list, ap (λ (u : ℕ). u ∷ list) e)

    later : (1 ≤ times v list → (front : List ℕ) × (back : List ℕ) × (list ≡ front ++ v ∷ back)) → (w ≡ v → ⊥) → (front : List ℕ) × (back : List ℕ) × (w ∷ list ≡ front ++ v ∷ back)
    later cut_rest ne =
        let rest = cut_rest (omega (arith, times-other v w list ne)) in
        (w ∷ rest.0, rest.1, ap (λ (l : List ℕ). w ∷ l) rest.2)

-- all lists after one has changed
pub all-set : (v : ℕ) (lists : List (List ℕ)) (r : ℕ) (list : List ℕ) → r < length lists → times_in_all v (set lists r list) + times v (get_or lists r []) ≡ times_in_all v lists + times v list
all-set v [] r list h = absurd (omega arith)
all-set v (l ∷ lists) zero list h = omega arith
all-set v (l ∷ lists) (suc r) list h = omega (arith, all-set v lists r list (omega arith))

-- one of the lists
pub all-get : (v : ℕ) (lists : List (List ℕ)) (r : ℕ) → times v (get_or lists r []) ≤ times_in_all v lists
all-get v [] r = omega arith
all-get v (l ∷ lists) zero = omega arith
all-get v (l ∷ lists) (suc r) = omega (arith, all-get v lists r)

-- two of the lists
pub all-two : (v : ℕ) (lists : List (List ℕ)) (r s : ℕ) → (r ≡ s → ⊥) → times v (get_or lists r []) + times v (get_or lists s []) ≤ times_in_all v lists
all-two v [] r s ne = omega arith
all-two v (l ∷ lists) zero zero ne = absurd (ne refl)
all-two v (l ∷ lists) zero (suc s) ne = omega (arith, all-get v lists s)
all-two v (l ∷ lists) (suc r) zero ne = omega (arith, all-get v lists r)
all-two v (l ∷ lists) (suc r) (suc s) ne = omega (arith, all-two v lists r s (λ e. ne (ap suc e)))

pub all-append : (v : ℕ) (lists more : List (List ℕ)) → times_in_all v (lists ++ more) ≡ times_in_all v lists + times_in_all v more
all-append v [] more = omega arith
all-append v (l ∷ lists) more = omega (arith, all-append v lists more)

pub all-empty : (v count : ℕ) → times_in_all v (replicate count []) ≡ 0
all-empty v zero = refl
all-empty v (suc count) = omega (arith, all-empty v count)

-- a node that stands somewhere stands in one of the lists
pub all-find : (v : ℕ) (lists : List (List ℕ)) → 1 ≤ times_in_all v lists → (r : ℕ) × (r < length lists) × (1 ≤ times v (get_or lists r []))
all-find v [] h = absurd (omega arith)
all-find v (l ∷ lists) h = ⊎_elim (later (all-find v lists)) here (cases_lt (times v l) 1)
  where
    later : (1 ≤ times_in_all v lists → (r : ℕ) × (r < length lists) × (1 ≤ times v (get_or lists r []))) → times v l < 1 → (r : ℕ) × (r < length (l ∷ lists)) × (1 ≤ times v (get_or (l ∷ lists) r []))
    later find_rest none = let rest = find_rest (omega arith) in (suc rest.0, omega (arith, rest.1), rest.2)

    here : 1 ≤ times v l → (r : ℕ) × (r < length (l ∷ lists)) × (1 ≤ times v (get_or (l ∷ lists) r []))
    here some = (0, omega arith, some)

-- a list without a node that it doesn't have
pub without-none : (v : ℕ) (list : List ℕ) → times v list ≡ 0 → without v list ≡ list
without-none v [] h = refl
without-none v (w ∷ list) h = ⊎_elim (λ (e : w ≡ v). absurd (omega (arith, times-same v w list e))) (other (without-none v list)) (cases_eq w v)
  where
    other : (times v list ≡ 0 → without v list ≡ list) → (w ≡ v → ⊥) → without v (w ∷ list) ≡ w ∷ list
    other rest ne =
        cond-false (w == v) _ _ (ne_eqb w v ne) ∙ ap (λ (l : List ℕ). w ∷ l) (rest (omega (arith, times-other v w list ne)))

pub without-append : (v : ℕ) (xs ys : List ℕ) → without v (xs ++ ys) ≡ without v xs ++ without v ys
without-append v [] ys = refl
without-append v (x ∷ xs) ys = by_test (x == v) (without-append v xs ys)
  where
    by_test : (t : Bool) → without v (xs ++ ys) ≡ without v xs ++ without v ys → (if t then without v (xs ++ ys) else x ∷ without v (xs ++ ys)) ≡ (if t then without v xs else x ∷ without v xs) ++ without v ys
    by_test true e = e
    by_test false e = ap (λ (l : List ℕ). x ∷ l) e

pub without-cut : (v : ℕ) (front back : List ℕ) → times v front ≡ 0 → times v back ≡ 0 → without v (front ++ v ∷ back) ≡ front ++ back
without-cut v front back f b =
    without-append v front (v ∷ back)
    ∙ ap (λ (l : List ℕ). l ++ without v (v ∷ back)) (without-none v front f)
    ∙ ap (λ (l : List ℕ). front ++ l) (cond-true (v == v) _ _ (eq-eqb v v refl) ∙ without-none v back b)

-- how often a node stands in a list without another one
pub times-without : (v w : ℕ) (list : List ℕ) → times w (without v list) ≡ (if w == v then 0 else times w list)
times-without v w [] = by_test (w == v)
  where
    by_test : (t : Bool) → times w [] ≡ (if t then 0 else times w [])
    by_test true = refl
    by_test false = refl
times-without v w (u ∷ list) = by_tests (u == v) (w == v) (u == w) (eqb-true u v) (eqb-true w v) (eqb-true u w) (eqb-false u v) (eqb-false w v) (eqb-false u w) (times-without v w list)
  where
    by_tests : (t e f : Bool) → (t ≡ true → u ≡ v) → (e ≡ true → w ≡ v) → (f ≡ true → u ≡ w) → (t ≡ false → u ≡ v → ⊥) → (e ≡ false → w ≡ v → ⊥) → (f ≡ false → u ≡ w → ⊥) → times w (without v list) ≡ (if e then 0 else times w list) → times w (if t then without v list else u ∷ without v list) ≡ (if e then 0 else (if f then 1 else 0) + times w list)
    by_tests true true f a b c x y z h = h
    by_tests true false true a b c x y z h = absurd (y refl (sym (c refl) ∙ a refl))
    by_tests true false false a b c x y z h = omega arith
    by_tests false true f a b c x y z h = omega (arith, times-other w u (without v list) (λ g. x refl (g ∙ b refl)))
    by_tests false false true a b c x y z h = omega (arith, times-same w u (without v list) (c refl))
    by_tests false false false a b c x y z h = omega (arith, times-other w u (without v list) (z refl))

pub all-without : (v w : ℕ) (lists : List (List ℕ)) → times_in_all w (map (without v) lists) ≡ (if w == v then 0 else times_in_all w lists)
all-without v w [] = times-without v w []
all-without v w (l ∷ lists) = by_test (w == v) (times-without v w l) (all-without v w lists)
  where
    by_test : (t : Bool) → times w (without v l) ≡ (if t then 0 else times w l) → times_in_all w (map (without v) lists) ≡ (if t then 0 else times_in_all w lists) → times w (without v l) + times_in_all w (map (without v) lists) ≡ (if t then 0 else times w l + times_in_all w lists)
    by_test true a b = omega arith
    by_test false a b = omega arith

-- a list is longer by the times of the node that it loses
pub length-without : (v : ℕ) (list : List ℕ) → length (without v list) + times v list ≡ length list
length-without v [] = refl
length-without v (w ∷ list) = by_test (w == v) (length-without v list)
  where
    by_test : (t : Bool) → length (without v list) + times v list ≡ length list → length (if t then without v list else w ∷ without v list) + ((if t then 1 else 0) + times v list) ≡ suc (length list)
    by_test true h = omega arith
    by_test false h = omega arith

total-without : (v : ℕ) (lists : List (List ℕ)) → total_length (map (without v) lists) + times_in_all v lists ≡ total_length lists
total-without v [] = refl
total-without v (l ∷ lists) = omega (arith, length-without v l, total-without v lists)

total-nothing : (lists : List (List ℕ)) → ((v : ℕ) → times_in_all v lists ≡ 0) → total_length lists ≡ 0
total-nothing [] none = refl
total-nothing ([] ∷ lists) none = omega (arith, total-nothing lists (λ v. omega (arith, none v)))
total-nothing ((w ∷ l) ∷ lists) none = absurd (omega (arith, none w, times-same w w l refl))

-- lists in which only numbers below a bound stand, each once at most, have no more members than that
pub total_length-le : (bound : ℕ) (lists : List (List ℕ)) → ((v : ℕ) → times_in_all v lists ≤ 1) → ((v : ℕ) → bound ≤ v → times_in_all v lists ≡ 0) → total_length lists ≤ bound
total_length-le zero lists once inside = omega (arith, total-nothing lists (λ v. inside v (omega arith)))
total_length-le (suc bound) lists once inside = omega (arith, total-without bound lists, once bound, total_length-le bound (map (without bound) lists) fewer lower)
  where
    fewer : (v : ℕ) → times_in_all v (map (without bound) lists) ≤ 1
    fewer v = ⊎_elim same apart (cases_eq v bound)
      where
        same : v ≡ bound → times_in_all v (map (without bound) lists) ≤ 1
        same e = omega (arith, all-without bound v lists, cond-true (v == bound) 0 (times_in_all v lists) (eq-eqb v bound e))

        apart : (v ≡ bound → ⊥) → times_in_all v (map (without bound) lists) ≤ 1
        apart ne = omega (arith, all-without bound v lists, cond-false (v == bound) 0 (times_in_all v lists) (ne_eqb v bound ne), once v)

    lower : (v : ℕ) → bound ≤ v → times_in_all v (map (without bound) lists) ≡ 0
    lower v h = ⊎_elim same apart (cases_eq v bound)
      where
        same : v ≡ bound → times_in_all v (map (without bound) lists) ≡ 0
        same e = all-without bound v lists ∙ cond-true (v == bound) 0 (times_in_all v lists) (eq-eqb v bound e)

        apart : (v ≡ bound → ⊥) → times_in_all v (map (without bound) lists) ≡ 0
        apart ne =
            all-without bound v lists ∙ cond-false (v == bound) 0 (times_in_all v lists) (ne_eqb v bound ne) ∙ inside v (omega arith)

-- one of the lists is no longer than all together
pub length-le-total : (lists : List (List ℕ)) (r : ℕ) → length (get_or lists r []) ≤ total_length lists
length-le-total [] r = omega arith
length-le-total (l ∷ lists) zero = omega arith
length-le-total (l ∷ lists) (suc r) = omega (arith, length-le-total lists r)

-- lists, by place, after one has changed
pub get-set : (lists : List (List ℕ)) (r q : ℕ) (list : List ℕ) → r < length lists → get_or (set lists r list) q [] ≡ (if q == r then list else get_or lists q [])
get-set lists r q list h = ⊎_elim same other (cases_eq q r)
  where
    same : q ≡ r → get_or (set lists r list) q [] ≡ (if q == r then list else get_or lists q [])
    same e =
        ap (λ (k : ℕ). get_or (set lists r list) k []) e ∙ get_or-set_same lists r list [] h ∙ sym (cond-true (q == r) list (get_or lists q []) (eq-eqb q r e))

    other : (q ≡ r → ⊥) → get_or (set lists r list) q [] ≡ (if q == r then list else get_or lists q [])
    other ne = get_or-set_other lists r q list [] ne ∙ sym (cond-false (q == r) list (get_or lists q []) (ne_eqb q r ne))
