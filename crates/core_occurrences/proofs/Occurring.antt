-- Lists of ids where cores come and go.
use Rattle.std.proofs.Common.{◌≡◌, ℕ, zero, suc, ◌+◌, ◌-◌, ◌≤◌, ◌<◌, ◌^◌, Bool, true, false, List, [], ◌∷◌, ◌++◌, length, map, get_or, set, take, replicate, refl, ap, sym, ◌∙◌, subst, arith, ⊎_elim}
use Rattle.std.specs.Prelude.{if◌then◌else◌, ◌==◌, ◌||◌}
use Rattle.std.specs.List.{All, Contains}
use Rattle.std.specs.List.Sorted.{IsStrictlyIncreasing}
use Rattle.std.proofs.lemmas.Bool.{cases_lt, cases_eq, eqb-true, true≢false}
use Rattle.std.proofs.lemmas.List.{length-append, length-replicate, length-map, get_or-map, get_or_past, take_more, take_all}
use Rattle.index_ring.specs.Lists.{times, times_in_all, without}
use Rattle.index_ring.specs.Laws.{total_length}
use Rattle.index_ring.proofs.Times.{times-same, times-other, times-append, times-without, length-without}
use Rattle.core_occurrences.specs.Lists.{OccurrenceLists, IsOccurrences, Occurs, cores_at, with_id, grown, added, removed}
use Rattle.core_occurrences.proofs.Listed.{is_listed, length-with_id, with_id-at, with_id-none, with_id-more, new-in-increasing}

-- what a list contains, and how often
pub times-from_contains : (list : List ℕ) (w : ℕ) → Contains list w → 1 ≤ times w list
times-from_contains list w h = at list h.0 h.1 h.2
  where
    at : (list : List ℕ) (k : ℕ) → k < length list → get_or list k w ≡ w → 1 ≤ times w list
    at [] k low e = absurd (omega arith)
    at (u ∷ list) zero low e = omega (arith, times-same w u list e)
    at (u ∷ list) (suc k) low e = omega (arith, at list k (omega arith) e)

pub contains-from_times : (list : List ℕ) (w : ℕ) → 1 ≤ times w list → Contains list w
contains-from_times [] w some = absurd (omega arith)
contains-from_times (u ∷ list) w some = ⊎_elim here (there (contains-from_times list w)) (cases_eq u w)
  where
    here : u ≡ w → Contains (u ∷ list) w
    here e = (0, omega arith, e)

    there : (1 ≤ times w list → Contains list w) → (u ≡ w → ⊥) → Contains (u ∷ list) w
    there rest ne = let found = rest (omega (arith, times-other w u list ne)) in (suc found.0, omega (arith, found.1), found.2)

-- a test finds no more than a list contains
pub contains-from_listed : (vars : List ℕ) (v : ℕ) → is_listed v vars ≡ true → Contains vars v
contains-from_listed [] v h = absurd (true≢false (sym h))
contains-from_listed (w ∷ vars) v h = by (w == v) refl (contains-from_listed vars v)
  where
    by : (t : Bool) → (w == v) ≡ t → (is_listed v vars ≡ true → Contains vars v) → Contains (w ∷ vars) v
    by true e rest = (0, omega arith, eqb-true w v e)
    by false e rest = let found = rest (sym (ap (λ (b : Bool). b || is_listed v vars) e) ∙ h) in (suc found.0, omega (arith, found.1), found.2)

pub times-none : (list : List ℕ) (w : ℕ) → ¬ Contains list w → times w list ≡ 0
times-none list w none =
    ⊎_elim (λ (few : times w list < 1). omega arith) (λ some. absurd (none (contains-from_times list w some))) (cases_lt (times w list) 1)

-- empty lists behind others
pub get_or-empties : (lists : List (List ℕ)) (n k : ℕ) → get_or (lists ++ replicate n []) k [] ≡ get_or lists k []
get_or-empties [] zero k = refl
get_or-empties [] (suc n) zero = refl
get_or-empties [] (suc n) (suc k) = get_or-empties [] n k
get_or-empties (l ∷ lists) n zero = refl
get_or-empties (l ∷ lists) n (suc k) = get_or-empties lists n k

pub total-empties : (lists : List (List ℕ)) (n : ℕ) → total_length (lists ++ replicate n []) ≡ total_length lists
total-empties [] zero = refl
total-empties [] (suc n) = omega (arith, total-empties [] n)
total-empties (l ∷ lists) n = omega (arith, total-empties lists n)

-- the list of a variable after a change
pub cores-grown : (old : OccurrenceLists) (vars ids nodes v : ℕ) → cores_at (grown old vars ids nodes) v ≡ cores_at old v
cores-grown old vars ids nodes v = get_or-empties old.lists vars (v - 1)

pub cores-removed : (old : OccurrenceLists) (id v : ℕ) → cores_at (removed old id) v ≡ without id (cores_at old v)
cores-removed old id v = ⊎_elim inside past (cases_lt (v - 1) (length old.lists))
  where
    inside : v - 1 < length old.lists → cores_at (removed old id) v ≡ without id (cores_at old v)
    inside low = get_or-map (without id) old.lists (v - 1) [] [] low

    past : length old.lists ≤ v - 1 → cores_at (removed old id) v ≡ without id (cores_at old v)
    past high =
        get_or_past (map (without id) old.lists) (v - 1) [] (omega (arith, high, length-map old.lists (without id)))
        ∙ ap (without id) (sym (get_or_past old.lists (v - 1) [] high))

pub cores-added : (old : OccurrenceLists) (id : ℕ) (vars : List ℕ) (v : ℕ) → 1 ≤ v → v ≤ length old.lists → cores_at (added old id vars) v ≡ (if is_listed v vars then cores_at old v ++ id ∷ [] else cores_at old v)
cores-added old id vars v low high =
    let e : 1 + (v - 1) ≡ v = omega arith in
    with_id-at id vars 1 old.lists (v - 1) (omega arith)
    ∙ ap (λ (w : ℕ). if is_listed w vars then cores_at old v ++ id ∷ [] else cores_at old v) e

-- how often an id stands there
times-added : (old : OccurrenceLists) (id : ℕ) (vars : List ℕ) (v w : ℕ) → times w (cores_at (added old id vars) v) ≤ times w (cores_at old v) + times w (id ∷ [])
times-added old id vars v w = ⊎_elim inside past (cases_lt (v - 1) (length old.lists))
  where
    inside : v - 1 < length old.lists → times w (cores_at (added old id vars) v) ≤ times w (cores_at old v) + times w (id ∷ [])
    inside low = by (is_listed (1 + (v - 1)) vars) (with_id-at id vars 1 old.lists (v - 1) low)
      where
        by : (t : Bool) → cores_at (added old id vars) v ≡ (if t then cores_at old v ++ id ∷ [] else cores_at old v) → times w (cores_at (added old id vars) v) ≤ times w (cores_at old v) + times w (id ∷ [])
        by true e = omega (arith, ap (times w) e, times-append w (cores_at old v) (id ∷ []))
        by false e = omega (arith, ap (times w) e)

    past : length old.lists ≤ v - 1 → times w (cores_at (added old id vars) v) ≤ times w (cores_at old v) + times w (id ∷ [])
    past high = omega (arith, ap (times w) (get_or_past (with_id id vars 1 old.lists) (v - 1) [] (omega (arith, high, length-with_id id vars 1 old.lists))))

-- the total of all lists
total-set : (lists : List (List ℕ)) (r : ℕ) (list : List ℕ) → r < length lists → total_length (set lists r list) + length (get_or lists r []) ≡ total_length lists + length list
total-set [] r list low = absurd (omega arith)
total-set (l ∷ lists) zero list low = omega arith
total-set (l ∷ lists) (suc r) list low = omega (arith, total-set lists r list (omega arith))

pub total-without : (id : ℕ) (lists : List (List ℕ)) → total_length (map (without id) lists) + times_in_all id lists ≡ total_length lists
total-without id [] = refl
total-without id (l ∷ lists) = omega (arith, length-without id l, total-without id lists)

pub total-with_id : (id : ℕ) (vars : List ℕ) (lists : List (List ℕ)) → IsStrictlyIncreasing vars → All (λ v. (1 ≤ v) × (v ≤ length lists)) vars → total_length (with_id id vars 1 lists) ≡ total_length lists + length vars
total-with_id id vars lists increasing range =
    ap (λ (vs : List ℕ). total_length (with_id id vs 1 lists)) (sym (take_all (length vars) vars (omega arith))) ∙ upto (length vars) (omega arith)
  where
    upto : (k : ℕ) → k ≤ length vars → total_length (with_id id (take k vars) 1 lists) ≡ total_length lists + k
    upto zero fits = ap total_length (with_id-none id 1 lists) ∙ (omega arith)
    upto (suc k) fits =
        let next : suc k ≡ k + 1 = omega arith in
        let step : with_id id (take (suc k) vars) 1 lists ≡ set (with_id id (take k vars) 1 lists) (get_or vars k 0 - 1) (get_or (with_id id (take k vars) 1 lists) (get_or vars k 0 - 1) [] ++ id ∷ []) =
        ap (λ (n : ℕ). with_id id (take n vars) 1 lists) next
        ∙ ap (λ (vs : List ℕ). with_id id vs 1 lists) (take_more vars k 0 (omega arith))
        ∙ with_id-more id (take k vars) (get_or vars k 0) lists (range k 0 (omega arith)).0 (range k 0 (omega arith)).1 (new-in-increasing vars k increasing (omega arith)) in
        omega (arith, ap total_length step, total-set (with_id id (take k vars) 1 lists) (get_or vars k 0 - 1) (get_or (with_id id (take k vars) 1 lists) (get_or vars k 0 - 1) [] ++ id ∷ []) (omega (arith, length-with_id id (take k vars) 1 lists, (range k 0 (omega arith)).0, (range k 0 (omega arith)).1)), length-append (get_or (with_id id (take k vars) 1 lists) (get_or vars k 0 - 1) []) (id ∷ []), upto k (omega arith))

-- what is known of lists stays
pub occurrences-grown : (old : OccurrenceLists) (vars ids nodes : ℕ) → IsOccurrences old → (length old.lists + vars) + (total_length old.lists + old.room + nodes) < 2 ^ 31 → IsOccurrences (grown old vars ids nodes)
occurrences-grown old vars ids nodes h fits = record {
  once = λ v id. omega (arith, ap (times id) (cores-grown old vars ids nodes v), h.once v id);
  inside = λ v id occurs. let was = h.inside v id (subst (λ (l : List ℕ). Contains l id) (cores-grown old vars ids nodes v) occurs) in (was.0, omega (arith, was.1));
  small = omega (arith, fits, total-empties old.lists vars, length-append old.lists (replicate vars (let none : List ℕ = [] in none)), length-replicate vars (let none : List ℕ = [] in none));
}

pub occurrences-added : (old : OccurrenceLists) (id : ℕ) (vars : List ℕ) → IsOccurrences old → 1 ≤ id → id ≤ old.ids → IsStrictlyIncreasing vars → All (λ v. (1 ≤ v) × (v ≤ length old.lists)) vars → ((v : ℕ) → Contains vars v → ¬ Occurs old v id) → length vars ≤ old.room → IsOccurrences (added old id vars)
occurrences-added old id vars h low high increasing range fresh fits = record {
  once = λ v w. ⊎_elim (once_same v w) (λ ne. omega (arith, times-added old id vars v w, times-other w id [] (λ e. ne (sym e)), h.once v w)) (cases_eq w id);
  inside = λ v w occurs. ⊎_elim (λ (e : w ≡ id). let both : (1 ≤ w) × (w ≤ old.ids) = (omega arith, omega arith) in both) (λ ne. h.inside v w (contains-from_times (cores_at old v) w (omega (arith, times-from_contains (cores_at (added old id vars) v) w occurs, times-added old id vars v w, times-other w id [] (λ e. ne (sym e)))))) (cases_eq w id);
  small = omega (arith, h.small, total-with_id id vars old.lists increasing range, length-with_id id vars 1 old.lists, fits);
}
  where
    once_same : (v w : ℕ) → w ≡ id → times w (cores_at (added old id vars) v) ≤ 1
    once_same v w e = ⊎_elim there past (cases_lt (v - 1) (length old.lists))
      where
        there : v - 1 < length old.lists → times w (cores_at (added old id vars) v) ≤ 1
        there few = by (is_listed (1 + (v - 1)) vars) refl (with_id-at id vars 1 old.lists (v - 1) few)
          where
            by : (t : Bool) → is_listed (1 + (v - 1)) vars ≡ t → cores_at (added old id vars) v ≡ (if t then cores_at old v ++ id ∷ [] else cores_at old v) → times w (cores_at (added old id vars) v) ≤ 1
            by true listed is =
                let place : 1 + (v - 1) - 1 ≡ v - 1 = omega arith in
                let apart : ¬ Contains (cores_at old v) id = subst (λ (k : ℕ). ¬ Contains (get_or old.lists k []) id) place (fresh (1 + (v - 1)) (contains-from_listed vars (1 + (v - 1)) listed)) in
                let none : times w (cores_at old v) ≡ 0 = ap (λ (u : ℕ). times u (cores_at old v)) e ∙ times-none (cores_at old v) id apart in
                omega (arith, ap (times w) is, times-append w (cores_at old v) (id ∷ []), times-same w id [] (sym e), none)
            by false listed is = omega (arith, ap (times w) is, h.once v w)

        past : length old.lists ≤ v - 1 → times w (cores_at (added old id vars) v) ≤ 1
        past high = omega (arith, ap (times w) (get_or_past (with_id id vars 1 old.lists) (v - 1) [] (omega (arith, high, length-with_id id vars 1 old.lists))))

pub occurrences-removed : (old : OccurrenceLists) (id : ℕ) → IsOccurrences old → IsOccurrences (removed old id)
occurrences-removed old id h = record {
  once = λ v w. omega (arith, fewer v w, h.once v w);
  inside = λ v w occurs. h.inside v w (contains-from_times (cores_at old v) w (omega (arith, fewer v w, times-from_contains (cores_at (removed old id) v) w occurs)));
  small = omega (arith, h.small, total-without id old.lists, length-map old.lists (without id));
}
  where
    fewer : (v w : ℕ) → times w (cores_at (removed old id) v) ≤ times w (cores_at old v)
    fewer v w = by (w == id) (ap (times w) (cores-removed old id v) ∙ times-without id w (cores_at old v))
      where
        by : (t : Bool) → times w (cores_at (removed old id) v) ≡ (if t then 0 else times w (cores_at old v)) → times w (cores_at (removed old id) v) ≤ times w (cores_at old v)
        by true e = omega arith
        by false e = omega arith
