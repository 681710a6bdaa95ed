-- The laws of the lists of ids.
use Rattle.std.proofs.Common.{◌≡◌, ℕ, suc, ◌+◌, ◌-◌, ◌≤◌, ◌<◌, Bool, true, false, List, [], ◌∷◌, ◌++◌, length, get_or, refl, ap, sym, ◌∙◌, arith, ⊎_elim, inl, inr}
use Rattle.std.specs.Prelude.{if◌then◌else◌, ◌==◌, ◌⊎◌, ◌≢◌}
use Rattle.std.specs.List.{Contains}
use Rattle.std.proofs.lemmas.Bool.{cases_lt, cases_eq, cases_Bool, eq-eqb, ne_eqb, cond-true, cond-false, true≢false}
use Rattle.std.proofs.lemmas.List.{get_or_past}
use Rattle.std.proofs.lemmas.List.Folds.{list_any_at}
use Rattle.index_ring.specs.Lists.{times, times_in_all}
use Rattle.index_ring.proofs.Times.{times-same, times-other, times-append, times-without}
use Rattle.core_occurrences.specs.Lists.{Occurs, cores_at, with_id, no_occurrences, added, removed}
use Rattle.core_occurrences.specs.Laws.{AddedBehind, AddedElsewhere, AddedOccurs, RemovedWithout, RemovedOccurs, GrownStays, NothingOccurs, RoomIsHolders, AddedTotal, RemovedTotal, GrownTotal, holders}
use Rattle.core_occurrences.proofs.Listed.{is_listed, length-with_id}
use Rattle.core_occurrences.proofs.Occurring.{times-from_contains, contains-from_listed, contains-from_times, times-none, cores-added, cores-removed, cores-grown, get_or-empties, total-with_id, total-without, total-empties}

-- a test finds what a list contains
listed-from_contains : (vars : List ℕ) (v : ℕ) → Contains vars v → is_listed v vars ≡ true
listed-from_contains vars v h = list_any_at (λ w. w == v) vars h.0 v h.1 (eq-eqb (get_or vars h.0 v) v h.2)

not-listed : (vars : List ℕ) (v : ℕ) → ¬ Contains vars v → is_listed v vars ≡ false
not-listed vars v none = ⊎_elim (λ (e : is_listed v vars ≡ true). absurd (none (contains-from_listed vars v e))) (λ e. e) (cases_Bool (is_listed v vars))

pub added_behind : AddedBehind
added_behind old id vars v low high here = cores-added old id vars v low high ∙ cond-true (is_listed v vars) _ _ (listed-from_contains vars v here)

pub added_elsewhere : AddedElsewhere
added_elsewhere old id vars v low none = ⊎_elim inside past (cases_lt (v - 1) (length old.lists))
  where
    inside : v - 1 < length old.lists → cores_at (added old id vars) v ≡ cores_at old v
    inside few = cores-added old id vars v low (omega arith) ∙ cond-false (is_listed v vars) _ _ (not-listed vars v none)

    past : length old.lists ≤ v - 1 → cores_at (added old id vars) v ≡ cores_at old v
    past many =
        get_or_past (with_id id vars 1 old.lists) (v - 1) [] (omega (arith, many, length-with_id id vars 1 old.lists))
        ∙ sym (get_or_past old.lists (v - 1) [] many)

pub added_occurs : AddedOccurs
added_occurs old id vars v w low high = (forth, back)
  where
    forth : Occurs (added old id vars) v w → Occurs old v w ⊎ ((w ≡ id) × Contains vars v)
    forth occurs = ⊎_elim listed unlisted (cases_Bool (is_listed v vars))
      where
        some : 1 ≤ times w (cores_at (added old id vars) v)
        some = times-from_contains (cores_at (added old id vars) v) w occurs

        listed : is_listed v vars ≡ true → Occurs old v w ⊎ ((w ≡ id) × Contains vars v)
        listed t =
            let here : Contains vars v = contains-from_listed vars v t in
            ⊎_elim (λ (e : w ≡ id). inr (e, here)) (λ ne. inl (contains-from_times (cores_at old v) w (omega (arith, some, ap (times w) (added_behind old id vars v low high here), times-append w (cores_at old v) (id ∷ []), times-other w id [] (λ e. ne (sym e)))))) (cases_eq w id)

        unlisted : is_listed v vars ≡ false → Occurs old v w ⊎ ((w ≡ id) × Contains vars v)
        unlisted t =
            inl (contains-from_times (cores_at old v) w (omega (arith, some, ap (times w) (cores-added old id vars v low high ∙ cond-false (is_listed v vars) _ _ t))))

    back : Occurs old v w ⊎ ((w ≡ id) × Contains vars v) → Occurs (added old id vars) v w
    back h = contains-from_times (cores_at (added old id vars) v) w (⊎_elim stays comes h)
      where
        stays : Occurs old v w → 1 ≤ times w (cores_at (added old id vars) v)
        stays occurs = by (is_listed v vars) (cores-added old id vars v low high) (times-from_contains (cores_at old v) w occurs)
          where
            by : (t : Bool) → cores_at (added old id vars) v ≡ (if t then cores_at old v ++ id ∷ [] else cores_at old v) → 1 ≤ times w (cores_at old v) → 1 ≤ times w (cores_at (added old id vars) v)
            by true e some = omega (arith, ap (times w) e, times-append w (cores_at old v) (id ∷ []), some)
            by false e some = omega (arith, ap (times w) e, some)

        comes : (w ≡ id) × Contains vars v → 1 ≤ times w (cores_at (added old id vars) v)
        comes h =
            omega (arith, ap (times w) (added_behind old id vars v low high h.1), times-append w (cores_at old v) (id ∷ []), times-same w id [] (sym h.0))

pub removed_without : RemovedWithout
removed_without = cores-removed

pub removed_occurs : RemovedOccurs
removed_occurs old id v w = (forth, back)
  where
    counted : times w (cores_at (removed old id) v) ≡ (if w == id then 0 else times w (cores_at old v))
    counted = ap (times w) (cores-removed old id v) ∙ times-without id w (cores_at old v)

    forth : Occurs (removed old id) v w → Occurs old v w × (w ≢ id)
    forth occurs =
        let some : 1 ≤ times w (cores_at (removed old id) v) = times-from_contains (cores_at (removed old id) v) w occurs in
        let apart : w ≢ id = λ e. omega (arith, some, counted, cond-true (w == id) 0 (times w (cores_at old v)) (eq-eqb w id e)) in (
          contains-from_times (cores_at old v) w (omega (arith, some, counted, cond-false (w == id) 0 (times w (cores_at old v)) (ne_eqb w id apart))),
          apart,
        )

    back : Occurs old v w × (w ≢ id) → Occurs (removed old id) v w
    back h =
        contains-from_times (cores_at (removed old id) v) w (omega (arith, counted, cond-false (w == id) 0 (times w (cores_at old v)) (ne_eqb w id h.1), times-from_contains (cores_at old v) w h.0))

pub grown_stays : GrownStays
grown_stays = cores-grown

pub nothing_occurs : NothingOccurs
nothing_occurs vars v w occurs =
    omega (arith, times-from_contains (cores_at (no_occurrences vars) v) w occurs, ap (times w) (get_or-empties [] vars (v - 1) ∙ get_or_past [] (v - 1) [] (omega arith)))

pub room_is_holders : RoomIsHolders
room_is_holders old id h = counted old.lists (λ k. once k)
  where
    once : (k : ℕ) → times id (get_or old.lists k []) ≤ 1
    once k = let e : k + 1 - 1 ≡ k = omega arith in omega (arith, h.once (k + 1) id, ap (λ (j : ℕ). times id (get_or old.lists j [])) e)

    counted : (lists : List (List ℕ)) → ((k : ℕ) → times id (get_or lists k []) ≤ 1) → times_in_all id lists ≡ holders id lists
    counted [] once = refl
    counted (list ∷ lists) once = by (is_listed id list) refl (once 0) (counted lists (λ k. once (suc k)))
      where
        by : (t : Bool) → is_listed id list ≡ t → times id list ≤ 1 → times_in_all id lists ≡ holders id lists → times id list + times_in_all id lists ≡ (if is_listed id list then 1 else 0) + holders id lists
        by true e few rest =
            omega (arith, rest, few, times-from_contains list id (contains-from_listed list id e), cond-true {A = ℕ} (is_listed id list) 1 0 e)
        by false e few rest =
            let none : times id list ≡ 0 = times-none list id (λ here. true≢false (sym (listed-from_contains list id here) ∙ e)) in
            omega (arith, rest, none, cond-false {A = ℕ} (is_listed id list) 1 0 e)

pub added_total : AddedTotal
added_total old id vars increasing range = total-with_id id vars old.lists increasing range

pub removed_total : RemovedTotal
removed_total old id = total-without id old.lists

pub grown_total : GrownTotal
grown_total old vars ids nodes = total-empties old.lists vars
