-- A queue of ids as the lists of two rings.
use Rattle.std.proofs.Common.{◌≡◌, ℕ, zero, suc, ◌+◌, ◌≤◌, ◌<◌, inl, inr, List, [], ◌∷◌, ◌++◌, length, get_or, refl, sym, ap, ◌∙◌, arith, ⊎_elim}
use Rattle.std.specs.Prelude.{map}
use Rattle.std.proofs.lemmas.Bool.{cases_lt, cases_eq}
use Rattle.index_ring.specs.Lists.{RingLists, times, times_in_all, without, pushed_back}
use Rattle.index_ring.proofs.Times.{total_length-le, times-append, times-same, times-other, without-append}
use Rattle.fixpoint_queue.specs.IdQueue.{Ids, IsIds, IsPut, AreQueueRings, ids_of}

-- of two lists all that stands, stands in them
pub both : (v : ℕ) (lists : List (List ℕ)) → length lists ≡ 2 → times_in_all v lists ≡ times v (get_or lists 0 [] ++ get_or lists 1 [])
both v [] two = absurd (omega (arith, two))
both v (l ∷ []) two = absurd (omega (arith, two))
both v (l ∷ m ∷ []) two = omega (arith, times-append v l m)
both v (l ∷ m ∷ n ∷ lists) two = absurd (omega (arith, two))

pub ids-of : (rings : RingLists) → AreQueueRings rings → IsIds (ids_of rings)
ids-of rings is = record {
  once = λ v. omega (arith, is.rings.once v, both v rings.lists is.two);
  placed = λ v h. ⊎_elim (λ lt. lt) (λ le. absurd (omega (arith, is.rings.inside v le, both v rings.lists is.two, h))) (cases_lt v rings.nodes);
  small = omega (arith, is.rings.small);
}

-- one id more, wherever it comes
put-counted : (old new : List ℕ) (places id : ℕ) → ((v : ℕ) → times v new ≡ times v old + times v (id ∷ []))
    → IsPut (record { queued = old; places = places }) id (record { queued = new; places = places })
put-counted old new places id counted = record {
  places = refl;
  has = omega (arith, counted id, times-same id id [] refl);
  stays = λ v h. omega (arith, counted v, h);
  only = λ v h. ⊎_elim (λ (e : id ≡ v). inr (sym e)) (λ (n : id ≡ v → ⊥). inl (omega (arith, h, counted v, times-other v id [] n))) (cases_eq id v);
}

-- an id that comes into one of the rings
pub put-pushed : (nodes : ℕ) (lists : List (List ℕ)) (r id : ℕ) → length lists ≡ 2 → r < 2
    → IsPut (ids_of (record { lists = lists; nodes = nodes })) id (ids_of (pushed_back (record { lists = lists; nodes = nodes }) r id))
put-pushed nodes [] r id two low = absurd (omega (arith, two))
put-pushed nodes (l ∷ []) r id two low = absurd (omega (arith, two))
put-pushed nodes (l ∷ m ∷ []) zero id two low =
    put-counted (l ++ m) ((l ++ id ∷ []) ++ m) nodes id
    (λ v. omega (arith, times-append v l m, times-append v (l ++ id ∷ []) m, times-append v l (id ∷ [])))
put-pushed nodes (l ∷ m ∷ []) (suc zero) id two low =
    put-counted (l ++ m) (l ++ (m ++ id ∷ [])) nodes id
    (λ v. omega (arith, times-append v l m, times-append v l (m ++ id ∷ []), times-append v m (id ∷ [])))
put-pushed nodes (l ∷ m ∷ []) (suc (suc r)) id two low = absurd (omega (arith, low))
put-pushed nodes (l ∷ m ∷ n ∷ lists) r id two low = absurd (omega (arith, two))

-- in both rings an id is as often as in the queue
pub in-queue : (rings : RingLists) (ids : Ids) (id : ℕ) → AreQueueRings rings → ids_of rings ≡ ids → times_in_all id rings.lists ≡ times id ids.queued
in-queue rings ids id is same = both id rings.lists is.two ∙ ap (λ (q : Ids). times id q.queued) same

-- an id that goes
pub queued-without : (lists : List (List ℕ)) (id : ℕ) → length lists ≡ 2
    → get_or (map (without id) lists) 0 [] ++ get_or (map (without id) lists) 1 [] ≡ without id (get_or lists 0 [] ++ get_or lists 1 [])
queued-without [] id two = absurd (omega (arith, two))
queued-without (l ∷ []) id two = absurd (omega (arith, two))
queued-without (l ∷ m ∷ []) id two = sym (without-append id l m)
queued-without (l ∷ m ∷ n ∷ lists) id two = absurd (omega (arith, two))

-- so they are no more than the places
pub ids-few : (ids : Ids) → IsIds ids → length ids.queued ≤ ids.places
ids-few ids is =
    omega (arith, total_length-le ids.places (ids.queued ∷ []) (λ v. omega (arith, is.once v)) (λ v high. none v high))
  where
    none : (v : ℕ) → ids.places ≤ v → times_in_all v (ids.queued ∷ []) ≡ 0
    none v high = ⊎_elim (λ (h : times v ids.queued < 1). omega (arith, h)) (λ (h : 1 ≤ times v ids.queued). absurd (omega (arith, is.placed v h, high))) (cases_lt (times v ids.queued) 1)
