-- What occurrences keep where cores come and go.
use Rattle.std.proofs.Common.{◌≡◌, ℕ, zero, suc, ◌+◌, ◌-◌, ◌≤◌, ◌<◌, ◌^◌, List, [], ◌∷◌, ◌++◌, length, map, get_or, replicate, refl, ap, sym, ◌∙◌, subst, arith, ⊎_elim}
use Rattle.std.specs.List.{All, Contains}
use Rattle.std.specs.List.Sorted.{IsStrictlyIncreasing}
use Rattle.std.proofs.lemmas.Bool.{cases_lt, cases_eq}
use Rattle.std.proofs.lemmas.List.{length-map, map-append, get_or-map}
use Rattle.index_ring.specs.Lists.{RingLists, IsRings, times, times_in_all, without}
use Rattle.index_ring.specs.Lists as shapes
use Rattle.index_ring.specs.Laws.{total_length}
use Rattle.index_ring.proofs.Times.{times-same, times-other, all-append, all-empty, all-get, all-find}
use Rattle.core_occurrences.specs.declared.chains.Node.{Node}
use Rattle.core_occurrences.specs.Lists.{OccurrenceLists, IsOccurrences, Occurs, cores_at, with_id, grown, added, removed}
use Rattle.core_occurrences.specs.Chains.{owner_of, link_of, owners, Chain, AreChains, IsFreed}
use Rattle.core_occurrences.specs.Held.{ids_in, IsHeld}
use Rattle.core_occurrences.specs.Kept.{lists_of, IsKept}
use Rattle.core_occurrences.proofs.Chained.{one_same, chain-none, owners-none, first-in, first-owner}
use Rattle.core_occurrences.proofs.Linked.{one_unless, unless_free, unless_held, none-from}
use Rattle.core_occurrences.proofs.Occurring.{times-from_contains, contains-from_times, total-with_id, total-without, total-empties, occurrences-grown, occurrences-added, occurrences-removed}

-- occurrences are kept for these lists
pub record KeepsLists (rings : RingLists) (nodes : List Node) (heads : List ℕ) (room : ℕ) (lists : OccurrenceLists) : Type 0 where
  pub kept : IsKept rings nodes heads room
  pub shown : lists_of rings nodes heads room ≡ lists
  pub listed : IsOccurrences (lists_of rings nodes heads room)

module _ (rings : RingLists) (nodes : List Node) (heads : List ℕ) (room : ℕ) (lists : OccurrenceLists) (k : IsKept rings nodes heads room) (shown : lists_of rings nodes heads room ≡ lists) where
  lists-are : ids_in nodes rings ≡ lists.lists
  lists-are = ap (λ (l : OccurrenceLists). l.lists) shown

  room-is : room ≡ lists.room
  room-is = ap (λ (l : OccurrenceLists). l.room) shown

  pub known : IsOccurrences lists
  known = subst IsOccurrences shown k.listed

  pub kept-added : (id : ℕ) (vars : List ℕ) (rings1 : RingLists) (nodes1 : List Node) (heads1 : List ℕ) → 1 ≤ id → id ≤ lists.ids → IsStrictlyIncreasing vars → All (λ v. (1 ≤ v) × (v ≤ length lists.lists)) vars → ((v : ℕ) → Contains vars v → ¬ Occurs lists v id) → length vars ≤ lists.room → ids_in nodes1 rings1 ≡ with_id id vars 1 (ids_in nodes rings) → IsHeld nodes1 rings1 → times 0 (owners nodes1) + length vars ≡ times 0 (owners nodes) → AreChains nodes1 heads1 → length nodes1 ≡ length nodes → length heads1 ≡ length heads → KeepsLists rings1 nodes1 heads1 (room - length vars) (added lists id vars)
  kept-added id vars rings1 nodes1 heads1 low high increasing range fresh fits ids held free chains node_count head_count = record {
    kept = record {
      chains = chains;
      held = held;
      some_head = omega (arith, head_count, k.some_head);
      few_heads = omega (arith, head_count, k.few_heads);
      free = omega (arith, free, k.free);
      total = omega (arith, ap total_length ids, ap (λ (ls : List (List ℕ)). total_length (with_id id vars 1 ls)) lists-are, total-with_id id vars lists.lists increasing range, ap total_length lists-are, k.total, node_count, room-is, fits);
      listed = listed;
    };
    shown = same;
    listed = listed;
  }
    where
      same : lists_of rings1 nodes1 heads1 (room - length vars) ≡ added lists id vars
      same =
          let step : lists_of rings1 nodes1 heads1 (room - length vars) ≡ added (lists_of rings nodes heads room) id vars = λ i. record { lists = ids i; ids = head_count i - 1; room = room - length vars } in
          step ∙ ap (λ (l : OccurrenceLists). added l id vars) shown

      listed : IsOccurrences (lists_of rings1 nodes1 heads1 (room - length vars))
      listed = subst IsOccurrences (sym same) (occurrences-added lists id vars known low high increasing range fresh fits)

  pub kept-removed : (id gone : ℕ) (rings1 : RingLists) (nodes1 : List Node) (heads1 : List ℕ) → ids_in nodes1 rings1 ≡ map (without id) (ids_in nodes rings) → IsHeld nodes1 rings1 → gone ≡ times_in_all id (ids_in nodes rings) → times 0 (owners nodes1) ≡ times 0 (owners nodes) + gone → AreChains nodes1 heads1 → length nodes1 ≡ length nodes → length heads1 ≡ length heads → KeepsLists rings1 nodes1 heads1 (room + gone) (removed lists id)
  kept-removed id gone rings1 nodes1 heads1 ids held count free chains node_count head_count = record {
    kept = record {
      chains = chains;
      held = held;
      some_head = omega (arith, head_count, k.some_head);
      few_heads = omega (arith, head_count, k.few_heads);
      free = omega (arith, free, k.free);
      total = omega (arith, ap total_length ids, total-without id (ids_in nodes rings), k.total, node_count, count);
      listed = listed;
    };
    shown = same;
    listed = listed;
  }
    where
      same : lists_of rings1 nodes1 heads1 (room + gone) ≡ removed lists id
      same =
          let step : lists_of rings1 nodes1 heads1 (room + gone) ≡ removed (lists_of rings nodes heads room) id = λ i. record { lists = ids i; ids = head_count i - 1; room = room + count i } in
          step ∙ ap (λ (l : OccurrenceLists). removed l id) shown

      listed : IsOccurrences (lists_of rings1 nodes1 heads1 (room + gone))
      listed = subst IsOccurrences (sym same) (occurrences-removed lists id known)

  -- the room of a sum fits
  pub room-fits : (id : ℕ) → room + times_in_all id (ids_in nodes rings) < 2 ^ 31
  room-fits id = omega (arith, k.total, total-without id (ids_in nodes rings), k.chains.small)

  -- a core without a head has no occurrence
  pub absent-from : (id : ℕ) → id ≤ lists.ids → get_or heads id 0 ≡ 0 → (v : ℕ) → ¬ Occurs lists v id
  absent-from id high e v occurs =
      let low : id < length heads = omega (arith, ap (λ (l : OccurrenceLists). l.ids) shown, k.some_head) in
      let empty : k.chains.own id ≡ [] = chain-none (link_of nodes) (k.chains.own id) (subst (λ (l : ℕ). Chain (link_of nodes) l (k.chains.own id)) e (k.chains.linked id low)) in
      let none : times id (owners nodes) ≡ 0 = owners-none nodes id (λ w w_in f. omega (arith, k.chains.once id w low w_in, one_same (owner_of nodes w) id f, ap (times w) empty)) in
      let nowhere : times_in_all id (ids_in nodes rings) ≡ 0 = (none-from nodes nodes rings id k.held (record { none = none; same = refl })).none in
      omega (arith, times-from_contains (cores_at lists v) id occurs, ap (λ (l : List (List ℕ)). times id (get_or l (v - 1) [])) lists-are, all-get id (ids_in nodes rings) (v - 1), nowhere)

  -- and one with a head has one
  pub present-from : (id : ℕ) → 1 ≤ id → id ≤ lists.ids → (get_or heads id 0 ≡ 0 → ⊥) → ((v : ℕ) → ¬ Occurs lists v id) → ⊥
  present-from id first high some absent =
      let low : id < length heads = omega (arith, ap (λ (l : OccurrenceLists). l.ids) shown, k.some_head) in
      let w_in : get_or heads id 0 - 1 < length nodes = first-in (owner_of nodes) (link_of nodes) (λ i. get_or heads i 0) (length nodes) (length heads) k.chains id 0 low k.some_head (λ f. omega arith) some in
      let is : owner_of nodes (get_or heads id 0 - 1) ≡ id = first-owner (owner_of nodes) (link_of nodes) (λ i. get_or heads i 0) (length nodes) (length heads) k.chains id 0 low k.some_head (λ f. omega arith) some in
      let found = all-find (get_or heads id 0 - 1) rings.lists (omega (arith, k.held.owned (get_or heads id 0 - 1) w_in, unless_held (owner_of nodes (get_or heads id 0 - 1)) (λ f. omega arith))) in
      let here : 1 ≤ times id (map (owner_of nodes) (get_or rings.lists found.0 [])) = times-map (owner_of nodes) (get_or heads id 0 - 1) id (get_or rings.lists found.0 []) is found.2 in
      let same : map (owner_of nodes) (get_or rings.lists found.0 []) ≡ get_or lists.lists found.0 [] = sym (get_or-map (map (owner_of nodes)) rings.lists found.0 [] [] found.1) ∙ ap (λ (l : List (List ℕ)). get_or l found.0 []) lists-are in
      let place : found.0 + 1 - 1 ≡ found.0 = omega arith in
      absent (found.0 + 1) (contains-from_times (cores_at lists (found.0 + 1)) id (omega (arith, here, ap (times id) same, ap (λ (j : ℕ). times id (get_or lists.lists j [])) place)))
    where
      times-map : (f : ℕ → ℕ) (v i : ℕ) (list : List ℕ) → f v ≡ i → 1 ≤ times v list → 1 ≤ times i (map f list)
      times-map f v i [] e some = some
      times-map f v i (u ∷ list) e some = ⊎_elim (λ (g : u ≡ v). omega (arith, times-same i (f u) (map f list) (ap f g ∙ e))) (λ ne. omega (arith, times-map f v i list e (omega (arith, some, times-other v u list ne)))) (cases_eq u v)

  pub kept-grown : (vars ids more : ℕ) (rings1 : RingLists) (nodes1 : List Node) (heads1 : List ℕ) → (length rings.lists + vars) + (rings.nodes + more) < 2 ^ 31 → length heads + ids ≤ 2 ^ 32 → rings1 ≡ shapes.grown rings vars more → IsRings rings1 → IsFreed nodes nodes1 more → AreChains nodes1 heads1 → length heads1 ≡ length heads + ids → KeepsLists rings1 nodes1 heads1 (room + more) (grown lists vars ids more)
  kept-grown vars ids more rings1 nodes1 heads1 fits few grows stand freed chains head_count = record {
    kept = record {
      chains = chains;
      held = held;
      some_head = omega (arith, head_count, k.some_head);
      few_heads = omega (arith, head_count, few);
      free = omega (arith, freed.free, k.free);
      total = omega (arith, ap total_length ids_are, total-empties (ids_in nodes rings) vars, k.total, freed.count);
      listed = listed;
    };
    shown = same;
    listed = listed;
  }
    where
      none : List ℕ
      none = []

      owners-same : (ls : List (List ℕ)) → map (map (owner_of nodes1)) ls ≡ map (map (owner_of nodes)) ls
      owners-same ls = ap (λ (f : ℕ → ℕ). map (map f) ls) (λ i v. freed.owner v i)

      empties : (f : ℕ → ℕ) (n : ℕ) → map (map f) (replicate n []) ≡ replicate n []
      empties f zero = refl
      empties f (suc n) = ap (λ (ls : List (List ℕ)). [] ∷ ls) (empties f n)

      ids_are : ids_in nodes1 rings1 ≡ ids_in nodes rings ++ replicate vars []
      ids_are =
          ap (ids_in nodes1) grows
          ∙ owners-same (rings.lists ++ replicate vars [])
          ∙ map-append (map (owner_of nodes)) rings.lists (replicate vars [])
          ∙ ap (λ (ls : List (List ℕ)). ids_in nodes rings ++ ls) (empties (owner_of nodes) vars)

      held : IsHeld nodes1 rings1
      held = record {
        stand = stand;
        count = ap (λ (r : RingLists). r.nodes) grows ∙ (omega (arith, k.held.count, freed.count));
        owned = λ v low. ap (λ (r : RingLists). times_in_all v r.lists) grows ∙ all-append v rings.lists (replicate vars []) ∙ (omega (arith, all-empty v vars, ⊎_elim (old v) (new v) (cases_lt v (length nodes))));
      }
        where
          old : (v : ℕ) → v < length nodes → times_in_all v rings.lists ≡ one_unless (owner_of nodes1 v)
          old v inside = k.held.owned v inside ∙ ap one_unless (sym (freed.owner v))

          new : (v : ℕ) → length nodes ≤ v → times_in_all v rings.lists ≡ one_unless (owner_of nodes1 v)
          new v past =
              k.held.stand.inside v (omega (arith, past, k.held.count))
              ∙ sym (unless_free (owner_of nodes1 v) (freed.owner v ∙ owner-past nodes v past))
            where
              owner-past : (ns : List Node) (v : ℕ) → length ns ≤ v → owner_of ns v ≡ 0
              owner-past [] v past = refl
              owner-past (n ∷ ns) zero past = absurd (omega arith)
              owner-past (n ∷ ns) (suc v) past = owner-past ns v (omega arith)

      same : lists_of rings1 nodes1 heads1 (room + more) ≡ grown lists vars ids more
      same =
          let heads_are : length heads1 - 1 ≡ (length heads - 1) + ids = omega (arith, head_count, k.some_head) in
          let step : lists_of rings1 nodes1 heads1 (room + more) ≡ grown (lists_of rings nodes heads room) vars ids more = λ i. record { lists = ids_are i; ids = heads_are i; room = room + more } in
          step ∙ ap (λ (l : OccurrenceLists). grown l vars ids more) shown

      listed : IsOccurrences (lists_of rings1 nodes1 heads1 (room + more))
      listed =
          subst IsOccurrences (sym same)
          (occurrences-grown lists vars ids more known (omega (arith, fits, k.total, k.held.count, ap total_length lists-are, room-is, ap length lists-are, length-map rings.lists (map (owner_of nodes)))))

-- the free owner alone, without a node
abbrev pub free_head : List ℕ
free_head = 0 ∷ []

-- no variable, no core and no room yet
pub kept-none : (rings : RingLists) (nodes : List Node) (heads : List ℕ) → nodes ≡ [] → heads ≡ free_head → rings ≡ shapes.no_lists 0 0 → IsRings rings → IsKept rings nodes heads 0
kept-none rings nodes heads e f g stand =
    subst (λ (ns : List Node). IsKept rings ns heads 0) (sym e)
    (subst (λ (hs : List ℕ). IsKept rings [] hs 0) (sym f)
    (subst (λ (rs : RingLists). IsKept rs [] free_head 0) (sym g) (empty (subst IsRings g stand))))
  where
    empty : IsRings (shapes.no_lists 0 0) → IsKept (shapes.no_lists 0 0) [] free_head 0
    empty h = record {
      chains = record {
        own = λ i. [];
        linked = linked;
        once = λ i v i_in v_in. absurd (omega arith);
        inside = λ i v i_in past. refl;
        known = λ v v_in. absurd (omega arith);
        small = omega arith;
      };
      held = record { stand = h; count = refl; owned = λ v v_in. absurd (omega arith) };
      some_head = omega arith;
      few_heads = omega arith;
      free = refl;
      total = refl;
      listed = record { once = λ v id. omega arith; inside = λ v id occurs. absurd (omega (arith, occurs.1)); small = omega arith };
    }
      where
        linked : (i : ℕ) → i < 1 → get_or free_head i 0 ≡ 0
        linked zero low = refl
        linked (suc i) low = absurd (omega arith)
