-- What each move makes of links that are those of lists.
use Rattle.std.proofs.Common.{◌≡◌, ℕ, ◌+◌, ◌≤◌, ◌<◌, ◌^◌, List, [], ◌∷◌, ◌++◌, map, length, set, refl, ap, sym, ◌∙◌, subst, arith, ⊎_elim}
use Rattle.std.specs.Prelude.{◌==◌}
use Rattle.std.proofs.lemmas.Bool.{cases_lt, cases_eq, eq-eqb, ne_eqb, cond-true, cond-false}
use Rattle.std.proofs.lemmas.List.{length-set, length-map, get_or-map}
use Rattle.index_ring.specs.Lists.{RingLists, IsRings, IsFree, list_of, times, times_in_all, without, with_list, pushed_back, pushed_front, unlinked}
use Rattle.index_ring.specs.Links.{sentinel, Chain, IsLinked}
use Rattle.index_ring.proofs.Times.{times-same, times-other, times-append, all-set, all-get, all-two, all-without, without-none, without-cut, get-set}
use Rattle.index_ring.proofs.Chains.{Joins, chain-append, chain-front, chain-back, last-stands, first-stands, next-there, previous-there, next-elsewhere, chain-kept, chain-from, chain-to, chain-past}

-- the places of a ring: its sentinel, then its nodes
abbrev pub places : RingLists → ℕ → List ℕ
places rings r = sentinel r ∷ list_of rings r

-- a place stands once at most among those of a ring
pub place-once : (rings : RingLists) (r q : ℕ) → IsRings rings → times q (places rings r) ≤ 1
place-once rings r q h = ⊎_elim same other (cases_eq (sentinel r) q)
  where
    same : sentinel r ≡ q → times q (places rings r) ≤ 1
    same e = omega (arith, times-same q (sentinel r) (list_of rings r) e, all-get q rings.lists r, h.inside q (omega (arith, h.small)))

    other : (sentinel r ≡ q → ⊥) → times q (places rings r) ≤ 1
    other ne = omega (arith, times-other q (sentinel r) (list_of rings r) ne, all-get q rings.lists r, h.once q)

-- no place belongs to two rings
pub places-apart : (rings : RingLists) (r s q : ℕ) → IsRings rings → (r ≡ s → ⊥) → times q (places rings r) + times q (places rings s) ≤ 1
places-apart rings r s q h ne = ⊎_elim node beyond (cases_lt q (2 ^ 31))
  where
    node : q < 2 ^ 31 → times q (places rings r) + times q (places rings s) ≤ 1
    node low =
        omega (arith, times-other q (sentinel r) (list_of rings r) (λ e. omega arith), times-other q (sentinel s) (list_of rings s) (λ e. omega arith), all-two q rings.lists r s ne, h.once q)

    beyond : 2 ^ 31 ≤ q → times q (places rings r) + times q (places rings s) ≤ 1
    beyond high = ⊎_elim first second (cases_eq (sentinel r) q)
      where
        none : times_in_all q rings.lists ≡ 0
        none = h.inside q (omega (arith, h.small))

        first : sentinel r ≡ q → times q (places rings r) + times q (places rings s) ≤ 1
        first e =
            omega (arith, times-same q (sentinel r) (list_of rings r) e, times-other q (sentinel s) (list_of rings s) (λ f. ne (omega arith)), all-get q rings.lists r, all-get q rings.lists s, none)

        second : (sentinel r ≡ q → ⊥) → times q (places rings r) + times q (places rings s) ≤ 1
        second f =
            omega (arith, times-other q (sentinel r) (list_of rings r) f, place-once rings s q h, all-get q rings.lists r, none)

-- a free node is no place of a ring
pub free-apart : (rings : RingLists) (r v : ℕ) → IsRings rings → v < rings.nodes → IsFree rings v → times v (places rings r) ≡ 0
free-apart rings r v h low free =
    omega (arith, times-other v (sentinel r) (list_of rings r) (λ e. omega (arith, h.small)), all-get v rings.lists r, free)

-- the places beside a ring's sentinel belong to the ring
module _ (n p : ℕ → ℕ) (rings : RingLists) (h : IsLinked n p rings) (r : ℕ) (inside : r < length rings.lists) where
  pub last-place : 1 ≤ times (p (sentinel r)) (places rings r)
  last-place = last-stands n p (sentinel r) (list_of rings r) (sentinel r) (h.linked r inside)

  pub first-place : 1 ≤ times (n (sentinel r)) (places rings r)
  first-place = first-stands n p (sentinel r) (list_of rings r) (sentinel r) (h.linked r inside)

-- a node more in one list
IsRings-pushed : (rings : RingLists) (r v : ℕ) (list : List ℕ) → IsRings rings → r < length rings.lists → v < rings.nodes → IsFree rings v → ((q : ℕ) → times q list ≡ times q (list_of rings r) + times q (v ∷ [])) → IsRings (with_list rings r list)
IsRings-pushed rings r v list h inside low free more = record {
  small = omega (arith, h.small, length-set rings.lists r list);
  once = λ q. ⊎_elim (λ (e : v ≡ q). same q e) (other q) (cases_eq v q);
  inside = λ q high. omega (arith, all q, times-other q v [] (λ e. omega arith), h.inside q high);
}
  where
    all : (q : ℕ) → times_in_all q (set rings.lists r list) ≡ times_in_all q rings.lists + times q (v ∷ [])
    all q = omega (arith, all-set q rings.lists r list inside, more q)

    same : (q : ℕ) → v ≡ q → times_in_all q (set rings.lists r list) ≤ 1
    same q e = omega (arith, all q, times-same q v [] e, subst (IsFree rings) e free)

    other : (q : ℕ) → (v ≡ q → ⊥) → times_in_all q (set rings.lists r list) ≤ 1
    other q ne = omega (arith, all q, times-other q v [] ne, h.once q)

-- the chains of all rings where one has a new list
with_list-linked : (n p : ℕ → ℕ) (rings : RingLists) (r : ℕ) (list : List ℕ) → r < length rings.lists → Chain n p (sentinel r) list (sentinel r) → ((q : ℕ) → q < length rings.lists → (q ≡ r → ⊥) → Chain n p (sentinel q) (list_of rings q) (sentinel q)) → (q : ℕ) → q < length (with_list rings r list).lists → Chain n p (sentinel q) (list_of (with_list rings r list) q) (sentinel q)
with_list-linked n p rings r list inside here others q h = ⊎_elim same other (cases_eq q r)
  where
    same : q ≡ r → Chain n p (sentinel q) (list_of (with_list rings r list) q) (sentinel q)
    same e =
        subst (λ (l : List ℕ). Chain n p (sentinel q) l (sentinel q)) (sym (get-set rings.lists r q list inside ∙ cond-true (q == r) list (list_of rings q) (eq-eqb q r e)))
        (subst (λ (k : ℕ). Chain n p (sentinel k) list (sentinel k)) (sym e) here)

    other : (q ≡ r → ⊥) → Chain n p (sentinel q) (list_of (with_list rings r list) q) (sentinel q)
    other ne =
        subst (λ (l : List ℕ). Chain n p (sentinel q) l (sentinel q)) (sym (get-set rings.lists r q list inside ∙ cond-false (q == r) list (list_of rings q) (ne_eqb q r ne)))
        (others q (omega (arith, length-set rings.lists r list)) ne)

-- a free node becomes the last of a ring
module _ (n p n1 p1 n2 p2 : ℕ → ℕ) (rings : RingLists) (h : IsLinked n p rings) (r v : ℕ) (inside : r < length rings.lists) (low : v < rings.nodes) (free : IsFree rings v) where
  -- the node that a list has got more is not free
  still-free : (list : List ℕ) (w : ℕ) → ((q : ℕ) → times q list ≡ times q (list_of rings r) + times q (v ∷ [])) → IsFree (with_list rings r list) w → IsFree rings w × (w ≡ v → ⊥)
  still-free list w more none =
      let all : times_in_all w (set rings.lists r list) ≡ times_in_all w rings.lists + times w (v ∷ []) = omega (arith, all-set w rings.lists r list inside, more w) in
      (omega arith, λ e. omega (arith, times-same w v [] (sym e)))

  pub linked-pushed_back : Joins n p n1 p1 (p (sentinel r)) v → Joins n1 p1 n2 p2 v (sentinel r) → IsLinked n2 p2 (pushed_back rings r v)
  linked-pushed_back first second = record {
    stand = IsRings-pushed rings r v list h.stand inside low free more;
    linked = with_list-linked n2 p2 rings r list inside here others;
    free = λ w small none. let was = still-free list w more none in next-elsewhere n1 p1 n2 p2 v (sentinel r) second w was.1
        ∙ next-elsewhere n p n1 p1 (p (sentinel r)) v first w (λ e. apart w small was.0 e)
        ∙ h.free w small was.0;
  }
    where
      list : List ℕ
      list = list_of rings r ++ v ∷ []

      more : (q : ℕ) → times q list ≡ times q (list_of rings r) + times q (v ∷ [])
      more q = times-append q (list_of rings r) (v ∷ [])

      apart : (w : ℕ) → w < rings.nodes → IsFree rings w → w ≡ p (sentinel r) → ⊥
      apart w small none e =
          omega (arith, free-apart rings r w h.stand small none, subst (λ (q : ℕ). 1 ≤ times q (places rings r)) (sym e) (last-place n p rings h r inside))

      no_v : (q : ℕ) → times v (places rings q) ≡ 0
      no_v q = free-apart rings q v h.stand low free

      to_v : Chain n1 p1 (sentinel r) (list_of rings r) v
      to_v = chain-to n p n1 p1 (p (sentinel r)) v first (sentinel r) (list_of rings r) (sentinel r) refl (place-once rings r (p (sentinel r)) h.stand) (omega (arith, no_v r)) (h.linked r inside)

      here : Chain n2 p2 (sentinel r) list (sentinel r)
      here = chain-append n2 p2 (sentinel r) (list_of rings r) v [] (sentinel r)
          (chain-kept n1 p1 n2 p2 v (sentinel r) second (sentinel r) (list_of rings r) v (no_v r) (omega (arith, place-once rings r (sentinel r) h.stand, times-same (sentinel r) (sentinel r) (list_of rings r) refl, times-other (sentinel r) v (list_of rings r) (λ e. omega (arith, h.stand.small)))) to_v)
          (next-there n1 p1 n2 p2 v (sentinel r) second, previous-there n1 p1 n2 p2 v (sentinel r) second)

      others : (q : ℕ) → q < length rings.lists → (q ≡ r → ⊥) → Chain n2 p2 (sentinel q) (list_of rings q) (sentinel q)
      others q small ne =
          chain-kept n1 p1 n2 p2 v (sentinel r) second (sentinel q) (list_of rings q) (sentinel q) (no_v q) (omega (arith, places-apart rings q r (sentinel r) h.stand ne, times-same (sentinel r) (sentinel r) (list_of rings r) refl))
          (chain-kept n p n1 p1 (p (sentinel r)) v first (sentinel q) (list_of rings q) (sentinel q) (omega (arith, places-apart rings q r (p (sentinel r)) h.stand ne, last-place n p rings h r inside)) (no_v q) (h.linked q small))

  -- a free node becomes the first of a ring
  pub linked-pushed_front : Joins n p n1 p1 v (n (sentinel r)) → Joins n1 p1 n2 p2 (sentinel r) v → IsLinked n2 p2 (pushed_front rings r v)
  linked-pushed_front first second = record {
    stand = IsRings-pushed rings r v list h.stand inside low free more;
    linked = with_list-linked n2 p2 rings r list inside here others;
    free = λ w small none. let was = still-free list w more none in next-elsewhere n1 p1 n2 p2 (sentinel r) v second w (λ e. omega (arith, h.stand.small))
        ∙ next-elsewhere n p n1 p1 v (n (sentinel r)) first w was.1
        ∙ h.free w small was.0;
  }
    where
      list : List ℕ
      list = v ∷ list_of rings r

      more : (q : ℕ) → times q list ≡ times q (list_of rings r) + times q (v ∷ [])
      more q = omega arith

      no_v : (q : ℕ) → times v (places rings q) ≡ 0
      no_v q = free-apart rings q v h.stand low free

      no_sentinel : times (sentinel r) (list_of rings r) ≡ 0
      no_sentinel = omega (arith, place-once rings r (sentinel r) h.stand, times-same (sentinel r) (sentinel r) (list_of rings r) refl)

      from_v : Chain n1 p1 v (list_of rings r) (sentinel r)
      from_v = chain-from n p n1 p1 v (n (sentinel r)) first (sentinel r) (list_of rings r) (sentinel r) refl (omega (arith, no_v r)) (place-once rings r (n (sentinel r)) h.stand) (h.linked r inside)

      here : Chain n2 p2 (sentinel r) list (sentinel r)
      here = (
        next-there n1 p1 n2 p2 (sentinel r) v second,
        previous-there n1 p1 n2 p2 (sentinel r) v second,
        chain-kept n1 p1 n2 p2 (sentinel r) v second v (list_of rings r) (sentinel r) (omega (arith, no_sentinel, times-other (sentinel r) v (list_of rings r) (λ e. omega (arith, h.stand.small)))) (no_v r) from_v,
      )

      others : (q : ℕ) → q < length rings.lists → (q ≡ r → ⊥) → Chain n2 p2 (sentinel q) (list_of rings q) (sentinel q)
      others q small ne =
          chain-kept n1 p1 n2 p2 (sentinel r) v second (sentinel q) (list_of rings q) (sentinel q) (omega (arith, places-apart rings q r (sentinel r) h.stand ne, times-same (sentinel r) (sentinel r) (list_of rings r) refl)) (no_v q)
          (chain-kept n p n1 p1 v (n (sentinel r)) first (sentinel q) (list_of rings q) (sentinel q) (no_v q) (omega (arith, places-apart rings q r (n (sentinel r)) h.stand ne, first-place n p rings h r inside)) (h.linked q small))

-- the list of a ring without a node
list_of-unlinked : (rings : RingLists) (v q : ℕ) → q < length rings.lists → list_of (unlinked rings v) q ≡ without v (list_of rings q)
list_of-unlinked rings v q h = get_or-map (without v) rings.lists q [] [] h

-- a node is taken out of its ring, where `front` and `back` are around it
module _ (n p n1 p1 n2 p2 : ℕ → ℕ) (rings : RingLists) (h : IsLinked n p rings) (r v : ℕ) (front back : List ℕ) (inside : r < length rings.lists) (here : list_of rings r ≡ front ++ v ∷ back) where
  -- how often a place stands in the parts of the list
  parts : (q : ℕ) → times q (list_of rings r) ≡ times q front + times q (v ∷ back)
  parts q = ap (times q) here ∙ times-append q front (v ∷ back)

  whole-chain : Chain n p (sentinel r) (front ++ v ∷ back) (sentinel r)
  whole-chain = subst (λ (l : List ℕ). Chain n p (sentinel r) l (sentinel r)) here (h.linked r inside)

  front-chain : Chain n p (sentinel r) front v
  front-chain = chain-front n p (sentinel r) front v back (sentinel r) whole-chain

  back-chain : Chain n p v back (sentinel r)
  back-chain = chain-back n p (sentinel r) front v back (sentinel r) whole-chain

  pub before-place : 1 ≤ times (p v) (places rings r)
  before-place = omega (arith, last-stands n p (sentinel r) front v front-chain, parts (p v))

  pub behind-place : 1 ≤ times (n v) (places rings r)
  behind-place = omega (arith, first-stands n p v back (sentinel r) back-chain, parts (n v))

  itself-place : times v (list_of rings r) ≡ 1
  itself-place = omega (arith, parts v, times-same v v back refl, all-get v rings.lists r, h.stand.once v)

  pub linked-unlinked : Joins n p n1 p1 (p v) (n v) → Joins n1 p1 n2 p2 v v → IsLinked n2 p2 (unlinked rings v)
  linked-unlinked first second = record {
    stand = record {
      small = omega (arith, h.stand.small, length-map rings.lists (without v));
      once = λ q. ⊎_elim (λ (e : q ≡ v). omega (arith, gone q e)) (λ ne. omega (arith, stays q ne, h.stand.once q)) (cases_eq q v);
      inside = λ q high. ⊎_elim (λ (e : q ≡ v). gone q e) (λ ne. stays q ne ∙ h.stand.inside q high) (cases_eq q v);
    };
    linked = λ q small. chain q (omega (arith, length-map rings.lists (without v)));
    free = λ w small none. ⊎_elim (λ (e : w ≡ v). ap n2 e ∙ next-there n1 p1 n2 p2 v v second ∙ sym e) (λ ne. was_free w small ne (sym (stays w ne) ∙ none)) (cases_eq w v);
  }
    where
      gone : (q : ℕ) → q ≡ v → times_in_all q (map (without v) rings.lists) ≡ 0
      gone q e = all-without v q rings.lists ∙ cond-true (q == v) 0 (times_in_all q rings.lists) (eq-eqb q v e)

      stays : (q : ℕ) → (q ≡ v → ⊥) → times_in_all q (map (without v) rings.lists) ≡ times_in_all q rings.lists
      stays q ne = all-without v q rings.lists ∙ cond-false (q == v) 0 (times_in_all q rings.lists) (ne_eqb q v ne)

      was_free : (w : ℕ) → w < rings.nodes → (w ≡ v → ⊥) → IsFree rings w → n2 w ≡ w
      was_free w small ne none =
          next-elsewhere n1 p1 n2 p2 v v second w ne
          ∙ next-elsewhere n p n1 p1 (p v) (n v) first w
          (λ e. omega (arith, free-apart rings r w h.stand small none, subst (λ (q : ℕ). 1 ≤ times q (places rings r)) (sym e) before-place))
          ∙ h.free w small none

      around : (q : ℕ) → times q (sentinel r ∷ (front ++ back)) ≤ times q (places rings r)
      around q = omega (arith, parts q, times-append q front back)

      past : Chain n2 p2 (sentinel r) (front ++ back) (sentinel r)
      past =
          let out : times v (sentinel r ∷ (front ++ back)) ≡ 0 = omega (arith, parts v, itself-place, times-same v v back refl, times-append v front back, place-once rings r v h.stand) in
          chain-kept n1 p1 n2 p2 v v second (sentinel r) (front ++ back) (sentinel r) out out
          (chain-past n p n1 p1 (p v) (n v) first (sentinel r) front v back (sentinel r) refl refl (omega (arith, around (p v), place-once rings r (p v) h.stand)) (omega (arith, around (n v), place-once rings r (n v) h.stand)) front-chain back-chain)

      chain : (q : ℕ) → q < length rings.lists → Chain n2 p2 (sentinel q) (list_of (unlinked rings v) q) (sentinel q)
      chain q small = ⊎_elim own other (cases_eq q r)
        where
          own : q ≡ r → Chain n2 p2 (sentinel q) (list_of (unlinked rings v) q) (sentinel q)
          own e =
              let list : list_of (unlinked rings v) r ≡ front ++ back =
              list_of-unlinked rings v r inside ∙ ap (without v) here ∙ without-cut v front back (omega (arith, parts v, itself-place, times-same v v back refl)) (omega (arith, parts v, itself-place, times-same v v back refl)) in
              subst (λ (k : ℕ). Chain n2 p2 (sentinel k) (list_of (unlinked rings v) k) (sentinel k)) (sym e)
              (subst (λ (l : List ℕ). Chain n2 p2 (sentinel r) l (sentinel r)) (sym list) past)

          other : (q ≡ r → ⊥) → Chain n2 p2 (sentinel q) (list_of (unlinked rings v) q) (sentinel q)
          other ne =
              let no_v : times v (places rings q) ≡ 0 = omega (arith, places-apart rings q r v h.stand ne, itself-place) in
              let list : list_of (unlinked rings v) q ≡ list_of rings q = list_of-unlinked rings v q small ∙ without-none v (list_of rings q) (omega arith) in
              subst (λ (l : List ℕ). Chain n2 p2 (sentinel q) l (sentinel q)) (sym list)
              (chain-kept n1 p1 n2 p2 v v second (sentinel q) (list_of rings q) (sentinel q) no_v no_v
              (chain-kept n p n1 p1 (p v) (n v) first (sentinel q) (list_of rings q) (sentinel q) (omega (arith, places-apart rings q r (p v) h.stand ne, before-place)) (omega (arith, places-apart rings q r (n v) h.stand ne, behind-place)) (h.linked q small)))
