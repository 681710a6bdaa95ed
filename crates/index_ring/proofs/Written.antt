-- What each move makes of the links as they are written.
use Rattle.std.proofs.Common.{◌≡◌, ℕ, ◌+◌, ◌≤◌, ◌<◌, ◌^◌, List, [], ◌∷◌, ◌++◌, length, get_or, set, replicate, refl, ap, sym, ◌∙◌, subst, arith, ⊎_elim}
use Rattle.std.proofs.lemmas.Bool.{cases_lt}
use Rattle.std.proofs.lemmas.List.{length-set, length-map, length-append, length-replicate}
use Rattle.index_ring.specs.declared.links.Links.{Links}
use Rattle.index_ring.specs.Lists.{RingLists, IsFree, list_of, times, times_in_all, without, pushed_back, pushed_front, unlinked, spliced, grown}
use Rattle.index_ring.specs.Links.{sentinel, next_at, previous_at, IsPlace, Chain, alone, view_of, IsLinked, IsSound, Joined}
use Rattle.index_ring.proofs.Times.{cut, all-find, all-get, times-append, times-same}
use Rattle.index_ring.proofs.Moved.{linked-pushed_back, linked-pushed_front, linked-unlinked, last-place, first-place, before-place, behind-place}
use Rattle.index_ring.proofs.Splicing.{empty-from, front-from, spliced-nothing, linked-spliced}
use Rattle.index_ring.proofs.Alone.{length-alone, linked-grown}
use Rattle.index_ring.proofs.Views.{view-from, sound-from, length-view_of, joins-from, next_at-sentinel, previous_at-sentinel, next_at-node, previous_at-node, place-from}

-- links stand for a view, and are sound
pub record StandFor (nodes rings : List Links) (lists : RingLists) : Type 0 where
  pub view : view_of nodes rings ≡ lists
  pub sound : IsSound nodes rings

stand_for : (nodes rings : List Links) (view : RingLists) → IsLinked (next_at nodes rings) (previous_at nodes rings) view → view.nodes ≡ length nodes → length view.lists ≡ length rings → StandFor nodes rings view
stand_for nodes rings view h same_nodes same_rings =
    let e : view_of nodes rings ≡ view = view-from nodes rings view h same_nodes same_rings in
    record { view = e; sound = sound-from nodes rings view h e }

-- the sum of rings and nodes leaves room for the sentinels
pub few-rings : (nodes rings : List Links) → IsSound nodes rings → length rings + length nodes < 2 ^ 31
few-rings nodes rings h = omega (arith, h.stand.small, length-view_of nodes rings)

-- how many rings the lists are of
pub ring-count : (nodes rings : List Links) (lists : RingLists) → view_of nodes rings ≡ lists → length lists.lists ≡ length rings
ring-count nodes rings lists e = sym (ap (λ (l : RingLists). length l.lists) e) ∙ length-view_of nodes rings

-- a place stays one where no link is added or lost
pub place-kept : (nodes rings nodes1 rings1 : List Links) (q : ℕ) → length nodes1 ≡ length nodes → length rings1 ≡ length rings → IsPlace nodes rings q → IsPlace nodes1 rings1 q
place-kept nodes rings nodes1 rings1 q same_nodes same_rings h = record { node = λ low. omega (arith, h.node low); ring = λ high. omega (arith, h.ring high) }

-- the places beside a sentinel
module _ (nodes rings : List Links) (h : IsSound nodes rings) (r : ℕ) (d : Links) (inside : r < length rings) where
  pub last-is : previous_at nodes rings (sentinel r) ≡ (get_or rings r d).previous
  last-is = previous_at-sentinel nodes rings r d inside

  pub first-is : next_at nodes rings (sentinel r) ≡ (get_or rings r d).next
  first-is = next_at-sentinel nodes rings r d inside

  in_view : r < length (view_of nodes rings).lists
  in_view = omega (arith, length-view_of nodes rings)

  pub last-is_place : IsPlace nodes rings (get_or rings r d).previous
  last-is_place =
      subst (IsPlace nodes rings) last-is (place-from nodes rings r (previous_at nodes rings (sentinel r)) h inside (last-place (next_at nodes rings) (previous_at nodes rings) (view_of nodes rings) h r in_view))

  pub first-is_place : IsPlace nodes rings (get_or rings r d).next
  first-is_place =
      subst (IsPlace nodes rings) first-is (place-from nodes rings r (next_at nodes rings (sentinel r)) h inside (first-place (next_at nodes rings) (previous_at nodes rings) (view_of nodes rings) h r in_view))

-- a free node and the ring that gets it
module _ (nodes rings nodes1 rings1 nodes2 rings2 : List Links) (h : IsSound nodes rings) (r v : ℕ) (d : Links) (inside : r < length rings) (low : v < length nodes) (free : IsFree (view_of nodes rings) v) (same_nodes : length nodes2 ≡ length nodes) (same_rings : length rings2 ≡ length rings) where
  pub written-pushed_back : (end : ℕ) → end ≡ sentinel r → Joined nodes rings nodes1 rings1 (get_or rings r d).previous v → Joined nodes1 rings1 nodes2 rings2 v end → StandFor nodes2 rings2 (pushed_back (view_of nodes rings) r v)
  written-pushed_back end e first second =
      stand_for nodes2 rings2 (pushed_back (view_of nodes rings) r v)
      (linked-pushed_back (next_at nodes rings) (previous_at nodes rings) (next_at nodes1 rings1) (previous_at nodes1 rings1) (next_at nodes2 rings2) (previous_at nodes2 rings2) (view_of nodes rings) h r v (in_view nodes rings h r d inside) low free
      (joins-from nodes rings nodes1 rings1 (previous_at nodes rings (sentinel r)) v (subst (λ (q : ℕ). Joined nodes rings nodes1 rings1 q v) (sym (last-is nodes rings h r d inside)) first))
      (joins-from nodes1 rings1 nodes2 rings2 v (sentinel r) (subst (λ (q : ℕ). Joined nodes1 rings1 nodes2 rings2 v q) e second)))
      (sym same_nodes)
      (omega (arith, length-set (view_of nodes rings).lists r (list_of (view_of nodes rings) r ++ v ∷ []), length-view_of nodes rings))

  pub written-pushed_front : (start : ℕ) → start ≡ sentinel r → Joined nodes rings nodes1 rings1 v (get_or rings r d).next → Joined nodes1 rings1 nodes2 rings2 start v → StandFor nodes2 rings2 (pushed_front (view_of nodes rings) r v)
  written-pushed_front start e first second =
      stand_for nodes2 rings2 (pushed_front (view_of nodes rings) r v)
      (linked-pushed_front (next_at nodes rings) (previous_at nodes rings) (next_at nodes1 rings1) (previous_at nodes1 rings1) (next_at nodes2 rings2) (previous_at nodes2 rings2) (view_of nodes rings) h r v (in_view nodes rings h r d inside) low free
      (joins-from nodes rings nodes1 rings1 v (next_at nodes rings (sentinel r)) (subst (λ (q : ℕ). Joined nodes rings nodes1 rings1 v q) (sym (first-is nodes rings h r d inside)) first))
      (joins-from nodes1 rings1 nodes2 rings2 (sentinel r) v (subst (λ (q : ℕ). Joined nodes1 rings1 nodes2 rings2 q v) e second)))
      (sym same_nodes)
      (omega (arith, length-set (view_of nodes rings).lists r (v ∷ list_of (view_of nodes rings) r), length-view_of nodes rings))

-- a node that stands in a list: in which, and what is around it
pub record Standing (view : RingLists) (v : ℕ) : Type 0 where
  pub r : ℕ
  pub inside : r < length view.lists
  pub front : List ℕ
  pub back : List ℕ
  pub here : list_of view r ≡ front ++ v ∷ back

pub standing-from : (view : RingLists) (v : ℕ) → ¬ IsFree view v → Standing view v
standing-from view v not_free =
    let found = all-find v view.lists (⊎_elim (λ (none : times_in_all v view.lists < 1). absurd (not_free (omega arith))) (λ some. some) (cases_lt (times_in_all v view.lists) 1)) in
    let parts = cut v (list_of view found.0) found.2 in
    record { r = found.0; inside = found.1; front = parts.0; back = parts.1; here = parts.2 }

-- a node that stands in a list
module _ (nodes rings : List Links) (h : IsSound nodes rings) (v : ℕ) (s : Standing (view_of nodes rings) v) (d : Links) where
  at_once : 1 ≤ times v (list_of (view_of nodes rings) s.r)
  at_once = omega (arith, ap (times v) s.here, times-append v s.front (v ∷ s.back), times-same v v s.back refl)

  pub is_node : v < length nodes
  is_node = ⊎_elim (λ low. low) (λ high. absurd (omega (arith, h.stand.inside v high, all-get v (view_of nodes rings).lists s.r, at_once))) (cases_lt v (length nodes))

  pub behind-is : next_at nodes rings v ≡ (get_or nodes v d).next
  behind-is = next_at-node nodes rings v d is_node (omega (arith, is_node, few-rings nodes rings h))

  pub before-is : previous_at nodes rings v ≡ (get_or nodes v d).previous
  before-is = previous_at-node nodes rings v d is_node (omega (arith, is_node, few-rings nodes rings h))

  in_rings : s.r < length rings
  in_rings = omega (arith, s.inside, length-view_of nodes rings)

  pub behind-is_place : IsPlace nodes rings (get_or nodes v d).next
  behind-is_place =
      subst (IsPlace nodes rings) behind-is (place-from nodes rings s.r (next_at nodes rings v) h in_rings (behind-place (next_at nodes rings) (previous_at nodes rings) (next_at nodes rings) (previous_at nodes rings) (next_at nodes rings) (previous_at nodes rings) (view_of nodes rings) h s.r v s.front s.back s.inside s.here))

  pub before-is_place : IsPlace nodes rings (get_or nodes v d).previous
  before-is_place =
      subst (IsPlace nodes rings) before-is (place-from nodes rings s.r (previous_at nodes rings v) h in_rings (before-place (next_at nodes rings) (previous_at nodes rings) (next_at nodes rings) (previous_at nodes rings) (next_at nodes rings) (previous_at nodes rings) (view_of nodes rings) h s.r v s.front s.back s.inside s.here))

  pub written-unlinked : (nodes1 rings1 nodes2 rings2 : List Links) → length nodes2 ≡ length nodes → length rings2 ≡ length rings → Joined nodes rings nodes1 rings1 (get_or nodes v d).previous (get_or nodes v d).next → Joined nodes1 rings1 nodes2 rings2 v v → StandFor nodes2 rings2 (unlinked (view_of nodes rings) v)
  written-unlinked nodes1 rings1 nodes2 rings2 same_nodes same_rings first second =
      stand_for nodes2 rings2 (unlinked (view_of nodes rings) v)
      (linked-unlinked (next_at nodes rings) (previous_at nodes rings) (next_at nodes1 rings1) (previous_at nodes1 rings1) (next_at nodes2 rings2) (previous_at nodes2 rings2) (view_of nodes rings) h s.r v s.front s.back s.inside s.here
      (joins-from nodes rings nodes1 rings1 (previous_at nodes rings v) (next_at nodes rings v) (subst (λ (q : ℕ). Joined nodes rings nodes1 rings1 q (next_at nodes rings v)) (sym before-is) (subst (λ (q : ℕ). Joined nodes rings nodes1 rings1 (get_or nodes v d).previous q) (sym behind-is) first)))
      (joins-from nodes1 rings1 nodes2 rings2 v v second))
      (sym same_nodes)
      (omega (arith, length-map (view_of nodes rings).lists (without v), length-view_of nodes rings))

-- the nodes of ring a go behind those of ring b
module _ (nodes rings : List Links) (h : IsSound nodes rings) (a b : ℕ) (d : Links) (inside_a : a < length rings) (inside_b : b < length rings) (ne : a ≡ b → ⊥) where
  own_none : times (sentinel a) (list_of (view_of nodes rings) a) ≡ 0
  own_none = omega (arith, all-get (sentinel a) (view_of nodes rings).lists a, h.stand.inside (sentinel a) (omega (arith, few-rings nodes rings h)))

  chain_a : Chain (next_at nodes rings) (previous_at nodes rings) (sentinel a) (list_of (view_of nodes rings) a) (sentinel a)
  chain_a = h.linked a (in_view nodes rings h a d inside_a)

  pub written-nothing : (get_or rings a d).next ≡ sentinel a → view_of nodes rings ≡ spliced (view_of nodes rings) a b
  written-nothing e =
      sym (spliced-nothing (view_of nodes rings) a b (empty-from (next_at nodes rings) (previous_at nodes rings) (sentinel a) (list_of (view_of nodes rings) a) own_none chain_a (first-is nodes rings h a d inside_a ∙ e)))

  pub written-spliced : (nodes1 rings1 nodes2 rings2 nodes3 rings3 : List Links) (start end : ℕ) → start ≡ sentinel a → end ≡ sentinel b → ((get_or rings a d).next ≡ start → ⊥) → length nodes3 ≡ length nodes → length rings3 ≡ length rings → Joined nodes rings nodes1 rings1 (get_or rings b d).previous (get_or rings a d).next → Joined nodes1 rings1 nodes2 rings2 (get_or rings a d).previous end → Joined nodes2 rings2 nodes3 rings3 start start → StandFor nodes3 rings3 (spliced (view_of nodes rings) a b)
  written-spliced nodes1 rings1 nodes2 rings2 nodes3 rings3 start end e f some same_nodes same_rings first second third =
      let rest = front-from (next_at nodes rings) (previous_at nodes rings) (sentinel a) (list_of (view_of nodes rings) a) chain_a (λ g. some (sym (first-is nodes rings h a d inside_a) ∙ g ∙ sym e)) in
      let joined : List ℕ = list_of (view_of nodes rings) b ++ list_of (view_of nodes rings) a in
      stand_for nodes3 rings3 (spliced (view_of nodes rings) a b)
      (linked-spliced (next_at nodes rings) (previous_at nodes rings) (next_at nodes1 rings1) (previous_at nodes1 rings1) (next_at nodes2 rings2) (previous_at nodes2 rings2) (next_at nodes3 rings3) (previous_at nodes3 rings3) (view_of nodes rings) h a b rest.0 (in_view nodes rings h a d inside_a) (in_view nodes rings h b d inside_b) ne rest.1
      (joins-from nodes rings nodes1 rings1 (previous_at nodes rings (sentinel b)) (next_at nodes rings (sentinel a)) (subst (λ (q : ℕ). Joined nodes rings nodes1 rings1 q (next_at nodes rings (sentinel a))) (sym (last-is nodes rings h b d inside_b)) (subst (λ (q : ℕ). Joined nodes rings nodes1 rings1 (get_or rings b d).previous q) (sym (first-is nodes rings h a d inside_a)) first)))
      (joins-from nodes1 rings1 nodes2 rings2 (previous_at nodes rings (sentinel a)) (sentinel b) (subst (λ (q : ℕ). Joined nodes1 rings1 nodes2 rings2 q (sentinel b)) (sym (last-is nodes rings h a d inside_a)) (subst (λ (q : ℕ). Joined nodes1 rings1 nodes2 rings2 (get_or rings a d).previous q) f second)))
      (joins-from nodes2 rings2 nodes3 rings3 (sentinel a) (sentinel a) (subst (λ (q : ℕ). Joined nodes2 rings2 nodes3 rings3 q q) e third)))
      (sym same_nodes)
      (omega (arith, length-set (set (view_of nodes rings).lists b joined) a [], length-set (view_of nodes rings).lists b joined, length-view_of nodes rings))

-- nodes and rings are added behind those that are there
pub written-grown : (nodes rings kept_nodes kept_rings nodes1 rings1 : List Links) (lists : RingLists) (r n : ℕ) → IsSound nodes rings → view_of nodes rings ≡ lists → kept_nodes ≡ nodes → kept_rings ≡ rings → nodes1 ≡ kept_nodes ++ alone (0 + length kept_nodes) n → rings1 ≡ kept_rings ++ alone (2 ^ 31 + length kept_rings) r → (length lists.lists + r) + (lists.nodes + n) < 2 ^ 31 → StandFor nodes1 rings1 (grown lists r n)
written-grown nodes rings kept_nodes kept_rings nodes1 rings1 lists r n h shown same_nodes same_rings new_nodes new_rings fits =
    let count : length lists.lists ≡ length rings = ring-count nodes rings lists shown in
    let node_count : lists.nodes ≡ length nodes = sym (ap (λ (l : RingLists). l.nodes) shown) in
    let at_nodes : nodes1 ≡ nodes ++ alone (0 + length nodes) n = new_nodes ∙ ap (λ (l : List Links). l ++ alone (0 + length l) n) same_nodes in
    let at_rings : rings1 ≡ rings ++ alone (2 ^ 31 + length rings) r = new_rings ∙ ap (λ (l : List Links). l ++ alone (2 ^ 31 + length l) r) same_rings in
    let old : IsLinked (next_at nodes rings) (previous_at nodes rings) lists = subst (IsLinked (next_at nodes rings) (previous_at nodes rings)) shown h in
    let linked : IsLinked (next_at (nodes ++ alone (0 + length nodes) n) (rings ++ alone (2 ^ 31 + length rings) r)) (previous_at (nodes ++ alone (0 + length nodes) n) (rings ++ alone (2 ^ 31 + length rings) r)) (grown lists r n) = linked-grown nodes rings r n (omega arith) lists old node_count count (omega arith) in
    subst (λ (l : List Links). StandFor l rings1 (grown lists r n)) (sym at_nodes)
    (subst (λ (l : List Links). StandFor (nodes ++ alone (0 + length nodes) n) l (grown lists r n)) (sym at_rings)
    (stand_for (nodes ++ alone (0 + length nodes) n) (rings ++ alone (2 ^ 31 + length rings) r) (grown lists r n) linked
    (omega (arith, length-append nodes (alone (0 + length nodes) n), length-alone (0 + length nodes) n))
    (omega (arith, length-append rings (alone (2 ^ 31 + length rings) r), length-alone (2 ^ 31 + length rings) r, length-append lists.lists (replicate r []), length-replicate r (let none : List ℕ = [] in none)))))
