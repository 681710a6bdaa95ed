-- The lists that links stand for.
use Rattle.std.proofs.Common.{◌≡◌, ℕ, zero, suc, ◌+◌, ◌≤◌, ◌<◌, ◌^◌, List, [], ◌∷◌, length, get_or, refl, ap, sym, ◌∙◌, subst, arith, ⊎_elim}
use Rattle.std.specs.Prelude.{nat_lt}
use Rattle.std.proofs.lemmas.Bool.{cases_eq, cases_lt, cond-true, cond-false, lt-ltb, le-ltb}
use Rattle.std.proofs.lemmas.List.{ext_get_or, get_or_default}
use Rattle.std.proofs.lemmas.List.FromFn.{length-map-range_with_len, get_or-map-range_with_len}
use Rattle.index_ring.specs.declared.links.Links.{Links}
use Rattle.index_ring.specs.Lists.{RingLists, list_of, times, times_in_all}
use Rattle.index_ring.specs.Links.{sentinel, no_links, next_at, previous_at, IsPlace, Chain, nodes_behind, view_of, IsLinked, IsSound, Joined}
use Rattle.index_ring.proofs.Times.{times-same, times-other, times-grows, all-get, total_length-le, length-le-total}
use Rattle.index_ring.proofs.Chains.{Joins}
use Rattle.index_ring.proofs.Moved.{places}

-- a walk from the start of a chain of nodes meets its list, and ends where it ends at a sentinel
pub nodes_behind-chain : (n p : ℕ → ℕ) (a : ℕ) (list : List ℕ) (b most : ℕ) → ((q : ℕ) → 1 ≤ times q list → q < 2 ^ 31) → 2 ^ 31 ≤ b → length list ≤ most → Chain n p a list b → nodes_behind n most a ≡ list
nodes_behind-chain n p a [] b zero low high fits h = refl
nodes_behind-chain n p a [] b (suc most) low high fits h = cond-false (nat_lt (n a) (2 ^ 31)) _ _ (le-ltb (n a) (2 ^ 31) (omega (arith, h.0)))
nodes_behind-chain n p a (x ∷ list) b zero low high fits h = absurd (omega arith)
nodes_behind-chain n p a (x ∷ list) b (suc most) low high fits h =
    cond-true (nat_lt (n a) (2 ^ 31)) _ _ (lt-ltb (n a) (2 ^ 31) (omega (arith, h.0, low x (omega (arith, times-same x x list refl)))))
    ∙ ap (λ (q : ℕ). q ∷ nodes_behind n most q) h.0
    ∙ ap (λ (l : List ℕ). x ∷ l) (nodes_behind-chain n p x list b most (λ q stands. low q (omega (arith, times-grows q x list))) high (omega arith) h.2)

-- links are those of one view alone
pub view-from : (nodes rings : List Links) (view : RingLists) → IsLinked (next_at nodes rings) (previous_at nodes rings) view → view.nodes ≡ length nodes → length view.lists ≡ length rings → view_of nodes rings ≡ view
view-from nodes rings view h same_nodes same_rings = made (view_of nodes rings).lists view.lists (length nodes) view.nodes lists (sym same_nodes)
  where
    made : (l k : List (List ℕ)) (i j : ℕ) → l ≡ k → i ≡ j → (let one : RingLists = record { lists = l; nodes = i } in one) ≡ record { lists = k; nodes = j }
    made l k i j e f = cc

    behind : ℕ → List ℕ
    behind r = nodes_behind (next_at nodes rings) (length nodes) (sentinel r)

    at : (r : ℕ) → r < length rings → behind r ≡ list_of view r
    at r small =
        nodes_behind-chain (next_at nodes rings) (previous_at nodes rings) (sentinel r) (list_of view r) (sentinel r) (length nodes)
        (λ q stands. ⊎_elim (λ low. low) (λ high. absurd (omega (arith, all-get q view.lists r, h.stand.inside q (omega (arith, h.stand.small))))) (cases_lt q (2 ^ 31)))
        (omega arith)
        (omega (arith, length-le-total view.lists r, total_length-le view.nodes view.lists h.stand.once h.stand.inside))
        (h.linked r (omega arith))

    lists : (view_of nodes rings).lists ≡ view.lists
    lists = ext_get_or [] (view_of nodes rings).lists view.lists (length-map-range_with_len behind 0 (length rings) ∙ sym same_rings)
        (λ i small. let within : i < length rings = omega (arith, length-map-range_with_len behind 0 (length rings)) in get_or-map-range_with_len behind 0 (length rings) i i [] within (omega arith) ∙ at i within)

-- links that are those of a view are sound
pub sound-from : (nodes rings : List Links) (view : RingLists) → IsLinked (next_at nodes rings) (previous_at nodes rings) view → view_of nodes rings ≡ view → IsSound nodes rings
sound-from nodes rings view h e = subst (IsLinked (next_at nodes rings) (previous_at nodes rings)) (sym e) h

-- how many rings the view has
pub length-view_of : (nodes rings : List Links) → length (view_of nodes rings).lists ≡ length rings
length-view_of nodes rings = length-map-range_with_len (λ r. nodes_behind (next_at nodes rings) (length nodes) (sentinel r)) 0 (length rings)

pub joins-from : (nodes rings nodes_after rings_after : List Links) (a b : ℕ) → Joined nodes rings nodes_after rings_after a b → Joins (next_at nodes rings) (previous_at nodes rings) (next_at nodes_after rings_after) (previous_at nodes_after rings_after) a b
joins-from nodes rings nodes_after rings_after a b j = record { next = j.next; previous = j.previous }

-- the links of a sentinel and of a node
pub next_at-sentinel : (nodes rings : List Links) (r : ℕ) (d : Links) → r < length rings → next_at nodes rings (sentinel r) ≡ (get_or rings r d).next
next_at-sentinel nodes rings r d h =
    cond-false (nat_lt (sentinel r) (2 ^ 31)) _ _ (le-ltb (sentinel r) (2 ^ 31) (omega arith))
    ∙ ap (λ (k : ℕ). (get_or rings k no_links).next) (omega arith)
    ∙ ap (λ (l : Links). l.next) (get_or_default rings r no_links d h)

pub previous_at-sentinel : (nodes rings : List Links) (r : ℕ) (d : Links) → r < length rings → previous_at nodes rings (sentinel r) ≡ (get_or rings r d).previous
previous_at-sentinel nodes rings r d h =
    cond-false (nat_lt (sentinel r) (2 ^ 31)) _ _ (le-ltb (sentinel r) (2 ^ 31) (omega arith))
    ∙ ap (λ (k : ℕ). (get_or rings k no_links).previous) (omega arith)
    ∙ ap (λ (l : Links). l.previous) (get_or_default rings r no_links d h)

pub next_at-node : (nodes rings : List Links) (v : ℕ) (d : Links) → v < length nodes → v < 2 ^ 31 → next_at nodes rings v ≡ (get_or nodes v d).next
next_at-node nodes rings v d h low =
    cond-true (nat_lt v (2 ^ 31)) _ _ (lt-ltb v (2 ^ 31) low) ∙ ap (λ (l : Links). l.next) (get_or_default nodes v no_links d h)

pub previous_at-node : (nodes rings : List Links) (v : ℕ) (d : Links) → v < length nodes → v < 2 ^ 31 → previous_at nodes rings v ≡ (get_or nodes v d).previous
previous_at-node nodes rings v d h low =
    cond-true (nat_lt v (2 ^ 31)) _ _ (lt-ltb v (2 ^ 31) low) ∙ ap (λ (l : Links). l.previous) (get_or_default nodes v no_links d h)

-- what stands among the places of a ring is a place
pub place-from : (nodes rings : List Links) (r q : ℕ) → IsSound nodes rings → r < length rings → 1 ≤ times q (places (view_of nodes rings) r) → IsPlace nodes rings q
place-from nodes rings r q h inside stands = record { node = node; ring = ring }
  where
    node : q < 2 ^ 31 → q < length nodes
    node low = ⊎_elim (λ small. small) (λ high. absurd (omega (arith, times-other q (sentinel r) (list_of (view_of nodes rings) r) (λ e. omega arith), all-get q (view_of nodes rings).lists r, h.stand.inside q high))) (cases_lt q (length nodes))

    ring : 2 ^ 31 ≤ q → q < 2 ^ 31 + length rings
    ring high =
        let none : times_in_all q (view_of nodes rings).lists ≡ 0 = h.stand.inside q (omega (arith, h.stand.small)) in
        ⊎_elim (λ (e : sentinel r ≡ q). omega arith) (λ ne. absurd (omega (arith, times-other q (sentinel r) (list_of (view_of nodes rings) r) ne, all-get q (view_of nodes rings).lists r, none))) (cases_eq (sentinel r) q)
