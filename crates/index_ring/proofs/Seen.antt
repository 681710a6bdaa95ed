-- What the links tell of the lists.
use Rattle.std.proofs.Common.{◌≡◌, ℕ, ◌+◌, ◌≤◌, ◌<◌, ◌^◌, List, [], ◌∷◌, ◌++◌, length, get_or, refl, ap, sym, ◌∙◌, subst, arith, ⊎_elim, Option, Some, None}
use Rattle.std.specs.Prelude.{if◌then◌else◌, ◌==◌, nat_lt, ◌↔◌, IsTrue}
use Rattle.std.proofs.lemmas.Bool.{cases_lt, eq-eqb, ne_eqb, eqb-true, cond-true, cond-false, lt-ltb, le-ltb}
use Rattle.std.proofs.lemmas.List.{get_or_past}
use Rattle.index_ring.specs.declared.links.Links.{Links}
use Rattle.index_ring.specs.Lists.{RingLists, IsFree, Stands, list_of, times, times_in_all, first_in, after_in}
use Rattle.index_ring.specs.Links.{sentinel, no_links, next_at, previous_at, Chain, view_of, IsSound}
use Rattle.index_ring.proofs.Times.{times-same, times-other, times-append, all-get, cut}
use Rattle.index_ring.proofs.Chains.{chain-back, first-stands}
use Rattle.index_ring.proofs.Views.{length-view_of, next_at-sentinel, next_at-node}
use Rattle.index_ring.proofs.Written.{Standing, standing-from, is_node, few-rings, ring-count}

-- behind the nodes in front of it, and the node itself, comes the first of those that are left
pub after_in-cut : (v : ℕ) (front back : List ℕ) → times v front ≡ 0 → after_in v (front ++ v ∷ back) ≡ first_in back
after_in-cut v [] back none = cond-true (v == v) _ _ (eq-eqb v v refl)
after_in-cut v (x ∷ front) back none =
    cond-false (x == v) _ _ (ne_eqb x v (λ e. omega (arith, times-same v x front e))) ∙ after_in-cut v front back (omega arith)

-- the node at a place, unless a sentinel is there
abbrev pub node_of : ℕ → Option ℕ
node_of q = if nat_lt q (2 ^ 31) then Some q else None

-- behind the start of a chain of nodes comes the first of its list
node_of-chain : (n p : ℕ → ℕ) (a : ℕ) (list : List ℕ) (b : ℕ) → ((q : ℕ) → 1 ≤ times q list → q < 2 ^ 31) → 2 ^ 31 ≤ b → Chain n p a list b → node_of (n a) ≡ first_in list
node_of-chain n p a [] b low high h = cond-false (nat_lt (n a) (2 ^ 31)) _ _ (le-ltb (n a) (2 ^ 31) (omega (arith, h.0)))
node_of-chain n p a (x ∷ list) b low high h =
    cond-true (nat_lt (n a) (2 ^ 31)) _ _ (lt-ltb (n a) (2 ^ 31) (omega (arith, h.0, low x (omega (arith, times-same x x list refl))))) ∙ ap (λ (q : ℕ). Some q) h.0

module _ (nodes rings : List Links) (h : IsSound nodes rings) where
  -- what stands in a list is a node
  low-node : (r q : ℕ) → 1 ≤ times q (list_of (view_of nodes rings) r) → q < 2 ^ 31
  low-node r q stands =
      ⊎_elim (λ low. low) (λ high. absurd (omega (arith, all-get q (view_of nodes rings).lists r, h.stand.inside q (omega (arith, h.stand.small))))) (cases_lt q (2 ^ 31))

  pub first-read : (r : ℕ) (d : Links) → r < length rings → node_of (get_or rings r d).next ≡ first_in (list_of (view_of nodes rings) r)
  first-read r d inside =
      ap node_of (sym (next_at-sentinel nodes rings r d inside))
      ∙ node_of-chain (next_at nodes rings) (previous_at nodes rings) (sentinel r) (list_of (view_of nodes rings) r) (sentinel r) (low-node r) (omega arith) (h.linked r (omega (arith, length-view_of nodes rings)))

  -- a ring in which something stands is there
  ring-there : (r v : ℕ) → Stands (view_of nodes rings) r v → r < length (view_of nodes rings).lists
  ring-there r v stands =
      ⊎_elim (λ low. low) (λ high. absurd (omega (arith, ap (times v) (get_or_past (view_of nodes rings).lists r [] high)))) (cases_lt r (length (view_of nodes rings).lists))

  pub node-there : (v : ℕ) → ¬ IsFree (view_of nodes rings) v → v < length nodes
  node-there v not_free = is_node nodes rings h v (standing-from (view_of nodes rings) v not_free) (record { next = 0; previous = 0 })

  pub after-read : (r v : ℕ) (d : Links) → Stands (view_of nodes rings) r v → v < length nodes → node_of (get_or nodes v d).next ≡ after_in v (list_of (view_of nodes rings) r)
  after-read r v d stands low =
      let parts = cut v (list_of (view_of nodes rings) r) stands in
      let counted : times v (list_of (view_of nodes rings) r) ≡ times v parts.0 + times v (v ∷ parts.1) = ap (times v) parts.2 ∙ times-append v parts.0 (v ∷ parts.1) in
      let chain : Chain (next_at nodes rings) (previous_at nodes rings) v parts.1 (sentinel r) =
      chain-back (next_at nodes rings) (previous_at nodes rings) (sentinel r) parts.0 v parts.1 (sentinel r)
      (subst (λ (l : List ℕ). Chain (next_at nodes rings) (previous_at nodes rings) (sentinel r) l (sentinel r)) parts.2 (h.linked r (ring-there r v stands))) in
      let whole : (q : ℕ) → times q (list_of (view_of nodes rings) r) ≡ times q parts.0 + times q (v ∷ parts.1) = λ q. ap (times q) parts.2 ∙ times-append q parts.0 (v ∷ parts.1) in
      ap node_of (sym (next_at-node nodes rings v d low (omega (arith, few-rings nodes rings h))))
      ∙ node_of-chain (next_at nodes rings) (previous_at nodes rings) v parts.1 (sentinel r) (λ q here. low-node r q (omega (arith, whole q))) (omega arith) chain
      ∙ sym (after_in-cut v parts.0 parts.1 (omega (arith, counted, times-same v v parts.1 refl, all-get v (view_of nodes rings).lists r, h.stand.once v)))
      ∙ sym (ap (after_in v) parts.2)

  -- a node that stands in a list isn't its own neighbour
  stands-apart : (v : ℕ) → Standing (view_of nodes rings) v → v < length nodes → next_at nodes rings v ≡ v → ⊥
  stands-apart v s low e =
      let counted : times v (list_of (view_of nodes rings) s.r) ≡ times v s.front + times v (v ∷ s.back) = ap (times v) s.here ∙ times-append v s.front (v ∷ s.back) in
      let chain : Chain (next_at nodes rings) (previous_at nodes rings) v s.back (sentinel s.r) =
      chain-back (next_at nodes rings) (previous_at nodes rings) (sentinel s.r) s.front v s.back (sentinel s.r)
      (subst (λ (l : List ℕ). Chain (next_at nodes rings) (previous_at nodes rings) (sentinel s.r) l (sentinel s.r)) s.here (h.linked s.r s.inside)) in
      let behind : 1 ≤ times v (sentinel s.r ∷ s.back) = subst (λ (q : ℕ). 1 ≤ times q (sentinel s.r ∷ s.back)) e (first-stands (next_at nodes rings) (previous_at nodes rings) v s.back (sentinel s.r) chain) in
      omega (arith, behind, counted, times-same v v s.back refl, times-other v (sentinel s.r) s.back (λ f. omega (arith, few-rings nodes rings h)), all-get v (view_of nodes rings).lists s.r, h.stand.once v)

  pub free-read : (v : ℕ) (d : Links) → v < length nodes → ((get_or nodes v d).next ≡ v) ↔ IsFree (view_of nodes rings) v
  free-read v d low = (
    λ e. ⊎_elim (λ (none : times_in_all v (view_of nodes rings).lists < 1). omega arith) (λ some. absurd (stands-apart v (standing-from (view_of nodes rings) v (λ none. omega arith)) low (at_v ∙ e))) (cases_lt (times_in_all v (view_of nodes rings).lists) 1),
    λ none. sym at_v ∙ h.free v low none,
  )
    where
      at_v : next_at nodes rings v ≡ (get_or nodes v d).next
      at_v = next_at-node nodes rings v d low (omega (arith, few-rings nodes rings h))

-- the same of the lists that the links stand for
module _ (nodes rings : List Links) (lists : RingLists) (h : IsSound nodes rings) (shown : view_of nodes rings ≡ lists) where
  pub first-shown : (kept : List Links) (r : ℕ) → kept ≡ rings → r < length lists.lists → node_of (get_or kept r no_links).next ≡ first_in (list_of lists r)
  first-shown kept r e low =
      ap (λ (l : List Links). node_of (get_or l r no_links).next) e
      ∙ first-read nodes rings h r no_links (omega (arith, ring-count nodes rings lists shown))
      ∙ ap (λ (l : RingLists). first_in (list_of l r)) shown

  pub after-shown : (kept : List Links) (r v : ℕ) → kept ≡ nodes → ¬ IsFree lists v → Stands lists r v → node_of (get_or kept v no_links).next ≡ after_in v (list_of lists r)
  after-shown kept r v e not_free stands =
      ap (λ (l : List Links). node_of (get_or l v no_links).next) e
      ∙ after-read nodes rings h r v no_links (subst (λ (l : RingLists). Stands l r v) (sym shown) stands) (node-there nodes rings h v (λ free. not_free (subst (λ (l : RingLists). IsFree l v) shown free)))
      ∙ ap (λ (l : RingLists). after_in v (list_of l r)) shown

  pub free-shown : (kept : List Links) (v : ℕ) → kept ≡ nodes → v < lists.nodes → IsTrue ((get_or kept v no_links).next == v) ↔ IsFree lists v
  free-shown kept v e low =
      let read : ((get_or nodes v no_links).next ≡ v) ↔ IsFree (view_of nodes rings) v = free-read nodes rings h v no_links (omega (arith, ap (λ (l : RingLists). l.nodes) shown)) in
      let same : (get_or kept v no_links).next ≡ (get_or nodes v no_links).next = ap (λ (l : List Links). (get_or l v no_links).next) e in (
        λ t. subst (λ (l : RingLists). IsFree l v) shown (read.0 (sym same ∙ eqb-true (get_or kept v no_links).next v t)),
        λ free. eq-eqb (get_or kept v no_links).next v (same ∙ read.1 (subst (λ (l : RingLists). IsFree l v) (sym shown) free)),
      )
