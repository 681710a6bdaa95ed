-- Places that are added, each its own neighbour.
use Rattle.std.proofs.Common.{◌≡◌, ℕ, zero, suc, ◌+◌, ◌-◌, ◌≤◌, ◌<◌, ◌^◌, List, [], ◌∷◌, ◌++◌, length, get_or, replicate, refl, ap, sym, ◌∙◌, subst, arith, ⊎_elim}
use Rattle.std.proofs.lemmas.Bool.{cases_eq, cases_lt}
use Rattle.std.proofs.lemmas.List.{length-append, get_or_append_left, get_or-append_right, length-replicate, get_or-replicate}
use Rattle.index_ring.specs.declared.links.Links.{Links}
use Rattle.index_ring.specs.Lists.{RingLists, IsRings, list_of, times, times_in_all, grown}
use Rattle.index_ring.specs.Links.{sentinel, no_links, next_at, previous_at, alone, Chain, IsLinked}
use Rattle.index_ring.proofs.Times.{times-other, all-append, all-empty, all-get}
use Rattle.index_ring.proofs.Chains.{chain-same}
use Rattle.index_ring.proofs.Views.{next_at-node, next_at-sentinel, previous_at-node, previous_at-sentinel}

-- a place that is its own neighbour
abbrev pub itself : ℕ → Links
itself p = record { next = p; previous = p }

pub length-alone : (first count : ℕ) → length (alone first count) ≡ count
length-alone first zero = refl
length-alone first (suc count) = ap suc (length-alone (first + 1) count)

pub alone-more : (first count : ℕ) → alone first (count + 1) ≡ alone first count ++ itself (first + count) ∷ []
alone-more first zero = let e : first ≡ first + 0 = omega arith in ap (λ (p : ℕ). itself p ∷ []) e
alone-more first (suc count) =
    let inner : count + 1 ≡ suc count = omega arith in
    let outer : suc count + 1 ≡ suc (suc count) = omega arith in
    let last : first + 1 + count ≡ first + suc count = omega arith in
    ap (alone first) outer
    ∙ ap (λ (l : List Links). itself first ∷ l)
    (sym (ap (alone (first + 1)) inner)
    ∙ alone-more (first + 1) count
    ∙ ap (λ (p : ℕ). alone (first + 1) count ++ itself p ∷ []) last)

pub get_or-alone : (first count k : ℕ) (d : Links) → k < count → get_or (alone first count) k d ≡ itself (first + k)
get_or-alone first zero k d h = absurd (omega arith)
get_or-alone first (suc count) zero d h = let e : first ≡ first + 0 = omega arith in ap itself e
get_or-alone first (suc count) (suc k) d h = let e : first + 1 + k ≡ first + suc k = omega arith in get_or-alone (first + 1) count k d (omega arith) ∙ ap itself e

-- the links of places that were there, and of those that are added
module _ (nodes rings : List Links) (more_rings more_nodes : ℕ) (few : length nodes + more_nodes < 2 ^ 31) where
  -- the links of nodes and of sentinels after both have grown
  abbrev pub grown_nodes : List Links
  grown_nodes = nodes ++ alone (0 + length nodes) more_nodes

  abbrev pub grown_rings : List Links
  grown_rings = rings ++ alone (2 ^ 31 + length rings) more_rings

  nodes-length : length grown_nodes ≡ length nodes + more_nodes
  nodes-length = omega (arith, length-append nodes (alone (0 + length nodes) more_nodes), length-alone (0 + length nodes) more_nodes)

  rings-length : length grown_rings ≡ length rings + more_rings
  rings-length = omega (arith, length-append rings (alone (2 ^ 31 + length rings) more_rings), length-alone (2 ^ 31 + length rings) more_rings)

  at-old_node : (v : ℕ) → v < length nodes → get_or grown_nodes v no_links ≡ get_or nodes v no_links
  at-old_node v low = get_or_append_left nodes (alone (0 + length nodes) more_nodes) no_links v low

  at-new_node : (v : ℕ) → length nodes ≤ v → v < length nodes + more_nodes → get_or grown_nodes v no_links ≡ itself v
  at-new_node v high low =
      get_or-append_right nodes (alone (0 + length nodes) more_nodes) (length nodes) v no_links refl high
      ∙ get_or-alone (0 + length nodes) more_nodes (v - length nodes) no_links (omega arith)
      ∙ ap itself (omega arith)

  at-old_ring : (r : ℕ) → r < length rings → get_or grown_rings r no_links ≡ get_or rings r no_links
  at-old_ring r low = get_or_append_left rings (alone (2 ^ 31 + length rings) more_rings) no_links r low

  at-new_ring : (r : ℕ) → length rings ≤ r → r < length rings + more_rings → get_or grown_rings r no_links ≡ itself (sentinel r)
  at-new_ring r high low =
      get_or-append_right rings (alone (2 ^ 31 + length rings) more_rings) (length rings) r no_links refl high
      ∙ get_or-alone (2 ^ 31 + length rings) more_rings (r - length rings) no_links (omega arith)
      ∙ ap itself (omega arith)

  next-old_node : (v : ℕ) → v < length nodes → next_at grown_nodes grown_rings v ≡ next_at nodes rings v
  next-old_node v low =
      next_at-node grown_nodes grown_rings v no_links (omega (arith, nodes-length)) (omega arith)
      ∙ ap (λ (l : Links). l.next) (at-old_node v low)
      ∙ sym (next_at-node nodes rings v no_links low (omega arith))

  previous-old_node : (v : ℕ) → v < length nodes → previous_at grown_nodes grown_rings v ≡ previous_at nodes rings v
  previous-old_node v low =
      previous_at-node grown_nodes grown_rings v no_links (omega (arith, nodes-length)) (omega arith)
      ∙ ap (λ (l : Links). l.previous) (at-old_node v low)
      ∙ sym (previous_at-node nodes rings v no_links low (omega arith))

  next-old_ring : (r : ℕ) → r < length rings → next_at grown_nodes grown_rings (sentinel r) ≡ next_at nodes rings (sentinel r)
  next-old_ring r low =
      next_at-sentinel grown_nodes grown_rings r no_links (omega (arith, rings-length))
      ∙ ap (λ (l : Links). l.next) (at-old_ring r low)
      ∙ sym (next_at-sentinel nodes rings r no_links low)

  previous-old_ring : (r : ℕ) → r < length rings → previous_at grown_nodes grown_rings (sentinel r) ≡ previous_at nodes rings (sentinel r)
  previous-old_ring r low =
      previous_at-sentinel grown_nodes grown_rings r no_links (omega (arith, rings-length))
      ∙ ap (λ (l : Links). l.previous) (at-old_ring r low)
      ∙ sym (previous_at-sentinel nodes rings r no_links low)

  -- an old place of a ring keeps its links
  module _ (view : RingLists) (h : IsRings view) (same_nodes : view.nodes ≡ length nodes) (r q : ℕ) (inside : r < length rings) (stands : 1 ≤ times q (sentinel r ∷ list_of view r)) where
    kept : (f g : ℕ → ℕ) → (sentinel r ≡ q → f q ≡ g q) → (q < length nodes → f q ≡ g q) → f q ≡ g q
    kept f g at_sentinel at_node =
        ⊎_elim at_sentinel
        (λ ne. ⊎_elim at_node (λ high. absurd (omega (arith, times-other q (sentinel r) (list_of view r) ne, all-get q view.lists r, h.inside q (omega arith)))) (cases_lt q (length nodes)))
        (cases_eq (sentinel r) q)

    next-kept : next_at grown_nodes grown_rings q ≡ next_at nodes rings q
    next-kept =
        kept (next_at grown_nodes grown_rings) (next_at nodes rings)
        (λ e. subst (λ (k : ℕ). next_at grown_nodes grown_rings k ≡ next_at nodes rings k) e (next-old_ring r inside)) (next-old_node q)

    previous-kept : previous_at grown_nodes grown_rings q ≡ previous_at nodes rings q
    previous-kept =
        kept (previous_at grown_nodes grown_rings) (previous_at nodes rings)
        (λ e. subst (λ (k : ℕ). previous_at grown_nodes grown_rings k ≡ previous_at nodes rings k) e (previous-old_ring r inside)) (previous-old_node q)

  pub linked-grown : (view : RingLists) → IsLinked (next_at nodes rings) (previous_at nodes rings) view → view.nodes ≡ length nodes → length view.lists ≡ length rings → (length rings + more_rings) + (length nodes + more_nodes) < 2 ^ 31 → IsLinked (next_at grown_nodes grown_rings) (previous_at grown_nodes grown_rings) (grown view more_rings more_nodes)
  linked-grown view h same_nodes same_rings fits = record {
    stand = record {
      small = omega (arith, length-append view.lists (replicate more_rings []), length-replicate more_rings (let none : List ℕ = [] in none));
      once = λ v. omega (arith, all v, h.stand.once v);
      inside = λ v high. omega (arith, all v, h.stand.inside v (omega arith));
    };
    linked = λ r small. ⊎_elim (old r) (λ high. new r high (omega (arith, length-append view.lists (replicate more_rings []), length-replicate more_rings (let none : List ℕ = [] in none)))) (cases_lt r (length view.lists));
    free = λ v small none. ⊎_elim (λ (low : v < length nodes). next-old_node v low ∙ h.free v (omega arith) (omega (arith, all v)))
        (λ high. next_at-node grown_nodes grown_rings v no_links (omega (arith, nodes-length)) (omega arith) ∙ ap (λ (l : Links). l.next) (at-new_node v high (omega arith))) (cases_lt v (length nodes));
  }
    where
      all : (v : ℕ) → times_in_all v (view.lists ++ replicate more_rings []) ≡ times_in_all v view.lists
      all v = omega (arith, all-append v view.lists (replicate more_rings []), all-empty v more_rings)

      old : (r : ℕ) → r < length view.lists → Chain (next_at grown_nodes grown_rings) (previous_at grown_nodes grown_rings) (sentinel r) (list_of (grown view more_rings more_nodes) r) (sentinel r)
      old r low =
          subst (λ (l : List ℕ). Chain (next_at grown_nodes grown_rings) (previous_at grown_nodes grown_rings) (sentinel r) l (sentinel r)) (sym (get_or_append_left view.lists (replicate more_rings []) [] r low))
          (chain-same (next_at nodes rings) (previous_at nodes rings) (next_at grown_nodes grown_rings) (previous_at grown_nodes grown_rings) (sentinel r) (list_of view r) (sentinel r) (λ q stands. next-kept view h.stand same_nodes r q (omega arith) stands) (λ q stands. previous-kept view h.stand same_nodes r q (omega arith) stands) (h.linked r low))

      new : (r : ℕ) → length view.lists ≤ r → r < length view.lists + more_rings → Chain (next_at grown_nodes grown_rings) (previous_at grown_nodes grown_rings) (sentinel r) (list_of (grown view more_rings more_nodes) r) (sentinel r)
      new r high low =
          let empty : list_of (grown view more_rings more_nodes) r ≡ [] = get_or-append_right view.lists (replicate more_rings []) (length view.lists) r [] refl high ∙ get_or-replicate more_rings (r - length view.lists) [] [] (omega arith) in
          subst (λ (l : List ℕ). Chain (next_at grown_nodes grown_rings) (previous_at grown_nodes grown_rings) (sentinel r) l (sentinel r)) (sym empty) (
            next_at-sentinel grown_nodes grown_rings r no_links (omega (arith, rings-length)) ∙ ap (λ (l : Links). l.next) (at-new_ring r (omega arith) (omega arith)),
            previous_at-sentinel grown_nodes grown_rings r no_links (omega (arith, rings-length)) ∙ ap (λ (l : Links). l.previous) (at-new_ring r (omega arith) (omega arith)),
          )
