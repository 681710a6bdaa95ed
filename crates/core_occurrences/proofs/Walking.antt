-- A walk through the list of a ring.
use Rattle.std.proofs.Common.{◌≡◌, ℕ, ◌+◌, ◌≤◌, ◌<◌, List, [], ◌∷◌, ◌++◌, length, refl, ap, sym, ◌∙◌, subst, arith, append_assoc, Option, Some}
use Rattle.std.specs.Prelude.{◌==◌, IfSome}
use Rattle.std.proofs.lemmas.Bool.{eq-eqb, ne_eqb, cond-true, cond-false}
use Rattle.index_ring.specs.Lists.{RingLists, Stands, list_of, times, times_in_all, first_in, after_in}
use Rattle.index_ring.proofs.Times.{times-same, times-append, all-get, cut}
use Rattle.index_ring.proofs.Seen.{after_in-cut}
use Rattle.core_occurrences.specs.declared.chains.Node.{Node}
use Rattle.core_occurrences.specs.Held.{IsHeld}
use Rattle.core_occurrences.specs.Kept.{from_node, left_of, IsWalking}
use Rattle.core_occurrences.proofs.Linked.{node-there}

from_node-cut : (v : ℕ) (front back : List ℕ) → times v front ≡ 0 → from_node v (front ++ v ∷ back) ≡ v ∷ back
from_node-cut v [] back none = cond-true (v == v) _ _ (eq-eqb v v refl)
from_node-cut v (w ∷ front) back none =
    cond-false (w == v) _ _ (ne_eqb w v (λ e. omega (arith, times-same v w front e))) ∙ from_node-cut v front back (omega (arith, none))

-- from the first node of the rest of a list on
left-rest : (front rest : List ℕ) → ((v : ℕ) → times v (front ++ rest) ≤ 1) → left_of (first_in rest) (front ++ rest) ≡ rest
left-rest front [] once = refl
left-rest front (v ∷ back) once =
    from_node-cut v front back (omega (arith, once v, times-append v front (v ∷ back), times-same v v back refl))

module _ (nodes : List Node) (rings : RingLists) (ring : ℕ) (h : IsHeld nodes rings) where
  once-here : (v : ℕ) → times v (list_of rings ring) ≤ 1
  once-here v = omega (arith, all-get v rings.lists ring, h.stand.once v)

  first-stands : (list : List ℕ) → IfSome (first_in list) (λ v. 1 ≤ times v list)
  first-stands [] = tt
  first-stands (v ∷ list) = omega (arith, times-same v v list refl)

  -- the walk begins with the whole list
  pub walking-first : (next : Option ℕ) → next ≡ first_in (list_of rings ring) → IsWalking nodes rings ring next
  walking-first next e = record {
    held = h;
    stands = subst (λ (o : Option ℕ). IfSome o (Stands rings ring)) (sym e) (first-stands (list_of rings ring));
  }

  pub left-first : (next : Option ℕ) → next ≡ first_in (list_of rings ring) → left_of next (list_of rings ring) ≡ list_of rings ring
  left-first next e = ap (λ (o : Option ℕ). left_of o (list_of rings ring)) e ∙ left-rest [] (list_of rings ring) once-here

  module _ (v : ℕ) (stands : Stands rings ring v) where
    parts : (front : List ℕ) × (back : List ℕ) × (list_of rings ring ≡ front ++ v ∷ back)
    parts = cut v (list_of rings ring) stands

    whole : (w : ℕ) → times w (list_of rings ring) ≡ times w parts.0 + times w (v ∷ parts.1)
    whole w = ap (times w) parts.2 ∙ times-append w parts.0 (v ∷ parts.1)

    not_before : times v parts.0 ≡ 0
    not_before = omega (arith, whole v, once-here v, times-same v v parts.1 refl)

    pub node-in : v < length nodes
    node-in = node-there nodes rings h v (omega (arith, stands, all-get v rings.lists ring))

    pub not-free : times_in_all v rings.lists ≡ 0 → ⊥
    not-free none = omega (arith, none, stands, all-get v rings.lists ring)

    after-is : after_in v (list_of rings ring) ≡ first_in parts.1
    after-is = ap (after_in v) parts.2 ∙ after_in-cut v parts.0 parts.1 not_before

    -- one step of the walk
    pub left-more : (next : Option ℕ) → next ≡ after_in v (list_of rings ring) → left_of (Some v) (list_of rings ring) ≡ v ∷ left_of next (list_of rings ring)
    left-more next e =
        ap (from_node v) parts.2
        ∙ from_node-cut v parts.0 parts.1 not_before
        ∙ ap (λ (l : List ℕ). v ∷ l) (sym behind)
      where
        longer : list_of rings ring ≡ (parts.0 ++ v ∷ []) ++ parts.1
        longer = parts.2 ∙ sym (append_assoc parts.0 (v ∷ []) parts.1)

        behind : left_of next (list_of rings ring) ≡ parts.1
        behind =
            ap (λ (o : Option ℕ). left_of o (list_of rings ring)) (e ∙ after-is)
            ∙ ap (left_of (first_in parts.1)) longer
            ∙ left-rest (parts.0 ++ v ∷ []) parts.1 (λ w. subst (λ (l : List ℕ). times w l ≤ 1) longer (once-here w))

    pub walking-more : (next : Option ℕ) → next ≡ after_in v (list_of rings ring) → IsWalking nodes rings ring next
    walking-more next e = record {
      held = h;
      stands = subst (λ (o : Option ℕ). IfSome o (Stands rings ring)) (sym (e ∙ after-is)) (in_back parts.1 (λ w. omega (arith, whole w)));
    }
      where
        in_back : (back : List ℕ) → ((w : ℕ) → times w back ≤ times w (list_of rings ring)) → IfSome (first_in back) (Stands rings ring)
        in_back [] fewer = tt
        in_back (w ∷ back) fewer = omega (arith, fewer w, times-same w w back refl)
