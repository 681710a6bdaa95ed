-- The two rings of references, where one goes from the one to the other.
use Rattle.std.proofs.Common.{◌≡◌, ℕ, ◌+◌, ◌<◌, ◌≤◌, List, [], ◌∷◌, ◌++◌, length, get_or, Some, refl, ap, sym, ◌∙◌, arith, ⊎_elim, length-append}
use Rattle.std.specs.Prelude.{◌==◌}
use Rattle.std.proofs.lemmas.Bool.{cases_eq, cases_lt, eq-eqb, ne_eqb, cond-true, cond-false}
use Rattle.std.proofs.lemmas.List.{get_or-set_same, get_or-set_other, length-set, length-map, get_or-map}
use Rattle.index_ring.specs.Lists.{RingLists, IsRings, list_of, times, times_in_all, without, unlinked, pushed_back, first_in}
use Rattle.clause_arena.specs.References.{AreListed}
use Rattle.index_ring.proofs.Times.{times-same, times-other, times-append, all-get, all-two, all-set, all-without, times-without, length-without, without-none, total_length-le, length-le-total}

-- what stands in a ring is a node
pub node-there : (order : RingLists) (r v : ℕ) → IsRings order → 1 ≤ times v (list_of order r) → v < order.nodes
node-there order r v rings some =
    ⊎_elim (λ low. low) (λ high. absurd (omega (arith, rings.inside v high, all-get v order.lists r, some))) (cases_lt v order.nodes)

-- it is not free, and stands once, and in no other ring
pub not_free : (order : RingLists) (r v : ℕ) → 1 ≤ times v (list_of order r) → times_in_all v order.lists ≡ 0 → ⊥
not_free order r v some free = omega (arith, all-get v order.lists r, some, free)

pub once-there : (order : RingLists) (r v : ℕ) → IsRings order → times v (list_of order r) ≤ 1
once-there order r v rings = omega (arith, rings.once v, all-get v order.lists r)

pub not_elsewhere : (order : RingLists) (r s v : ℕ) → IsRings order → (r ≡ s → ⊥) → 1 ≤ times v (list_of order r) → times v (list_of order s) ≡ 0
not_elsewhere order r s v rings apart some = omega (arith, rings.once v, all-two v order.lists r s apart, some)

-- a ring is no longer than there are nodes
pub length-ring : (order : RingLists) (r : ℕ) → IsRings order → length (list_of order r) ≤ order.nodes
length-ring order r rings =
    omega (arith, length-le-total order.lists r, total_length-le order.nodes order.lists rings.once rings.inside)

-- where there are two rings, one that isn't in the first is in the second
pub in_second : (order : RingLists) (v : ℕ) → length order.lists ≡ 2 → times_in_all v order.lists ≡ times v (list_of order 0) + times v (list_of order 1)
in_second order v two = by order.lists two
  where
    by : (lists : List (List ℕ)) → length lists ≡ 2 → times_in_all v lists ≡ times v (get_or lists 0 []) + times v (get_or lists 1 [])
    by [] h = absurd (omega (arith, h))
    by (a ∷ []) h = absurd (omega (arith, h))
    by (a ∷ b ∷ []) h = omega arith
    by (a ∷ b ∷ c ∷ ds) h = absurd (omega (arith, h))

-- the rings where a reference goes to ring s
abbrev pub handed : RingLists → ℕ → ℕ → RingLists
handed order c s = pushed_back (unlinked order c) s c

module _ (order : RingLists) (c r s : ℕ) (rings : IsRings order) (two : length order.lists ≡ 2) (r_in : r < 2) (s_in : s < 2) (apart : r ≡ s → ⊥) (some : 1 ≤ times c (list_of order r)) where
  abbrev after : RingLists
  after = handed order c s

  taken : (q : ℕ) → q < 2 → list_of (unlinked order c) q ≡ without c (list_of order q)
  taken q low = get_or-map (without c) order.lists q [] [] (omega (arith, two))

  pub handed-from : list_of after r ≡ without c (list_of order r)
  handed-from = get_or-set_other (unlinked order c).lists s r (list_of (unlinked order c) s ++ c ∷ []) [] apart ∙ taken r r_in

  pub handed-to : list_of after s ≡ list_of order s ++ c ∷ []
  handed-to =
      get_or-set_same (unlinked order c).lists s (list_of (unlinked order c) s ++ c ∷ []) [] (omega (arith, length-map order.lists (without c), two))
      ∙ ap (λ (xs : List ℕ). xs ++ c ∷ []) (taken s s_in ∙ without-none c (list_of order s) (not_elsewhere order r s c rings apart some))

  pub handed-two : length after.lists ≡ 2
  handed-two = length-set (unlinked order c).lists s (list_of (unlinked order c) s ++ c ∷ []) ∙ length-map order.lists (without c) ∙ two

  pub handed-fewer : length (list_of after r) + 1 ≡ length (list_of order r)
  handed-fewer = omega (arith, ap (length {A = ℕ}) handed-from, length-without c (list_of order r), once-there order r c rings, some)

  pub handed-more : length (list_of after s) ≡ length (list_of order s) + 1
  handed-more = ap (length {A = ℕ}) handed-to ∙ length-append (list_of order s) (c ∷ [])

  -- it is in neither other place
  pub handed-gone : times c (list_of after r) ≡ 0
  handed-gone = ap (times c) handed-from ∙ times-without c c (list_of order r) ∙ cond-true {A = ℕ} (c == c) 0 (times c (list_of order r)) (eq-eqb c c refl)

  pub handed-come : times c (list_of after s) ≡ 1
  handed-come =
      ap (times c) handed-to ∙ times-append c (list_of order s) (c ∷ [])
      ∙ omega (arith, not_elsewhere order r s c rings apart some, times-same c c [] refl)

  -- the others stay
  pub handed-other_from : (d : ℕ) → (d ≡ c → ⊥) → times d (list_of after r) ≡ times d (list_of order r)
  handed-other_from d ne =
      ap (times d) handed-from ∙ times-without c d (list_of order r) ∙ cond-false {A = ℕ} (d == c) 0 (times d (list_of order r)) (ne_eqb d c ne)

  pub handed-other_to : (d : ℕ) → (d ≡ c → ⊥) → times d (list_of after s) ≡ times d (list_of order s)
  handed-other_to d ne =
      ap (times d) handed-to ∙ times-append d (list_of order s) (c ∷ [])
      ∙ omega (arith, times-other d c [] (λ is. ne (sym is)))

  -- a reference stands as often as before without c, and c once more
  handed-all : (v : ℕ) → times_in_all v after.lists ≡ times_in_all v (unlinked order c).lists + times v (c ∷ [])
  handed-all v =
      let xs = list_of (unlinked order c) s in
      omega (arith, all-set v (unlinked order c).lists s (xs ++ c ∷ []) (omega (arith, length-map order.lists (without c), two)), times-append v xs (c ∷ []))

  -- each is in one ring, as before
  pub handed-each : (d : ℕ) → times_in_all d order.lists ≡ 1 → times_in_all d after.lists ≡ 1
  handed-each d one =
      ⊎_elim
      (λ is. ap (λ (v : ℕ). times_in_all v after.lists) is ∙ omega (arith, handed-all c, all-without c c order.lists, cond-true {A = ℕ} (c == c) 0 (times_in_all c order.lists) (eq-eqb c c refl), times-same c c [] refl))
      (λ ne. omega (arith, handed-all d, all-without c d order.lists, cond-false {A = ℕ} (d == c) 0 (times_in_all d order.lists) (ne_eqb d c ne), times-other d c [] (λ is. ne (sym is)), one))
      (cases_eq d c)

-- a list that isn't empty has a first node, which stands in it
pub first-there : (list : List ℕ) → 0 < length list → (c : ℕ) × (first_in list ≡ Some c) × (1 ≤ times c list)
first-there [] some = absurd (omega (arith, some))
first-there (c ∷ list) some = (c, refl, omega (arith, times-same c c list refl))

pub first-stands : (list : List ℕ) (c : ℕ) → first_in list ≡ Some c → 1 ≤ times c list
first-stands [] c is = absurd (cc)
first-stands (d ∷ list) c is = let same : d ≡ c = cc in omega (arith, times-same c d list same)

-- a free node becomes the last of ring 1
pub pushed-second : (order : RingLists) (c : ℕ) → length order.lists ≡ 2 → list_of (pushed_back order 1 c) 1 ≡ list_of order 1 ++ c ∷ []
pushed-second order c two = get_or-set_same order.lists 1 (list_of order 1 ++ c ∷ []) [] (omega (arith, two))

pub pushed-first : (order : RingLists) (c : ℕ) → list_of (pushed_back order 1 c) 0 ≡ list_of order 0
pushed-first order c = get_or-set_other order.lists 1 0 (list_of order 1 ++ c ∷ []) [] (λ is. omega (arith, is))

pub pushed-two : (order : RingLists) (c : ℕ) → length order.lists ≡ 2 → length (pushed_back order 1 c).lists ≡ 2
pushed-two order c two = length-set order.lists 1 (list_of order 1 ++ c ∷ []) ∙ two

pushed-all : (order : RingLists) (c v : ℕ) → length order.lists ≡ 2 → times_in_all v (pushed_back order 1 c).lists ≡ times_in_all v order.lists + times v (c ∷ [])
pushed-all order c v two =
    omega (arith, all-set v order.lists 1 (list_of order 1 ++ c ∷ []) (omega (arith, two)), times-append v (list_of order 1) (c ∷ []))

pub pushed-listed : (order : RingLists) (c : ℕ) → length order.lists ≡ 2 → AreListed order c → AreListed (pushed_back order 1 c) (c + 1)
pushed-listed order c two h = record {
  below = λ v low.
      ⊎_elim
      (λ is. omega (arith, pushed-all order c v two, h.behind v (omega (arith, is)), times-same v c [] (sym is)))
      (λ ne. omega (arith, pushed-all order c v two, h.below v (omega (arith, low, ne)), times-other v c [] (λ is. ne (sym is))))
      (cases_eq v c);
  behind = λ v high. omega (arith, pushed-all order c v two, h.behind v (omega (arith, high)), times-other v c [] (λ is. omega (arith, is, high)));
}
