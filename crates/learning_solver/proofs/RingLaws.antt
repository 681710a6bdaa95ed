-- The ring of variables: each stands in it, whatever moves to the front.
use Rattle.std.proofs.Common.{◌≡◌, ℕ, zero, suc, ◌+◌, ◌≤◌, ◌<◌, List, [], ◌∷◌, ◌++◌, length, map, Option, Some, None, Bool, true, false, not, is_some, ◌⊎◌, refl, ap, sym, ◌∙◌, subst, arith, ⊎_elim, append_assoc}
use Rattle.std.specs.Prelude.{if◌then◌else◌, ◌==◌}
use Rattle.std.specs.Option.{option_map}
use Rattle.std.proofs.Math.ListN.{length-set}
use Rattle.std.proofs.lemmas.Bool.{cases_eq, cases_lt, cond-true, cond-false, eq-eqb, ne_eqb}
use Rattle.std.proofs.lemmas.List.{get_or-map, length-map}
use Rattle.index_ring.specs.Lists.{RingLists, IsRings, IsFree, Stands, list_of, times, times_in_all, without, unlinked, pushed_front, no_lists, first_in, after_in}
use Rattle.index_ring.proofs.Times.{times-same, times-other, times-append, times-without, all-set, all-get, all-without, all-empty, get-set, cut}
use Rattle.index_ring.proofs.Seen.{after_in-cut}
use Rattle.literal_trail.specs.declared.entry.Entry.{Entry}
use Rattle.literal_trail.specs.Trail.{Trail, entry_of, value_in}
use Rattle.learning_solver.specs.Order.{IsRing, IsFreeIn}
use Rattle.index_ring.specs.Lists.{rest_from}

-- what stands is not free
pub stands-taken : (ring : RingLists) (v : ℕ) → Stands ring 0 v → ¬ IsFree ring v
stands-taken ring v stands free = omega (arith, all-get v ring.lists 0)

-- what stands in the ring is a variable
pub stands-variable : (vars : ℕ) (ring : RingLists) (v : ℕ) → IsRing vars ring → Stands ring 0 v → (1 ≤ v) × (v ≤ vars)
stands-variable vars ring zero is stands = absurd (stands-taken ring 0 stands is.others)
stands-variable vars ring (suc v) is stands = (
  omega arith,
  ⊎_elim
      (λ (h : vars < suc v). absurd (omega (arith, is.rings.inside (suc v) (omega (arith, is.nodes)), all-get (suc v) ring.lists 0)))
      (λ (h : suc v ≤ vars). h)
      (cases_lt vars (suc v)),
)

module _ (vars : ℕ) (ring : RingLists) (is : IsRing vars ring) (v : ℕ) (low : 1 ≤ v) where
  -- the ring without the variable
  cut-list : list_of (unlinked ring v) 0 ≡ without v (list_of ring 0)
  cut-list = get_or-map (without v) ring.lists 0 [] [] (omega (arith, is.one))

  pub cut-free : IsFree (unlinked ring v) v
  cut-free = all-without v v ring.lists ∙ cond-true (v == v) 0 (times_in_all v ring.lists) (eq-eqb v v refl)

  -- and with it in front
  pub front-ring : IsRings (pushed_front (unlinked ring v) 0 v) → IsRing vars (pushed_front (unlinked ring v) 0 v)
  front-ring rings =
      let lists = map (without v) ring.lists in
      let long : length lists ≡ 1 = length-map ring.lists (without v) ∙ is.one in
      let list = v ∷ list_of (unlinked ring v) 0 in
      let here : (w : ℕ) → times w (list_of (pushed_front (unlinked ring v) 0 v) 0) ≡ times w list
      = λ w. ap (times w) (get-set lists 0 0 list (omega (arith, long))) in
      let rest : (w : ℕ) → times w (list_of (unlinked ring v) 0) ≡ (if w == v then 0 else times w (list_of ring 0))
      = λ w. ap (times w) cut-list ∙ times-without v w (list_of ring 0) in
      record {
        rings = rings;
        one = length-set lists 0 list ∙ long;
        nodes = is.nodes;
        all = λ w some most.
            ⊎_elim
            (λ (e : w ≡ v). omega (arith, here w, times-same w v (list_of (unlinked ring v) 0) (sym e)))
            (λ (ne : w ≡ v → ⊥).
            omega (
              arith,
              here w,
              times-other w v (list_of (unlinked ring v) 0) (λ e. ne (sym e)),
              rest w,
              cond-false (w == v) 0 (times w (list_of ring 0)) (ne_eqb w v ne),
              is.all w some most,
            ))
            (cases_eq w v);
        others =
            let ne : 0 ≡ v → ⊥ = λ e. omega arith in
            omega (
              arith,
              all-set 0 lists 0 list (omega (arith, long)),
              all-without v 0 ring.lists,
              cond-false (0 == v) 0 (times_in_all 0 ring.lists) (ne_eqb 0 v ne),
              is.others,
              times-other 0 v (list_of (unlinked ring v) 0) (λ e. ne (sym e)),
            );
      }

-- the ring while the variables below k are in it
pub record IsFilled (vars k : ℕ) (ring : RingLists) : Type 0 where
  pub rings : IsRings ring
  pub one : length ring.lists ≡ 1
  pub nodes : ring.nodes ≡ vars + 1
  pub below : (v : ℕ) → 1 ≤ v → v < k → Stands ring 0 v
  pub above : (v : ℕ) → k ≤ v → IsFree ring v
  pub others : IsFree ring 0

pub filled-none : (vars : ℕ) → IsRings (no_lists 1 (vars + 1)) → IsFilled vars 1 (no_lists 1 (vars + 1))
filled-none vars rings = record {
  rings = rings;
  one = refl;
  nodes = refl;
  below = λ v low high. absurd (omega arith);
  above = λ v h. all-empty v 1;
  others = all-empty 0 1;
}

pub filled-next : (vars k : ℕ) (ring : RingLists) → IsFilled vars k ring → 1 ≤ k → IsRings (pushed_front ring 0 k) → IsFilled vars (k + 1) (pushed_front ring 0 k)
filled-next vars k ring is some rings =
    let list = k ∷ list_of ring 0 in
    let inside : 0 < length ring.lists = omega (arith, is.one) in
    let here : (w : ℕ) → times w (list_of (pushed_front ring 0 k) 0) ≡ times w list
    = λ w. ap (times w) (get-set ring.lists 0 0 list inside) in
    let others : (w : ℕ) → (w ≡ k → ⊥) → times w list ≡ times w (list_of ring 0) = λ w ne. times-other w k (list_of ring 0) (λ e. ne (sym e)) in
    let free : (w : ℕ) → (w ≡ k → ⊥) → IsFree ring w → IsFree (pushed_front ring 0 k) w
    = λ w ne was. omega (arith, all-set w ring.lists 0 list inside, others w ne) in
    record {
      rings = rings;
      one = length-set ring.lists 0 list ∙ is.one;
      nodes = is.nodes;
      below = λ v low high.
          ⊎_elim
          (λ (e : v ≡ k). omega (arith, here v, times-same v k (list_of ring 0) (sym e)))
          (λ (ne : v ≡ k → ⊥). omega (arith, here v, others v ne, is.below v low (omega arith)))
          (cases_eq v k);
      above = λ v h. free v (λ e. omega arith) (is.above v (omega arith));
      others = free 0 (λ e. omega arith) is.others;
    }

pub filled-all : (vars k : ℕ) (ring : RingLists) → k ≡ vars + 1 → IsFilled vars k ring → IsRing vars ring
filled-all vars k ring e is = record {
  rings = is.rings;
  one = is.one;
  nodes = is.nodes;
  all = λ v low high. is.below v low (omega arith);
  others = is.others;
}

-- nothing is met before the first
pub rest-first : (list : List ℕ) → rest_from (first_in list) list ≡ list
rest-first [] = refl
rest-first (w ∷ list) = cond-true (w == w) (w ∷ list) (rest_from (Some w) list) (eq-eqb w w refl)

rest-cut : (v : ℕ) (front back : List ℕ) → times v front ≡ 0 → rest_from (Some v) (front ++ v ∷ back) ≡ v ∷ back
rest-cut v [] back none = cond-true (v == v) (v ∷ back) (rest_from (Some v) back) (eq-eqb v v refl)
rest-cut v (x ∷ front) back none =
    cond-false (x == v) (x ∷ front ++ v ∷ back) (rest_from (Some v) (front ++ v ∷ back)) (ne_eqb x v (λ e. omega (arith, none, times-same v x front e)))
    ∙ rest-cut v front back (omega (arith, none))

-- behind a member comes the rest of the list
pub rest-after : (v : ℕ) (list : List ℕ) → ((u : ℕ) → times u list ≤ 1) → 1 ≤ times v list → rest_from (Some v) list ≡ v ∷ rest_from (after_in v list) list
rest-after v list once stands =
    let parts = cut v list stands in
    let front = parts.0 in
    let back = parts.1 in
    let counted : (u : ℕ) → times u list ≡ times u front + times u (v ∷ back) = λ u. ap (times u) parts.2 ∙ times-append u front (v ∷ back) in
    let none : times v front ≡ 0 = omega (arith, once v, counted v, times-same v v back refl) in
    let here : rest_from (Some v) list ≡ v ∷ back = ap (rest_from (Some v)) parts.2 ∙ rest-cut v front back none in
    let next : after_in v list ≡ first_in back = ap (after_in v) parts.2 ∙ after_in-cut v front back none in
    here ∙ ap (λ (l : List ℕ). v ∷ l) (sym (ap (λ (o : Option ℕ). rest_from o list) next ∙ ap (rest_from (first_in back)) parts.2 ∙ behind v front back (λ u. omega (arith, once u, counted u))))
  where
    behind : (v : ℕ) (front back : List ℕ) → ((u : ℕ) → times u front + times u (v ∷ back) ≤ 1) → rest_from (first_in back) (front ++ v ∷ back) ≡ back
    behind v front [] once = refl
    behind v front (u ∷ back) once =
        ap (rest_from (Some u)) (sym (append_assoc front (v ∷ []) (u ∷ back)))
        ∙ rest-cut u (front ++ v ∷ []) back (omega (arith, once u, times-append u front (v ∷ []), times-same u u back refl))

-- what comes behind a member stands too
pub after-stands : (v w : ℕ) (list : List ℕ) → ((u : ℕ) → times u list ≤ 1) → 1 ≤ times v list → after_in v list ≡ Some w → 1 ≤ times w list
after-stands v w list once stands is =
    let parts = cut v list stands in
    let front = parts.0 in
    let back = parts.1 in
    let counted : (u : ℕ) → times u list ≡ times u front + times u (v ∷ back) = λ u. ap (times u) parts.2 ∙ times-append u front (v ∷ back) in
    let none : times v front ≡ 0 = omega (arith, once v, counted v, times-same v v back refl) in
    let next : first_in back ≡ Some w = sym (ap (after_in v) parts.2 ∙ after_in-cut v front back none) ∙ is in
    omega (arith, counted w, first-there w back next, grows w v back)
  where
    first-there : (w : ℕ) (back : List ℕ) → first_in back ≡ Some w → 1 ≤ times w back
    first-there w [] e = cc
    first-there w (u ∷ back) e = let same : u ≡ w = cc in omega (arith, times-same w u back same)

    grows : (w v : ℕ) (back : List ℕ) → times w back ≤ times w (v ∷ back)
    grows w v back = ⊎_elim (λ (e : v ≡ w). omega (arith, times-same w v back e)) (λ (ne : v ≡ w → ⊥). omega (arith, times-other w v back ne)) (cases_eq v w)

pub first-stands : (w : ℕ) (list : List ℕ) → first_in list ≡ Some w → 1 ≤ times w list
first-stands w [] e = cc
first-stands w (u ∷ list) e = let same : u ≡ w = cc in omega (arith, times-same w u list same)

-- a variable without a value has no entry
pub no-entry : (entries : List Entry) (v : ℕ) → value_in entries v ≡ None → entry_of entries v ≡ None
no-entry entries v none = by-entry (entry_of entries v) none
  where
    by-entry : (o : Option Entry) → option_map (λ (e : Entry). e.lit.positive) o ≡ None → o ≡ None
    by-entry None e = refl
    by-entry (Some entry) e = cc

-- a variable that stands in the ring and has no entry is free
pub free-there : (t : Trail) (ring : RingLists) (v : ℕ) → IsRing t.vars ring → Stands ring 0 v → entry_of t.entries v ≡ None → IsFreeIn t v
free-there t ring v is stands none =
    let range = stands-variable t.vars ring v is stands in record { low = range.0; high = range.1; free = none }

-- no value: no entry
pub free-told : (entries : List Entry) (v : ℕ) (o : Option Bool) (b : Bool) → o ≡ value_in entries v → is_some o ≡ not b → (b ≡ true → entry_of entries v ≡ None) × (entry_of entries v ≡ None → b ≡ true)
free-told entries v o b is told = (
  λ e. no-entry entries v (sym is ∙ none-told o (told ∙ ap not e)),
  λ none. not-false-told b (sym told ∙ ap (λ (p : Option Bool). is_some p) (is ∙ ap (λ (p : Option Entry). option_map (λ (e : Entry). e.lit.positive) p) none)),
)
  where
    none-told : (o : Option Bool) → is_some o ≡ false → o ≡ None
    none-told None e = refl
    none-told (Some x) e = cc

    not-false-told : (b : Bool) → not b ≡ false → b ≡ true
    not-false-told true e = refl
    not-false-told false e = cc

-- one of two free variables is free
pub either-free : (t : Trail) (v w u : ℕ) → IsFreeIn t v → IsFreeIn t w → (u ≡ v) ⊎ (u ≡ w) → IsFreeIn t u
either-free t v w u first second is =
    ⊎_elim (λ (e : u ≡ v). subst (IsFreeIn t) (sym e) first) (λ (e : u ≡ w). subst (IsFreeIn t) (sym e) second) is

-- the node behind one that stands
pub behind-stands : (vars : ℕ) (ring : RingLists) (v : ℕ) (o : Option ℕ) → IsRing vars ring → Stands ring 0 v → ((r : ℕ) → Stands ring r v → o ≡ after_in v (list_of ring r)) → (w : ℕ) → o ≡ Some w → Stands ring 0 w
behind-stands vars ring v o is stands behind w e =
    after-stands v w (list_of ring 0) (λ u. omega (arith, is.rings.once u, all-get u ring.lists 0)) stands (sym (behind 0 stands) ∙ e)

-- what is left from a node that stands
pub left-there : (vars : ℕ) (ring : RingLists) (v : ℕ) (o : Option ℕ) → IsRing vars ring → Stands ring 0 v → ((r : ℕ) → Stands ring r v → o ≡ after_in v (list_of ring r)) → rest_from (Some v) (list_of ring 0) ≡ v ∷ rest_from o (list_of ring 0)
left-there vars ring v o is stands behind =
    let list = list_of ring 0 in
    rest-after v list (λ u. omega (arith, is.rings.once u, all-get u ring.lists 0)) stands
    ∙ ap (λ (p : Option ℕ). v ∷ rest_from p list) (sym (behind 0 stands))

-- a variable that was still ahead, and isn't the one at hand
pub still-ahead : (v w : ℕ) (list : List ℕ) → (v ≡ w → ⊥) → 1 ≤ times w (v ∷ list) → 1 ≤ times w list
still-ahead v w list ne there = omega (arith, there, times-other w v list ne)

pub false-told : (b : Bool) → b ≡ false → b ≡ true → ⊥
false-told b fails holds = cc
