-- What a change of labels makes of sizes and rings.
use Rattle.std.proofs.Common.{◌≡◌, ◌≢◌, ℕ, ◌+◌, ◌-◌, ◌≤◌, ◌<◌, ◌^◌, Bool, true, false, List, [], ◌∷◌, length, get_or, set, refl, ap, sym, ◌∙◌, subst, arith, ⊎_elim}
use Rattle.std.specs.Prelude.{if◌then◌else◌, ◌==◌}
use Rattle.std.specs.List.{swap}
use Rattle.std.proofs.lemmas.Bool.{cases_lt, cases_eq, eqb-false, eq-eqb, ne_eqb, cond-true, cond-false}
use Rattle.std.proofs.lemmas.List.{length-map, length-set, get_or-set_same, get_or-set_other}
use Rattle.std.proofs.lemmas.List.Edits.{Swapped, length-swap, swapped_from_swap}
use Rattle.order_ints.specs.declared.literal.Lit.{Lit}
use Rattle.order_ints.specs.declared.atom.Atom.{Atom}
use Rattle.order_ints.specs.declared.atom.Atom.TheVariants.{True, False, Of}
use Rattle.order_ints.specs.Label.{IsOwnLabel}
use Rattle.index_ring.specs.Lists.{times}
use Rattle.equation_store.specs.Class.{is_of, IsWalk, class_size}
use Rattle.equation_store.specs.Merge.{replaced, size_in, IsReplacement}
use Rattle.equation_store.specs.Ring.{behind, walk_of, place_after, ring_of}
use Rattle.equation_store.specs.Store.{IsKept}
use Rattle.equation_store.proofs.Replaced.{relabelled, IsLabelled-relabelled}
use Rattle.equation_store.proofs.Previous.{was-own}
use Rattle.equation_store.proofs.Counts.{walk-from, counted-changed, class_size-changed}
use Rattle.equation_store.proofs.Steps.{walk_of-same, place_after-same, IsOneRing, joins}
use Rattle.equation_store.proofs.Rings.{ring-counted, some-size, rings-apart, not-within, ring-low}

-- the ring of a class that keeps its label, where the class of x gets a new one: it has taken in the ring of x where the new label is
-- of the class
pub record IsNewRing (sizes next sizes_after next_after : List ℕ) (x : ℕ) (new : Atom) (y : ℕ) : Type 0 where
  pub size : size_in sizes_after y ≡ size_in sizes y + (if is_of y new then size_in sizes x else 0)
  pub members : (v : ℕ) → times v (ring_of sizes_after next_after y) ≡ times v (ring_of sizes next y) + (if is_of y new then times v (ring_of sizes next x) else 0)
  pub closed : place_after (behind next_after) y (size_in sizes_after y) ≡ y

module _ (labels : List Atom) (sizes next : List ℕ) (k : IsKept labels sizes next) (x : ℕ) (new : Atom) (r : IsReplacement labels x new) where
  -- rings and sizes in which the class of the new label has taken the members of x in
  pub kept-by : (sizes_after next_after : List ℕ) → length sizes_after ≡ length sizes → length next_after ≡ length next → ((y : ℕ) → 1 ≤ y → y ≤ length labels → IsOwnLabel labels y → y ≢ x → IsNewRing sizes next sizes_after next_after x new y) → IsKept (relabelled labels x new) sizes_after next_after
  kept-by sizes_after next_after size_count next_count rings = record {
    small = omega (arith, k.small, shorter);
    sizes_are = record { labelled = IsLabelled-relabelled labels x new r k.sizes_are.labelled; count = omega (arith, size_count, k.sizes_are.count, shorter); sized = sized };
    count = omega (arith, next_count, k.count, shorter);
    walked = walked;
    closed = closed;
  }
    where
      shorter : length (relabelled labels x new) ≡ length labels
      shorter = length-map labels (replaced x new)

      alike : (u : Bool) (i j m n o p : ℕ) → i ≡ m + (if u then n else 0) → m ≡ o → n ≡ p → j ≡ o + (if u then p else 0) → i ≡ j
      alike true i j m n o p a b c d = omega arith
      alike false i j m n o p a b c d = omega arith

      sized : (y : ℕ) → 1 ≤ y → y ≤ length (relabelled labels x new) → IsOwnLabel (relabelled labels x new) y → size_in sizes_after y ≡ class_size (relabelled labels x new) y
      sized y low high own =
          let within : y ≤ length labels = omega (arith, shorter) in
          let was : IsOwnLabel labels y × ((y == x) ≡ false) = was-own labels x new r y low within own in
          let ne : y ≡ x → ⊥ = eqb-false y x was.1 in
          alike (is_of y new) (size_in sizes_after y) (class_size (relabelled labels x new) y) (size_in sizes y) (size_in sizes x) (class_size labels y) (class_size labels x) (rings y low within was.0 ne).size (k.sizes_are.sized y low within was.0) (k.sizes_are.sized x r.low r.high r.own) (class_size-changed labels x new y ne)

      walked : (y : ℕ) → 1 ≤ y → y ≤ length (relabelled labels x new) → IsOwnLabel (relabelled labels x new) y → IsWalk (relabelled labels x new) y (ring_of sizes_after next_after y)
      walked y low high own =
          let within : y ≤ length labels = omega (arith, shorter) in
          let was : IsOwnLabel labels y × ((y == x) ≡ false) = was-own labels x new r y low within own in
          let ne : y ≡ x → ⊥ = eqb-false y x was.1 in
          walk-from (relabelled labels x new) y (ring_of sizes_after next_after y)
          (counted-changed labels x new y (ring_of sizes next y) (ring_of sizes next x) (ring_of sizes_after next_after y) ne (ring-counted labels sizes next k x r.low r.high r.own) (ring-counted labels sizes next k y low within was.0) (rings y low within was.0 ne).members)

      closed : (y : ℕ) → 1 ≤ y → y ≤ length (relabelled labels x new) → IsOwnLabel (relabelled labels x new) y → place_after (behind next_after) y (size_in sizes_after y) ≡ y
      closed y low high own =
          let within : y ≤ length labels = omega (arith, shorter) in
          let was : IsOwnLabel labels y × ((y == x) ≡ false) = was-own labels x new r y low within own in
          (rings y low within was.0 (eqb-false y x was.1)).closed

  -- a class that becomes constant is relabelled alone
  pub kept-constant : ((y : ℕ) → is_of y new ≡ false) → IsKept (relabelled labels x new) sizes next
  kept-constant constant = kept-by sizes next refl refl (λ y low high own ne. record {
    size = at (is_of y new) (constant y) (size_in sizes y) (size_in sizes x);
    members = λ v. at (is_of y new) (constant y) (times v (ring_of sizes next y)) (times v (ring_of sizes next x));
    closed = k.closed y low high own;
  })
    where
      at : (u : Bool) → u ≡ false → (i j : ℕ) → i ≡ i + (if u then j else 0)
      at true e i j = cc
      at false e i j = omega arith

-- a class that takes another one in
module _ (labels : List Atom) (sizes next : List ℕ) (k : IsKept labels sizes next) (x : ℕ) (m : Lit) (r : IsReplacement labels x (Of m)) (sizes_after next_after : List ℕ) (e : sizes_after ≡ set sizes (m.var - 1) (size_in sizes m.var + size_in sizes x)) (f : next_after ≡ swap next (m.var - 1) (x - 1)) where
  apart : m.var ≢ x
  apart = eqb-false m.var x r.other

  swapped : Swapped (λ i. get_or next i 0) (λ i. get_or next_after i 0) (m.var - 1) (x - 1)
  swapped = swapped_from_swap next next_after (m.var - 1) (x - 1) 0 (omega (arith, k.count, r.label.0, r.label.1)) (omega (arith, k.count, r.low, r.high)) f

  others-stay : (u : ℕ) → 1 ≤ u → u ≢ m.var → u ≢ x → behind next_after u ≡ behind next u
  others-stay u low not_m not_x = swapped.2 (u - 1) (λ g. not_m (omega (arith, r.label.0))) (λ g. not_x (omega (arith, r.low)))

  size-joined : size_in sizes_after m.var ≡ size_in sizes m.var + size_in sizes x
  size-joined =
      ap (λ (l : List ℕ). size_in l m.var) e
      ∙ get_or-set_same sizes (m.var - 1) (size_in sizes m.var + size_in sizes x) 0 (omega (arith, k.sizes_are.count, r.label.0, r.label.1))

  size-stays : (y : ℕ) → 1 ≤ y → y ≢ m.var → size_in sizes_after y ≡ size_in sizes y
  size-stays y low ne =
      ap (λ (l : List ℕ). size_in l y) e
      ∙ get_or-set_other sizes (m.var - 1) (y - 1) (size_in sizes m.var + size_in sizes x) 0 (λ i. ne (omega (arith, r.label.0)))

  -- the class of the new label has both rings as one
  joined : IsOneRing (behind next) (behind next_after) m.var x (size_in sizes m.var) (size_in sizes x)
  joined =
      joins (behind next) (behind next_after) m.var x (size_in sizes m.var) (size_in sizes x) swapped.0 swapped.1
      (λ u here. others-stay u (low u here))
      (some-size labels sizes next k m.var r.label.0 r.label.1 r.label.2)
      (some-size labels sizes next k x r.low r.high r.own)
      (k.closed m.var r.label.0 r.label.1 r.label.2)
      (k.closed x r.low r.high r.own)
      (λ u. rings-apart labels sizes next k x m.var u apart r.low r.high r.own r.label.0 r.label.1 r.label.2)
    where
      low : (u : ℕ) → 1 ≤ times u (ring_of sizes next m.var) + times u (ring_of sizes next x) → 1 ≤ u
      low u here =
          ⊎_elim (λ (none : u < 1). absurd (omega (arith, here, (ring-counted labels sizes next k m.var r.label.0 r.label.1 r.label.2).outside u (λ l h. omega arith), (ring-counted labels sizes next k x r.low r.high r.own).outside u (λ l h. omega arith))))
          (λ some. some) (cases_lt u 1)

  new-ring : (y : ℕ) → 1 ≤ y → y ≤ length labels → IsOwnLabel labels y → y ≢ x → IsNewRing sizes next sizes_after next_after x (Of m) y
  new-ring y low high own ne = ⊎_elim same other (cases_eq m.var y)
    where
      same : m.var ≡ y → IsNewRing sizes next sizes_after next_after x (Of m) y
      same g =
          let t : (m.var == y) ≡ true = eq-eqb m.var y g in
          let size : size_in sizes_after m.var ≡ size_in sizes m.var + size_in sizes x = size-joined in record {
            size = ap (size_in sizes_after) (sym g) ∙ size ∙ ap (λ (v : ℕ). size_in sizes v + size_in sizes x) g ∙ ap (λ (n : ℕ). size_in sizes y + n) (sym (cond-true (m.var == y) (size_in sizes x) 0 t));
            members = λ v. ap (λ (w : ℕ). times v (ring_of sizes_after next_after w)) (sym g)
                ∙ ap (λ (n : ℕ). times v (walk_of (behind next_after) m.var n)) size
                ∙ joined.members v
                ∙ ap (λ (w : ℕ). times v (ring_of sizes next w) + times v (ring_of sizes next x)) g
                ∙ ap (λ (n : ℕ). times v (ring_of sizes next y) + n) (sym (cond-true (m.var == y) (times v (ring_of sizes next x)) 0 t));
            closed = subst (λ (w : ℕ). place_after (behind next_after) w (size_in sizes_after w) ≡ w) g (ap (place_after (behind next_after) m.var) size ∙ joined.closed);
          }

      other : m.var ≢ y → IsNewRing sizes next sizes_after next_after x (Of m) y
      other g =
          let t : (m.var == y) ≡ false = ne_eqb m.var y g in
          let size : size_in sizes_after y ≡ size_in sizes y = size-stays y low (λ i. g (sym i)) in
          let stays : (u : ℕ) → 1 ≤ times u (ring_of sizes next y) → behind next_after u ≡ behind next u =
          λ u here. others-stay u (ring-low labels sizes next k y u low high own here)
          (not-within labels sizes next k m.var y u (λ i. g (sym i)) r.label.0 r.label.1 r.label.2 low high own here)
          (not-within labels sizes next k x y u ne r.low r.high r.own low high own here) in record {
            size = omega (arith, size, cond-false (m.var == y) (size_in sizes x) 0 t);
            members = λ v. ap (λ (n : ℕ). times v (walk_of (behind next_after) y n)) size
                ∙ ap (times v) (walk_of-same (behind next) (behind next_after) y (size_in sizes y) stays)
                ∙ omega (arith, cond-false (m.var == y) (times v (ring_of sizes next x)) 0 t);
            closed = ap (place_after (behind next_after) y) size ∙ place_after-same (behind next) (behind next_after) y (size_in sizes y) stays ∙ k.closed y low high own;
          }

  pub kept-joined : IsKept (relabelled labels x (Of m)) sizes_after next_after
  kept-joined =
      kept-by labels sizes next k x (Of m) r sizes_after next_after
      (ap length e ∙ length-set sizes (m.var - 1) (size_in sizes m.var + size_in sizes x))
      (ap length f ∙ length-swap next (m.var - 1) (x - 1)) new-ring

-- sizes of classes
class_size-bound : (view : List Atom) (x : ℕ) → class_size view x ≤ length view
class_size-bound [] x = omega arith
class_size-bound (a ∷ view) x = omega (arith, class_size-bound view x, at_most (is_of x a))
  where
    at_most : (t : Bool) → (if t then 1 else 0) ≤ 1
    at_most true = omega arith
    at_most false = omega arith

pub sizes-fit : (labels : List Atom) (sizes next : List ℕ) → IsKept labels sizes next → (x : ℕ) (m : Lit) → IsReplacement labels x (Of m) → size_in sizes m.var + size_in sizes x < 2 ^ 32
sizes-fit labels sizes next k x m r =
    omega (arith, k.small, k.sizes_are.sized x r.low r.high r.own, k.sizes_are.sized m.var r.label.0 r.label.1 r.label.2, class_size-bound labels x, class_size-bound labels m.var)

-- an atom that is no literal is of no variable
pub is_of-constant : (a : Atom) → ((l : Lit) → a ≡ Of l → ⊥) → (y : ℕ) → is_of y a ≡ false
is_of-constant True h y = refl
is_of-constant False h y = refl
is_of-constant (Of l) h y = absurd (h l refl)
