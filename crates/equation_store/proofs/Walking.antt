-- A walk along a class that gives each member's label its new value.
use Rattle.std.proofs.Common.{◌≡◌, ℕ, ◌+◌, ◌-◌, ◌≤◌, ◌<◌, false, List, [], ◌∷◌, ◌++◌, map, length, get_or, set, take, drop, refl, ap, sym, ◌∙◌, arith, ⊎_elim}
use Rattle.std.specs.Prelude.{if◌then◌else◌, nat_lt}
use Rattle.std.proofs.lemmas.Bool.{cases_eq, cond-true, cond-false, lt-ltb, le-ltb, false_from_ne_true}
use Rattle.std.proofs.lemmas.List.{length-map, length-set, take-append-drop, drop_more, take_more, take_all, get_or_default, get_or-set_same, get_or-set_other, get_or-map, ext_get_or}
use Rattle.order_ints.specs.declared.atom.Atom.{Atom}
use Rattle.order_ints.specs.declared.atom.Atom.TheVariants.{True}
use Rattle.order_ints.specs.View.{label_of}
use Rattle.order_ints.specs.Label.{variable}
use Rattle.index_ring.specs.Lists.{times}
use Rattle.index_ring.proofs.Times.{times-same, times-other, times-append}
use Rattle.equation_store.specs.Class.{is_of, IsMember, IsWalk}
use Rattle.equation_store.specs.Merge.{replaced}
use Rattle.equation_store.specs.Ring.{walk_of, place_after}
use Rattle.equation_store.proofs.Replaced.{replaced-other}
use Rattle.equation_store.proofs.Walk.{cases_member}
use Rattle.equation_store.proofs.Counts.{times-count, member-from}
use Rattle.equation_store.proofs.Steps.{length-walk_of, get_or-walk_of, place_after-more}

-- one of two atoms, by whether something was counted
abbrev picked : ℕ → Atom → Atom → Atom
picked n a b = if nat_lt 0 n then a else b

picked-some : (n : ℕ) (a b : Atom) → 1 ≤ n → picked n a b ≡ a
picked-some n a b h = cond-true (nat_lt 0 n) a b (lt-ltb 0 n (omega arith))

picked-none : (n : ℕ) (a b : Atom) → n ≡ 0 → picked n a b ≡ b
picked-none n a b h = cond-false (nat_lt 0 n) a b (le-ltb 0 n (omega arith))

-- the first k members of the walk have their new labels
pub record IsWalking (old labels : List Atom) (x : ℕ) (new : Atom) (walk : List ℕ) (k : ℕ) : Type 0 where
  pub size : length labels ≡ length old
  pub label : (p : ℕ) → p < length old → get_or labels p True ≡ picked (times (p + 1) (take k walk)) (replaced x new (get_or old p True)) (get_or old p True)

-- the member of the walk that is at hand
module _ (old labels : List Atom) (x : ℕ) (new : Atom) (walk : List ℕ) (h : IsWalk old x walk) (k member : ℕ) (w : IsWalking old labels x new walk k) (more : k < length walk) (at_hand : member ≡ get_or walk k 0) where
  split : walk ≡ take k walk ++ member ∷ drop (k + 1) walk
  split =
      sym (take-append-drop k walk)
      ∙ ap (λ (l : List ℕ). take k walk ++ l) (drop_more walk k 0 more ∙ ap (λ (v : ℕ). v ∷ drop (k + 1) walk) (sym at_hand))

  counted : (q : ℕ) → times q walk ≡ times q (take k walk) + times q (member ∷ drop (k + 1) walk)
  counted q = ap (times q) split ∙ times-append q (take k walk) (member ∷ drop (k + 1) walk)

  pub is-member : IsMember old x member
  is-member = member-from old x member walk h (omega (arith, counted member, times-same member member (drop (k + 1) walk) refl))

  once : times member walk ≡ 1
  once = sym (times-count member walk) ∙ h.once member is-member

  not-yet : times member (take k walk) ≡ 0
  not-yet = omega (arith, counted member, once, times-same member member (drop (k + 1) walk) refl)

  taken : take (k + 1) walk ≡ take k walk ++ member ∷ []
  taken = take_more walk k 0 more ∙ ap (λ (v : ℕ). take k walk ++ v ∷ []) (sym at_hand)

  counted-more : (q : ℕ) → times q (take (k + 1) walk) ≡ times q (take k walk) + times q (member ∷ [])
  counted-more q = ap (times q) taken ∙ times-append q (take k walk) (member ∷ [])

  pub walking-more : (written : List Atom) (d : Atom) → written ≡ set labels (member - 1) (replaced x new (get_or labels (member - 1) d)) → IsWalking old written x new walk (k + 1)
  walking-more written d e = record {
    size = ap length e ∙ length-set labels (member - 1) (replaced x new (get_or labels (member - 1) d)) ∙ w.size;
    label = λ p low. ap (λ (l : List Atom). get_or l p True) e ∙ ⊎_elim (same p low) (other p low) (cases_eq p (member - 1));
  }
    where
      place : member - 1 < length labels
      place = omega (arith, is-member.0, is-member.1, w.size)

      same : (p : ℕ) → p < length old → p ≡ member - 1 → get_or (set labels (member - 1) (replaced x new (get_or labels (member - 1) d))) p True ≡ picked (times (p + 1) (take (k + 1) walk)) (replaced x new (get_or old p True)) (get_or old p True)
      same p low g =
          let up : p + 1 ≡ member = omega (arith, is-member.0) in
          let none : times (p + 1) (take k walk) ≡ 0 = ap (λ (q : ℕ). times q (take k walk)) up ∙ not-yet in
          let some : 1 ≤ times (p + 1) (take (k + 1) walk) = omega (arith, counted-more (p + 1), times-same (p + 1) member [] (sym up)) in
          ap (λ (q : ℕ). get_or (set labels (member - 1) (replaced x new (get_or labels (member - 1) d))) q True) g
          ∙ get_or-set_same labels (member - 1) (replaced x new (get_or labels (member - 1) d)) True place
          ∙ ap (replaced x new) (get_or_default labels (member - 1) d True place ∙ ap (λ (q : ℕ). get_or labels q True) (sym g) ∙ w.label p low ∙ picked-none (times (p + 1) (take k walk)) _ _ none)
          ∙ sym (picked-some (times (p + 1) (take (k + 1) walk)) _ _ some)

      other : (p : ℕ) → p < length old → (p ≡ member - 1 → ⊥) → get_or (set labels (member - 1) (replaced x new (get_or labels (member - 1) d))) p True ≡ picked (times (p + 1) (take (k + 1) walk)) (replaced x new (get_or old p True)) (get_or old p True)
      other p low ne =
          let apart : times (p + 1) (take (k + 1) walk) ≡ times (p + 1) (take k walk) = omega (arith, counted-more (p + 1), times-other (p + 1) member [] (λ g. ne (omega arith))) in
          get_or-set_other labels (member - 1) p (replaced x new (get_or labels (member - 1) d)) True ne
          ∙ w.label p low
          ∙ ap (λ (n : ℕ). picked n (replaced x new (get_or old p True)) (get_or old p True)) (sym apart)

-- the same of a walk along links
module _ (old labels : List Atom) (x : ℕ) (new : Atom) (f : ℕ → ℕ) (n k member : ℕ) (h : IsWalk old x (walk_of f x n)) (w : IsWalking old labels x new (walk_of f x n) k) (at : member ≡ place_after f x k) (more : k < n) where
  longer : k < length (walk_of f x n)
  longer = omega (arith, more, length-walk_of f x n)

  hand : member ≡ get_or (walk_of f x n) k 0
  hand = at ∙ sym (get_or-walk_of f x n k more)

  pub member-here : IsMember old x member
  member-here = is-member old labels x new (walk_of f x n) h k member w longer hand

  pub walking-here : (written : List Atom) (d : Atom) → written ≡ set labels (member - 1) (replaced x new (get_or labels (member - 1) d)) → IsWalking old written x new (walk_of f x n) (k + 1)
  walking-here = walking-more old labels x new (walk_of f x n) h k member w longer hand

  pub place-behind : f member ≡ place_after f x (k + 1)
  place-behind = ap f at ∙ sym (place_after-more f x k)

-- after the last member each label has its new value
pub walking-all : (old labels : List Atom) (x : ℕ) (new : Atom) (walk : List ℕ) (k : ℕ) → IsWalk old x walk → IsWalking old labels x new walk k → length walk ≤ k → labels ≡ map (replaced x new) old
walking-all old labels x new walk k h w all =
    ext_get_or True labels (map (replaced x new) old) (w.size ∙ sym (length-map old (replaced x new)))
    (λ p low. let within : p < length old = omega (arith, w.size) in
    w.label p within
    ∙ ap (λ (l : List ℕ). picked (times (p + 1) l) (replaced x new (get_or old p True)) (get_or old p True)) (take_all k walk all)
    ∙ ⊎_elim (member p within) (other p within) (cases_member old x (p + 1))
    ∙ sym (get_or-map (replaced x new) old p True True within))
  where
    at : (p : ℕ) → p < length old → label_of old (p + 1) ≡ get_or old p True
    at p low =
        let e : p + 1 - 1 ≡ p = omega arith in
        ap (λ (q : ℕ). get_or old q (variable (p + 1))) e ∙ get_or_default old p (variable (p + 1)) True low

    member : (p : ℕ) → p < length old → IsMember old x (p + 1) → picked (times (p + 1) walk) (replaced x new (get_or old p True)) (get_or old p True) ≡ replaced x new (get_or old p True)
    member p low m = picked-some (times (p + 1) walk) _ _ (omega (arith, times-count (p + 1) walk, h.once (p + 1) m))

    other : (p : ℕ) → p < length old → ¬ IsMember old x (p + 1) → picked (times (p + 1) walk) (replaced x new (get_or old p True)) (get_or old p True) ≡ replaced x new (get_or old p True)
    other p low ne =
        let not_of : is_of x (get_or old p True) ≡ false = false_from_ne_true _ (λ e. ne (omega arith, omega arith, ap (is_of x) (at p low) ∙ e)) in
        picked-none (times (p + 1) walk) _ _ (sym (times-count (p + 1) walk) ∙ h.others (p + 1) ne)
        ∙ sym (replaced-other x new (get_or old p True) not_of)
