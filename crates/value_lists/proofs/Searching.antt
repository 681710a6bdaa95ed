-- A search by halving finds each listed value.
use Rattle.std.proofs.Common.{◌≡◌, ℕ, zero, suc, ◌<◌, ◌≤◌, Bool, true, false, ◌||◌, List, [], ◌∷◌, length, get_or, ℤ, pos, ◌<ℤ◌, ◌≤ℤ◌, Result, Ok, Err, is_ok, refl, sym, ap, subst, ◌∙◌, ◌+ℤ◌, ◌⊎◌, inl, inr, Ordering, Less, Equal, Greater, arith}
use Rattle.std.specs.List.{list_any}
use Rattle.std.specs.List.Sorted.{IsBinarySearchResult, IsNonDecreasingBy}
use Rattle.std.specs.Ordering.{MatchOrdering, int_cmp, int_eq, ordering_index}
use Rattle.std.proofs.lemmas.Int.{ints}
use Rattle.std.proofs.lemmas.Cmp.{int_ranked}
use Rattle.std.proofs.lemmas.Bool.{cases_lt}
use Rattle.std.proofs.lemmas.Bool.Decides.{Decides-int_eq}
use Rattle.order_ints.specs.OrderMade.{AscendFrom}
use Rattle.value_lists.specs.ValueLists.{Ascends}

-- ascending by places
behind : (v : ℤ) (vs : List ℤ) (j : ℕ) (d : ℤ) → AscendFrom v vs → j < length vs → v <ℤ get_or vs j d
behind v [] j d h l = absurd (omega arith)
behind v (w ∷ vs) zero d h l = h.0
behind v (w ∷ vs) (suc j) d h l = let up = behind w vs j d h.1 (omega arith) in omega (arith, ints, h.0, up)

places : (v : ℤ) (vs : List ℤ) (i j : ℕ) (d : ℤ) → AscendFrom v vs → i ≤ j → j < length (v ∷ vs) → get_or (v ∷ vs) i d ≤ℤ get_or (v ∷ vs) j d
places v vs zero zero d h le l = omega (arith, ints)
places v vs zero (suc j) d h le l = let up = behind v vs j d h (omega arith) in omega (arith, ints, up)
places v vs (suc i) zero d h le l = absurd (omega arith)
places v [] (suc i) (suc j) d h le l = absurd (omega arith)
places v (w ∷ vs) (suc i) (suc j) d h le l = places w vs i j d h.1 (omega arith) (omega arith)

rises : (vs : List ℤ) (i j : ℕ) (d : ℤ) → Ascends vs → i ≤ j → j < length vs → get_or vs i d ≤ℤ get_or vs j d
rises [] i j d h le l = absurd (omega arith)
rises (v ∷ vs) i j d h le l = places v vs i j d h le l

-- what a comparison says
abbrev Rank : ℤ → ℤ → Ordering → Type 0
Rank a x o = MatchOrdering o (a <ℤ x) (a ≡ x) (x <ℤ a)

-- a greater number is compared no lower
index-rises : (a b x : ℤ) → a ≤ℤ b → ordering_index (int_cmp a x) ≤ ordering_index (int_cmp b x)
index-rises a b x le = by (int_cmp a x) (int_cmp b x) (int_ranked a x (int_cmp a x) refl) (int_ranked b x (int_cmp b x) refl)
  where
    by : (p q : Ordering) → Rank a x p → Rank b x q → ordering_index p ≤ ordering_index q
    by Less q h k = omega arith
    by Equal Less h k = absurd (omega (arith, ints, h, k, le))
    by Equal Equal h k = omega arith
    by Equal Greater h k = omega arith
    by Greater Less h k = absurd (omega (arith, ints, h, k, le))
    by Greater Equal h k = absurd (omega (arith, ints, h, k, le))
    by Greater Greater h k = omega arith

-- a value at a place is found by the test of the list
any-at : (vs : List ℤ) (x : ℤ) (i : ℕ) (d : ℤ) → i < length vs → get_or vs i d ≡ x → list_any (λ v. int_eq v x) vs ≡ true
any-at [] x i d l e = absurd (omega arith)
any-at (v ∷ vs) x zero d l e = rw ((Decides-int_eq v x).1 e) refl
any-at (v ∷ vs) x (suc i) d l e = or-true (int_eq v x) (any-at vs x i d (omega arith) e)
  where
    or-true : (b : Bool) {c : Bool} → c ≡ true → (b || c) ≡ true
    or-true true e = refl
    or-true false e = e

not-equal : (v x : ℤ) (b : Bool) → int_eq v x ≡ b → (v ≡ x → ⊥) → b ≡ false
not-equal v x true e n = absurd (n ((Decides-int_eq v x).0 e))
not-equal v x false e n = refl

any-none : (vs : List ℤ) (x : ℤ) → ((k : ℕ) → k < length vs → get_or vs k x ≡ x → ⊥) → list_any (λ v. int_eq v x) vs ≡ false
any-none [] x none = refl
any-none (v ∷ vs) x none =
    rw (not-equal v x (int_eq v x) refl (λ e. none 0 (omega arith) e), any-none vs x (λ k l e. none (suc k) (omega arith) e)) refl

equal-of : (a x : ℤ) → int_cmp a x ≡ Equal → a ≡ x
equal-of a x e = int_ranked a x Equal (sym e)

less-of : (a x : ℤ) → int_cmp a x ≡ Less → a <ℤ x
less-of a x e = int_ranked a x Less (sym e)

greater-of : (a x : ℤ) → int_cmp a x ≡ Greater → x <ℤ a
greater-of a x e = int_ranked a x Greater (sym e)

past : (vs : List ℤ) (i : ℕ) (d : ℤ) → length vs ≤ i → get_or vs i d ≡ d
past [] i d l = refl
past (v ∷ vs) zero d l = absurd (omega arith)
past (v ∷ vs) (suc i) d l = past vs i d (omega arith)

-- a place on either side of where the search ended has another value
apart-from : (vs : List ℤ) (x : ℤ) (i k : ℕ) → ((k : ℕ) (d : ℤ) → 0 ≤ k → k < i → int_cmp (get_or vs k d) x ≡ Less) → ((k : ℕ) (d : ℤ) → i ≤ k → k < length vs → int_cmp (get_or vs k d) x ≡ Greater)
    → k < length vs → get_or vs k x ≡ x → (k < i) ⊎ (i ≤ k) → ⊥
apart-from vs x i k low high l e (inl below) = let h = less-of (get_or vs k x) x (low k x (omega arith) below) in omega (arith, ints, h, e)
apart-from vs x i k low high l e (inr above) = let h = greater-of (get_or vs k x) x (high k x above l) in omega (arith, ints, h, e)

pub found : (vs : List ℤ) (x : ℤ) (r : Result ℕ ℕ) → Ascends vs → IsBinarySearchResult (λ y. int_cmp y x) vs r → is_ok r ≡ list_any (λ v. int_eq v x) vs
found vs x (Ok i) up h =
    let other : ℤ = x +ℤ pos 1 in
    let same : get_or vs i other ≡ x = equal-of _ x (h other) in
    sym (any-at vs x i other (within (cases_lt i (length vs)) same) same)
  where
    within : (i < length vs) ⊎ (length vs ≤ i) → get_or vs i (x +ℤ pos 1) ≡ x → i < length vs
    within (inl l) e = l
    within (inr l) e = absurd (omega (arith, ints, past vs i (x +ℤ pos 1) l, e))
found vs x (Err i) up h =
    let parted = h (λ a b d le l. index-rises (get_or vs a d) (get_or vs b d) x (rises vs a b d up le l)) in
    sym (any-none vs x (λ k l e. apart-from vs x i k parted.0 parted.1 l e (cases_lt k i)))

-- the same where the value that is looked for is another's
pub found-same : (vs : List ℤ) (x y : ℤ) (r : Result ℕ ℕ) → y ≡ x → Ascends vs → IsBinarySearchResult (λ z. int_cmp z y) vs r → is_ok r ≡ list_any (λ v. int_eq v x) vs
found-same vs x y r e up h = found vs x r up (subst (λ (w : ℤ). IsBinarySearchResult (λ z. int_cmp z w) vs r) e h)
