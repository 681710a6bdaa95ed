-- When the clauses of a product, and of quotient and rest, are true.
use Rattle.std.proofs.Common.{◌≡◌, ℕ, zero, suc, ◌+◌, ◌*◌, ◌<◌, ◌≤◌, Bool, true, false, not, ◌||◌, ◌&&◌, cond, List, [], ◌∷◌, ℤ, pos, negsuc, neg_ℤ, ◌+ℤ◌, ◌*ℤ◌, ◌≤ℤ◌, ◌<ℤ◌, refl, sym, ap, subst, ◌∙◌, arith}
use Rattle.std.specs.Prelude.{int_le, unsigned_abs}
use Rattle.std.specs.Ordering.{int_eq}
use Rattle.std.proofs.Math.IntN.{pos-*ℤ-pos}
use Rattle.std.proofs.lemmas.Nat.{mul-le}
use Rattle.std.proofs.lemmas.Bool.Decides.{Decides-int_eq}
use Rattle.std.proofs.lemmas.Int.{ints}
use Rattle.order_ints.specs.declared.atom.Atom.{Atom}
use Rattle.order_ints.specs.declared.order_int.OrdInt.{OrdInt}
use Rattle.order_ints.specs.Truth.{Valuation, atom_truth, not_atom}
use Rattle.order_ints.specs.AtomClauses.{atom_clause_truth, atom_clauses_truth}
use Rattle.order_ints.specs.OrderValue.{value_of, IsOrdered}
use Rattle.order_ints.specs.OrderRange.{low_of}
use Rattle.order_ints.specs.OrderLevels.{at_of}
use Rattle.order_ints.specs.Walk.{value_at}
use Rattle.order_ints.proofs.Comparisons.{int_le-true, int_le-false, le_from_test, lt_from_test}
use Rattle.order_ints.proofs.Gains.{low-le}
use Rattle.order_ints.proofs.Reaching.{atom_truth-at_of}
use Rattle.order_ints.proofs.TruthLaws.{atom_truth-not_atom}
use Rattle.direct_encode.specs.Tables.{from_pair, up_to_pair, at_pair, product_at, are_natural, product_pair, prod_clauses}
use Rattle.direct_encode.proofs.TableTruths.{HasFalse, truth-table, truth-from_pair, truth-up_to_pair, truth-at_pair, place_of_value}

-- a clause is true where what it says follows
imp-from : (s t r : Bool) → (s ≡ true → t ≡ true → r ≡ true) → (not s || (not t || (r || false))) ≡ true
imp-from true true r h = ap (λ b. b || false) (h refl refl)
imp-from true false r h = refl
imp-from false t r h = refl

imp-up : (s t r : Bool) → (s ≡ false → t ≡ false → r ≡ true) → (s || (t || (r || false))) ≡ true
imp-up true t r h = refl
imp-up false true r h = refl
imp-up false false r h = ap (λ b. b || false) (h refl refl)

pub imp-at : (s u t v r : Bool) → (s ≡ true → u ≡ false → t ≡ true → v ≡ false → r ≡ true) → (not s || (u || (not t || (v || (r || false))))) ≡ true
imp-at true true t v r h = refl
imp-at true false true true r h = refl
imp-at true false true false r h = ap (λ b. b || false) (h refl refl refl refl)
imp-at true false false v r h = refl
imp-at false u t v r h = refl

no-from : (s t r : Bool) → s ≡ true → t ≡ true → r ≡ false → (not s || (not t || (r || false))) ≡ false
no-from true true r hs ht hr = ap (λ b. b || false) hr
no-from true false r hs ht hr = absurd (cc)
no-from false t r hs ht hr = absurd (cc)

no-up : (s t r : Bool) → s ≡ false → t ≡ false → r ≡ false → (s || (t || (r || false))) ≡ false
no-up false false r hs ht hr = ap (λ b. b || false) hr
no-up false true r hs ht hr = absurd (cc)
no-up true t r hs ht hr = absurd (cc)

no-at : (s u t v r : Bool) → s ≡ true → u ≡ false → t ≡ true → v ≡ false → r ≡ false → (not s || (u || (not t || (v || (r || false))))) ≡ false
no-at true false true false r hs hu ht hv hr = ap (λ b. b || false) hr
no-at true false true true r hs hu ht hv hr = absurd (cc)
no-at true false false v r hs hu ht hv hr = absurd (cc)
no-at true true t v r hs hu ht hv hr = absurd (cc)
no-at false u t v r hs hu ht hv hr = absurd (cc)

pub both-false : (b c : Bool) → c ≡ false → (b && c) ≡ false
both-false true c e = e
both-false false c e = refl

pub either-false : (b c : Bool) → b ≡ false → (b && c) ≡ false
either-false true c e = absurd (cc)
either-false false c e = refl

pub trues : (b c : Bool) → b ≡ true → c ≡ true → (b && c) ≡ true
trues true c e f = f
trues false c e f = e

pub both-true : (b c : Bool) → (b && c) ≡ true → (b ≡ true) × (c ≡ true)
both-true true c h = (refl, h)
both-true false c h = absurd (cc)

pub itself : (v : ℤ) → int_le v v ≡ true
itself v = grind (arith, ints)

pub not-next : (v : ℤ) → int_le (v +ℤ pos 1) v ≡ false
not-next v = grind (arith, ints)

-- between v and the next value there is none
pub between : (v w : ℤ) → int_le v w ≡ true → int_le (v +ℤ pos 1) w ≡ false → w ≡ v
between v w h k = let le = le_from_test v w h in let lt = lt_from_test (v +ℤ pos 1) w k in omega (arith, ints, le, lt)

-- products of numbers that are not negative
product-nat : (u v : ℤ) → pos 0 ≤ℤ u → pos 0 ≤ℤ v → u *ℤ v ≡ pos (unsigned_abs u * unsigned_abs v)
product-nat (pos m) (pos n) hu hv = pos-*ℤ-pos m n
product-nat (pos m) (negsuc n) hu hv = absurd (omega (arith, ints, hv))
product-nat (negsuc m) v hu hv = absurd (omega (arith, ints, hu))

product-rises : (u v x y : ℤ) → pos 0 ≤ℤ u → pos 0 ≤ℤ v → u ≤ℤ x → v ≤ℤ y → (u *ℤ v) ≤ℤ (x *ℤ y)
product-rises u v x y hu hv ux vy =
    let first = product-nat u v hu hv in
    let second = product-nat x y (omega (arith, ints, hu, ux)) (omega (arith, ints, hv, vy)) in
    let more = mul-le (unsigned_abs u) (unsigned_abs v) (unsigned_abs x) (unsigned_abs y) (omega (arith, ints, hu, ux)) (omega (arith, ints, hv, vy)) in
    omega (arith, ints, first, second, more)

low-at : (a : OrdInt) (k : ℕ) → low_of a ≤ℤ value_at a k
low-at a k = omega (arith, ints)

from-test : (v w : ℤ) → v ≤ℤ w → pos 0 ≤ℤ v → pos 0 ≤ℤ w
from-test v w le h = omega (arith, ints, le, h)

module _ (σ : Valuation) (a b c : OrdInt) (oa : IsOrdered σ a) (ob : IsOrdered σ b) (oc : IsOrdered σ c) where
  abbrev natural-clauses : ℕ → ℕ → List (List Atom)
  natural-clauses i j =
      from_pair a b i j (at_of c (product_at a b i j))
      ∷ up_to_pair a b i j (not_atom (at_of c (product_at a b i j +ℤ pos 1))) ∷ []

  abbrev signed-clauses : ℕ → ℕ → List (List Atom)
  signed-clauses i j =
      at_pair a b i j (at_of c (product_at a b i j))
      ∷ at_pair a b i j (not_atom (at_of c (product_at a b i j +ℤ pos 1))) ∷ []

  abbrev is-product : Bool
  is-product = int_eq (value_of σ a *ℤ value_of σ b) (value_of σ c)

  reached : (p : ℤ) → atom_truth σ (at_of c p) ≡ int_le p (value_of σ c)
  reached p = atom_truth-at_of σ c p oc

  not-exceeded : (p : ℤ) → atom_truth σ (not_atom (at_of c (p +ℤ pos 1))) ≡ not (int_le (p +ℤ pos 1) (value_of σ c))
  not-exceeded p = atom_truth-not_atom σ (at_of c (p +ℤ pos 1)) ∙ ap not (reached (p +ℤ pos 1))

  equal : is-product ≡ true → value_of σ a *ℤ value_of σ b ≡ value_of σ c
  equal e = (Decides-int_eq (value_of σ a *ℤ value_of σ b) (value_of σ c)).0 e

  -- where it rises with both
  natural-each : pos 0 ≤ℤ low_of a → pos 0 ≤ℤ low_of b → is-product ≡ true → (i j : ℕ) → atom_clauses_truth σ (natural-clauses i j) ≡ true
  natural-each na nb e i j =
      trues _ _
      (truth-from_pair σ a b oa ob i j (at_of c (product_at a b i j))
      ∙ imp-from (int_le (value_at a i) (value_of σ a)) (int_le (value_at b j) (value_of σ b)) _ (λ s t. reached (product_at a b i j) ∙ int_le-true (product_at a b i j) (value_of σ c) (below s t)))
      (trues _ _
      (truth-up_to_pair σ a b oa ob i j (not_atom (at_of c (product_at a b i j +ℤ pos 1)))
      ∙ imp-up (int_le (value_at a i +ℤ pos 1) (value_of σ a)) (int_le (value_at b j +ℤ pos 1) (value_of σ b)) _ (λ s t. not-exceeded (product_at a b i j) ∙ ap not (int_le-false (product_at a b i j +ℤ pos 1) (value_of σ c) (above s t)))) refl)
    where
      below : int_le (value_at a i) (value_of σ a) ≡ true → int_le (value_at b j) (value_of σ b) ≡ true → product_at a b i j ≤ℤ value_of σ c
      below s t =
          subst (λ (z : ℤ). product_at a b i j ≤ℤ z) (equal e)
          (product-rises (value_at a i) (value_at b j) (value_of σ a) (value_of σ b) (from-test (low_of a) (value_at a i) (low-at a i) na) (from-test (low_of b) (value_at b j) (low-at b j) nb)
          (le_from_test (value_at a i) (value_of σ a) s) (le_from_test (value_at b j) (value_of σ b) t))

      above : int_le (value_at a i +ℤ pos 1) (value_of σ a) ≡ false → int_le (value_at b j +ℤ pos 1) (value_of σ b) ≡ false → value_of σ c <ℤ (product_at a b i j +ℤ pos 1)
      above s t =
          let ha = lt_from_test (value_at a i +ℤ pos 1) (value_of σ a) s in
          let hb = lt_from_test (value_at b j +ℤ pos 1) (value_of σ b) t in
          let most = product-rises (value_of σ a) (value_of σ b) (value_at a i) (value_at b j) (from-test (low_of a) (value_of σ a) (low-le σ a) na) (from-test (low_of b) (value_of σ b) (low-le σ b) nb) (omega (arith, ints, ha)) (omega (arith, ints, hb)) in
          omega (arith, ints, most, equal e)

  -- at the places of the values
  at-places : (i j : ℕ) → value_at a i ≡ value_of σ a → value_at b j ≡ value_of σ b → product_at a b i j ≡ value_of σ a *ℤ value_of σ b
  at-places i j ea eb = ap (λ (v : ℤ). v *ℤ value_at b j) ea ∙ ap (λ (v : ℤ). value_of σ a *ℤ v) eb

  apart : (p : ℤ) → int_eq p (value_of σ c) ≡ false → int_le p (value_of σ c) ≡ true → int_le (p +ℤ pos 1) (value_of σ c) ≡ true
  apart p e h = next p (value_of σ c) e h
    where
      next : (s z : ℤ) → int_eq s z ≡ false → int_le s z ≡ true → int_le (s +ℤ pos 1) z ≡ true
      next s z e h = grind (arith, ints)

  signed-each : is-product ≡ true → (i j : ℕ) → atom_clauses_truth σ (signed-clauses i j) ≡ true
  signed-each e i j =
      trues _ _
      (truth-at_pair σ a b oa ob i j (at_of c (product_at a b i j))
      ∙ imp-at (int_le (value_at a i) (value_of σ a)) (int_le (value_at a i +ℤ pos 1) (value_of σ a)) (int_le (value_at b j) (value_of σ b)) (int_le (value_at b j +ℤ pos 1) (value_of σ b)) _
      (λ s u t v. reached (product_at a b i j) ∙ ap (λ (p : ℤ). int_le p (value_of σ c)) (is s u t v) ∙ itself (value_of σ c)))
      (trues _ _
      (truth-at_pair σ a b oa ob i j (not_atom (at_of c (product_at a b i j +ℤ pos 1)))
      ∙ imp-at (int_le (value_at a i) (value_of σ a)) (int_le (value_at a i +ℤ pos 1) (value_of σ a)) (int_le (value_at b j) (value_of σ b)) (int_le (value_at b j +ℤ pos 1) (value_of σ b)) _
      (λ s u t v. not-exceeded (product_at a b i j) ∙ ap (λ (p : ℤ). not (int_le (p +ℤ pos 1) (value_of σ c))) (is s u t v) ∙ ap not (not-next (value_of σ c)))) refl)
    where
      is : int_le (value_at a i) (value_of σ a) ≡ true → int_le (value_at a i +ℤ pos 1) (value_of σ a) ≡ false → int_le (value_at b j) (value_of σ b) ≡ true → int_le (value_at b j +ℤ pos 1) (value_of σ b) ≡ false → product_at a b i j ≡ value_of σ c
      is s u t v = at-places i j (sym (between (value_at a i) (value_of σ a) s u)) (sym (between (value_at b j) (value_of σ b) t v)) ∙ equal e

  -- a pair at which a clause is false
  natural-one : is-product ≡ false → HasFalse σ natural-clauses a b
  natural-one e = by (int_le (value_of σ a *ℤ value_of σ b) (value_of σ c)) refl
    where
      by : (t : Bool) → int_le (value_of σ a *ℤ value_of σ b) (value_of σ c) ≡ t → HasFalse σ natural-clauses a b
      by true h =
          let p = place_of_value σ a oa in
          let q = place_of_value σ b ob in
          let s = at-places p.0 q.0 p.2 q.2 in (
            p.0,
            q.0,
            p.1,
            q.1,
            both-false _ _ (either-false _ _
                (truth-up_to_pair σ a b oa ob p.0 q.0 (not_atom (at_of c (product_at a b p.0 q.0 +ℤ pos 1)))
                ∙ no-up _ _ _ (ap (λ (v : ℤ). int_le (v +ℤ pos 1) (value_of σ a)) p.2 ∙ not-next (value_of σ a)) (ap (λ (v : ℤ). int_le (v +ℤ pos 1) (value_of σ b)) q.2 ∙ not-next (value_of σ b))
                (not-exceeded (product_at a b p.0 q.0) ∙ ap (λ (v : ℤ). not (int_le (v +ℤ pos 1) (value_of σ c))) s ∙ ap not (apart (value_of σ a *ℤ value_of σ b) e h)))),
          )
      by false h =
          let p = place_of_value σ a oa in
          let q = place_of_value σ b ob in
          let s = at-places p.0 q.0 p.2 q.2 in (
            p.0,
            q.0,
            p.1,
            q.1,
            either-false _ _
                (truth-from_pair σ a b oa ob p.0 q.0 (at_of c (product_at a b p.0 q.0))
                ∙ no-from _ _ _ (ap (λ (v : ℤ). int_le v (value_of σ a)) p.2 ∙ itself (value_of σ a)) (ap (λ (v : ℤ). int_le v (value_of σ b)) q.2 ∙ itself (value_of σ b))
                (reached (product_at a b p.0 q.0) ∙ ap (λ (v : ℤ). int_le v (value_of σ c)) s ∙ h)),
          )

  -- the clause at the places of the values says x alone
  pub at-values : (i j : ℕ) (x : Atom) → value_at a i ≡ value_of σ a → value_at b j ≡ value_of σ b → atom_truth σ x ≡ false → atom_clause_truth σ (at_pair a b i j x) ≡ false
  at-values i j x ea eb fails =
      truth-at_pair σ a b oa ob i j x
      ∙ no-at _ _ _ _ _ (ap (λ (v : ℤ). int_le v (value_of σ a)) ea ∙ itself (value_of σ a)) (ap (λ (v : ℤ). int_le (v +ℤ pos 1) (value_of σ a)) ea ∙ not-next (value_of σ a))
      (ap (λ (v : ℤ). int_le v (value_of σ b)) eb ∙ itself (value_of σ b)) (ap (λ (v : ℤ). int_le (v +ℤ pos 1) (value_of σ b)) eb ∙ not-next (value_of σ b)) fails

  signed-one : is-product ≡ false → HasFalse σ signed-clauses a b
  signed-one e = by (int_le (value_of σ a *ℤ value_of σ b) (value_of σ c)) refl
    where
      by : (t : Bool) → int_le (value_of σ a *ℤ value_of σ b) (value_of σ c) ≡ t → HasFalse σ signed-clauses a b
      by true h =
          let p = place_of_value σ a oa in
          let q = place_of_value σ b ob in
          let s = at-places p.0 q.0 p.2 q.2 in (
            p.0,
            q.0,
            p.1,
            q.1,
            both-false _ _ (either-false _ _
                (at-values p.0 q.0 (not_atom (at_of c (product_at a b p.0 q.0 +ℤ pos 1))) p.2 q.2
                (not-exceeded (product_at a b p.0 q.0) ∙ ap (λ (v : ℤ). not (int_le (v +ℤ pos 1) (value_of σ c))) s ∙ ap not (apart (value_of σ a *ℤ value_of σ b) e h)))),
          )
      by false h =
          let p = place_of_value σ a oa in
          let q = place_of_value σ b ob in
          let s = at-places p.0 q.0 p.2 q.2 in (
            p.0,
            q.0,
            p.1,
            q.1,
            either-false _ _
                (at-values p.0 q.0 (at_of c (product_at a b p.0 q.0)) p.2 q.2 (reached (product_at a b p.0 q.0) ∙ ap (λ (v : ℤ). int_le v (value_of σ c)) s ∙ h)),
          )

  -- the clauses are true exactly where the product is the third
  pub truth-prod : atom_clauses_truth σ (prod_clauses a b c) ≡ int_eq (value_of σ a *ℤ value_of σ b) (value_of σ c)
  truth-prod = by (are_natural a b) refl
    where
      by : (t : Bool) → are_natural a b ≡ t → atom_clauses_truth σ (prod_clauses a b c) ≡ is-product
      by true n =
          let lows = both-true (int_le (pos 0) (low_of a)) (int_le (pos 0) (low_of b)) n in
          truth-table σ (product_pair a b c) a b is-product
          (λ e i j. ap (λ t. atom_clauses_truth σ (cond t (natural-clauses i j) (signed-clauses i j))) n ∙ natural-each (le_from_test (pos 0) (low_of a) lows.0) (le_from_test (pos 0) (low_of b) lows.1) e i j)
          (λ e. let f = natural-one e in (f.0, f.1, f.2, f.3, ap (λ t. atom_clauses_truth σ (cond t (natural-clauses f.0 f.1) (signed-clauses f.0 f.1))) n ∙ f.4))
      by false n =
          truth-table σ (product_pair a b c) a b is-product
          (λ e i j. ap (λ t. atom_clauses_truth σ (cond t (natural-clauses i j) (signed-clauses i j))) n ∙ signed-each e i j)
          (λ e. let f = signed-one e in (f.0, f.1, f.2, f.3, ap (λ t. atom_clauses_truth σ (cond t (natural-clauses f.0 f.1) (signed-clauses f.0 f.1))) n ∙ f.4))
