-- The pairs at numbers that belong together are of one atom, or they are listed among those at the values.
use Rattle.std.proofs.Common.{◌≡◌, Bool, true, false, ◌&&◌, ◌⊎◌, inl, inr, List, [], ◌∷◌, ◌++◌, map, ℤ, pos, ◌+ℤ◌, ◌-ℤ◌, refl, ap, subst, ◌∙◌, ⊎_elim, arith}
use Rattle.std.specs.Prelude.{int_le}
use Rattle.std.specs.Ordering.{int_eq}
use Rattle.std.proofs.lemmas.Bool.{false≢true, or_cases}
use Rattle.std.proofs.lemmas.Int.{ints}
use Rattle.order_ints.specs.declared.atom.Atom.{Atom}
use Rattle.order_ints.specs.declared.order_int.OrdInt.{OrdInt}
use Rattle.order_ints.specs.Truth.{not_atom}
use Rattle.order_ints.specs.Same.{same_atom}
use Rattle.order_ints.specs.Equality.{same_atom-tells}
use Rattle.order_ints.specs.OrderLevels.{values_of, at_of, is_among}
use Rattle.rule_base.specs.Pairs.{is_pair_of, is_listed, only_if}
use Rattle.arith_rules.specs.Links.{linked, linked_back, opposed, opposed_above}
use Rattle.arith_rules.specs.SumRows.{raised_equations, mirrored_equations}
use Rattle.equi_rules.specs.CompareRows.{equal_at, eq_equations_true}
use Rattle.equation_runs.proofs.NextValue.{or-left, or-right}
use Rattle.equation_runs.proofs.LinkedAt.{MoveTogether, MoveApart, RaisedAt, raised_one, raised_first, raised_second, raised-at, MirroredAt, mirrored_one, mirrored_first, mirrored_second, mirrored-at}

-- a pair of two atoms, in either order
and-true : (s t : Bool) → s ≡ true → t ≡ true → (s && t) ≡ true
and-true s t e f = λ i. e i && f i

pair-itself : (x y : Atom) (p : Atom × Atom) → p.0 ≡ x → p.1 ≡ y → is_pair_of x y p ≡ true
pair-itself x y p e f =
    or-left (same_atom p.0 x && same_atom p.1 y) (same_atom p.0 y && same_atom p.1 x)
    (and-true (same_atom p.0 x) (same_atom p.1 y) ((same_atom-tells p.0 x).1 e) ((same_atom-tells p.1 y).1 f))

-- what is listed in one of two parts is listed
pub listed-left : (x y : Atom) (ps qs : List (Atom × Atom)) → is_listed x y ps ≡ true → is_listed x y (ps ++ qs) ≡ true
listed-left x y [] qs e = absurd (false≢true e)
listed-left x y (p ∷ ps) qs e = ⊎_elim
    (λ (h : is_pair_of x y p ≡ true). or-left (is_pair_of x y p) (is_listed x y (ps ++ qs)) h)
    (λ (h : is_listed x y ps ≡ true). or-right (is_pair_of x y p) (is_listed x y (ps ++ qs)) (listed-left x y ps qs h))
    (or_cases (is_pair_of x y p) (is_listed x y ps) e)

pub listed-right : (x y : Atom) (ps qs : List (Atom × Atom)) → is_listed x y qs ≡ true → is_listed x y (ps ++ qs) ≡ true
listed-right x y [] qs e = e
listed-right x y (p ∷ ps) qs e = or-right (is_pair_of x y p) (is_listed x y (ps ++ qs)) (listed-right x y ps qs e)

pub listed-if : (x y : Atom) (t : Bool) (ps : List (Atom × Atom)) → t ≡ true → is_listed x y ps ≡ true → is_listed x y (only_if t ps) ≡ true
listed-if x y t ps holds e = ap (λ (b : Bool). is_listed x y (only_if b ps)) holds ∙ e

-- the pair at one of the values is listed
eq-from-test : (v w : ℤ) → int_eq v w ≡ true → v ≡ w
eq-from-test v w h = grind (arith, ints)

pub listed-at : (f : ℤ → Atom × Atom) (w : ℤ) (vs : List ℤ) (x y : Atom) → is_among w vs ≡ true → (f w).0 ≡ x → (f w).1 ≡ y → is_listed x y (map f vs) ≡ true
listed-at f w [] x y one e g = absurd (false≢true one)
listed-at f w (v ∷ vs) x y one e g = ⊎_elim
    (λ (h : int_eq v w ≡ true). or-left (is_pair_of x y (f v)) (is_listed x y (map f vs))
    (pair-itself x y (f v) (ap (λ (u : ℤ). (f u).0) (eq-from-test v w h) ∙ e) (ap (λ (u : ℤ). (f u).1) (eq-from-test v w h) ∙ g)))
    (λ (h : is_among w vs ≡ true). or-right (is_pair_of x y (f v)) (is_listed x y (map f vs)) (listed-at f w vs x y h e g))
    (or_cases (int_eq v w) (is_among w vs) one)

-- two atoms are one, or listed
abbrev pub IsOneOrListed : Atom → Atom → List (Atom × Atom) → Type 0
IsOneOrListed x y ps = (x ≡ y) ⊎ (is_listed x y ps ≡ true)

-- and so they are in a list that has what another one has
pub one-within : (x y : Atom) (ps qs : List (Atom × Atom)) → (is_listed x y ps ≡ true → is_listed x y qs ≡ true) → IsOneOrListed x y ps → IsOneOrListed x y qs
one-within x y ps qs within (inl e) = inl e
one-within x y ps qs within (inr e) = inr (within e)

-- what is listed in one list is listed in another
abbrev pub IsWithin : List (Atom × Atom) → List (Atom × Atom) → Type 0
IsWithin ps qs = (x y : Atom) → is_listed x y ps ≡ true → is_listed x y qs ≡ true

-- the atoms of two integers at two numbers that belong together
pub together-listed : (f g : ℤ → ℤ) → MoveTogether f g → (a b : OrdInt) (ps : List (Atom × Atom)) → IsWithin (linked f a b) ps → IsWithin (linked_back g b a) ps → (v : ℤ) → IsOneOrListed (at_of a v) (at_of b (f v)) ps
together-listed f g move a b ps first second v = by (raised-at f g move a b v)
  where
    by : RaisedAt f g a b v → IsOneOrListed (at_of a v) (at_of b (f v)) ps
    by (raised_one e) = inl e
    by (raised_first w from is e q) = inr (first (at_of a v) (at_of b (f v))
        (listed-at (λ u. (at_of a u, at_of b (f u))) w (values_of a) (at_of a v) (at_of b (f v)) is e q))
    by (raised_second w from is e q) = inr (second (at_of a v) (at_of b (f v))
        (listed-at (λ u. (at_of a (g u), at_of b u)) w (values_of b) (at_of a v) (at_of b (f v)) is q e))

pub apart-listed : (h g : ℤ → ℤ) → MoveApart h g → (a b : OrdInt) (ps : List (Atom × Atom)) → IsWithin (opposed (λ u. h u +ℤ pos 1) a b) ps → IsWithin (opposed_above g b a) ps → (v : ℤ) → IsOneOrListed (at_of a v) (not_atom (at_of b (h v +ℤ pos 1))) ps
apart-listed h g move a b ps first second v = by (mirrored-at h g move a b v)
  where
    by : MirroredAt h g a b v → IsOneOrListed (at_of a v) (not_atom (at_of b (h v +ℤ pos 1))) ps
    by (mirrored_one e) = inl e
    by (mirrored_first w is e q) = inr (first (at_of a v) (not_atom (at_of b (h v +ℤ pos 1)))
        (listed-at (λ u. (at_of a u, not_atom (at_of b (h u +ℤ pos 1)))) w (values_of a) (at_of a v) (not_atom (at_of b (h v +ℤ pos 1))) is e (ap not_atom q)))
    by (mirrored_second w is e q) = inr (second (at_of a v) (not_atom (at_of b (h v +ℤ pos 1)))
        (listed-at (λ u. (at_of a (g u), not_atom (at_of b (u +ℤ pos 1)))) w (values_of b) (at_of a v) (not_atom (at_of b (h v +ℤ pos 1))) is e (ap not_atom q)))

-- by a number more, and by what is left of a number
pub by-more : (k : ℤ) → MoveTogether (λ v. v +ℤ k) (λ w. w -ℤ k)
by-more k = record { tests = λ w v. more-test k w v; back = λ v. more-back k v }
  where
    more-test : (k w v : ℤ) → int_le (w +ℤ k) v ≡ int_le w (v -ℤ k)
    more-test k w v = grind (arith, ints)

    more-back : (k v : ℤ) → v -ℤ k +ℤ k ≡ v
    more-back k v = omega (arith, ints)

pub by-rest : (k : ℤ) → MoveApart (λ v. k -ℤ v) (λ w. k -ℤ w)
by-rest k = record { tests = λ w v. rest-test k w v; back = λ v. rest-back k v }
  where
    rest-test : (k w v : ℤ) → int_le v (k -ℤ w) ≡ int_le w (k -ℤ v)
    rest-test k w v = grind (arith, ints)

    rest-back : (k v : ℤ) → k -ℤ (k -ℤ v) ≡ v
    rest-back k v = omega (arith, ints)

pub raised-listed : (k : ℤ) (a b : OrdInt) (v : ℤ) → IsOneOrListed (at_of a v) (at_of b (v +ℤ k)) (raised_equations k a b)
raised-listed k a b v =
    together-listed (λ u. u +ℤ k) (λ u. u -ℤ k) (by-more k) a b (raised_equations k a b)
    (λ x y. listed-left x y (linked (λ u. u +ℤ k) a b) (linked_back (λ u. u -ℤ k) b a))
    (λ x y. listed-right x y (linked (λ u. u +ℤ k) a b) (linked_back (λ u. u -ℤ k) b a)) v

pub mirrored-listed : (k : ℤ) (a b : OrdInt) (v : ℤ) → IsOneOrListed (at_of a v) (not_atom (at_of b (k -ℤ v +ℤ pos 1))) (mirrored_equations k a b)
mirrored-listed k a b v =
    apart-listed (λ u. k -ℤ u) (λ u. k -ℤ u) (by-rest k) a b (mirrored_equations k a b)
    (λ x y. listed-left x y (opposed (λ u. k -ℤ u +ℤ pos 1) a b) (opposed_above (λ u. k -ℤ u) b a))
    (λ x y. listed-right x y (opposed (λ u. k -ℤ u +ℤ pos 1) a b) (opposed_above (λ u. k -ℤ u) b a)) v

-- of two integers that are equal
pub equal-listed : (a b : OrdInt) (v : ℤ) → IsOneOrListed (at_of a v) (at_of b (v +ℤ pos 0)) (eq_equations_true a b)
equal-listed a b v = by (raised-at (λ u. u +ℤ pos 0) (λ u. u -ℤ pos 0) (by-more (pos 0)) a b v)
  where
    more : (w : ℤ) → w ≡ w +ℤ pos 0
    more w = omega (arith, ints)

    less : (w : ℤ) → w ≡ w -ℤ pos 0
    less w = omega (arith, ints)

    by : RaisedAt (λ u. u +ℤ pos 0) (λ u. u -ℤ pos 0) a b v → IsOneOrListed (at_of a v) (at_of b (v +ℤ pos 0)) (eq_equations_true a b)
    by (raised_one e) = inl e
    by (raised_first w from is e f) = inr (listed-left (at_of a v) (at_of b (v +ℤ pos 0)) (map (equal_at a b) (values_of a)) (map (equal_at a b) (values_of b))
        (listed-at (equal_at a b) w (values_of a) (at_of a v) (at_of b (v +ℤ pos 0)) is e (ap (at_of b) (more w) ∙ f)))
    by (raised_second w from is e f) = inr (listed-right (at_of a v) (at_of b (v +ℤ pos 0)) (map (equal_at a b) (values_of a)) (map (equal_at a b) (values_of b))
        (listed-at (equal_at a b) w (values_of b) (at_of a v) (at_of b (v +ℤ pos 0)) is (ap (at_of a) (less w) ∙ f) e))

-- something holds of each pair of a list
abbrev pub EachPair : (Atom → Atom → Type 0) → List (Atom × Atom) → Type 0
EachPair P [] = Unit {0}
EachPair P (p ∷ ps) = P p.0 p.1 × EachPair P ps

module _ (P : Atom → Atom → Type 0) where
  pub each-append : (ps qs : List (Atom × Atom)) → EachPair P ps → EachPair P qs → EachPair P (ps ++ qs)
  each-append [] qs first second = second
  each-append (p ∷ ps) qs first second = (first.0, each-append ps qs first.1 second)

  pub each-if : (t : Bool) (ps : List (Atom × Atom)) → (t ≡ true → EachPair P ps) → EachPair P (only_if t ps)
  each-if true ps each = each refl
  each-if false ps each = tt

  pub each-map : (f : ℤ → Atom × Atom) (vs : List ℤ) → ((v : ℤ) → P (f v).0 (f v).1) → EachPair P (map f vs)
  each-map f [] each = tt
  each-map f (v ∷ vs) each = (each v, each-map f vs each)

  -- what holds at all numbers that belong together holds of the pairs that link two integers
  pub each-linked : (f : ℤ → ℤ) (a b : OrdInt) → ((v : ℤ) → P (at_of a v) (at_of b (f v))) → EachPair P (linked f a b)
  each-linked f a b each = each-map (λ v. (at_of a v, at_of b (f v))) (values_of a) each

  pub each-linked_back : (f g : ℤ → ℤ) → MoveTogether f g → (a b : OrdInt) → ((v : ℤ) → P (at_of a v) (at_of b (f v))) → EachPair P (linked_back g b a)
  each-linked_back f g move a b each =
      each-map (λ w. (at_of a (g w), at_of b w)) (values_of b)
      (λ w. subst (λ (u : ℤ). P (at_of a (g w)) (at_of b u)) (move.back w) (each (g w)))

  pub each-opposed : (f : ℤ → ℤ) (a b : OrdInt) → ((v : ℤ) → P (at_of a v) (not_atom (at_of b (f v)))) → EachPair P (opposed f a b)
  each-opposed f a b each = each-map (λ v. (at_of a v, not_atom (at_of b (f v)))) (values_of a) each

  pub each-opposed_above : (h g : ℤ → ℤ) → MoveApart h g → (a b : OrdInt) → ((v : ℤ) → P (at_of a v) (not_atom (at_of b (h v +ℤ pos 1)))) → EachPair P (opposed_above g b a)
  each-opposed_above h g move a b each =
      each-map (λ w. (at_of a (g w), not_atom (at_of b (w +ℤ pos 1)))) (values_of b)
      (λ w. subst (λ (u : ℤ). P (at_of a (g w)) (not_atom (at_of b (u +ℤ pos 1)))) (move.back w) (each (g w)))

  pub each-raised : (k : ℤ) (a b : OrdInt) → ((v : ℤ) → P (at_of a v) (at_of b (v +ℤ k))) → EachPair P (raised_equations k a b)
  each-raised k a b each =
      each-append (linked (λ v. v +ℤ k) a b) (linked_back (λ w. w -ℤ k) b a)
      (each-linked (λ v. v +ℤ k) a b each) (each-linked_back (λ v. v +ℤ k) (λ w. w -ℤ k) (by-more k) a b each)

  pub each-mirrored : (k : ℤ) (a b : OrdInt) → ((v : ℤ) → P (at_of a v) (not_atom (at_of b (k -ℤ v +ℤ pos 1)))) → EachPair P (mirrored_equations k a b)
  each-mirrored k a b each =
      each-append (opposed (λ v. k -ℤ v +ℤ pos 1) a b) (opposed_above (λ w. k -ℤ w) b a)
      (each-opposed (λ v. k -ℤ v +ℤ pos 1) a b each) (each-opposed_above (λ v. k -ℤ v) (λ w. k -ℤ w) (by-rest k) a b each)
