-- Lists of numbers in ascending order: a number put at its place, and that such lists are told by their members.
use Rattle.std.proofs.Common.{◌≡◌, ℕ, ◌<◌, ◌≤◌, zero, suc, true, false, List, [], ◌∷◌, ◌⊎◌, inl, inr, length, get_or, Contains, ℤ, ◌<ℤ◌, ◌≤ℤ◌, refl, sym, ap, ◌∙◌, subst, arith, Less, IsPermutation, IsSorted}
use Rattle.std.specs.Prelude.{int_lt}
use Rattle.std.specs.List.{dedup}
use Rattle.std.specs.List.Sorted.{IsStrictlySortedBy}
use Rattle.std.specs.Ordering.{int_cmp, int_eq, eq_by_cmp}
use Rattle.std.proofs.lemmas.Int.{ints}
use Rattle.std.proofs.lemmas.Bool.Decides.{Decides-int_eq}
use Rattle.std.proofs.lemmas.Cmp.{int_cmp_total, int_eq_equiv, int_ranked, by_ranked}
use Rattle.std.proofs.lemmas.List.Kept.{IsStrictlySortedBy-dedup, Contains-dedup, Contains-from_dedup}
use Rattle.std.proofs.lemmas.List.Sorted.{Contains-permutation, IsPermutation-sym}
use Rattle.order_ints.specs.OrderMade.{AscendFrom, AreAscending}
use Rattle.order_ints.proofs.Placing.{Stand, as_one, in_front, behind, PutBy, here, before, after, put_by}
use Rattle.core_forms.specs.Sums.{placed, ascending}

pub cases_int : (x y : ℤ) → (x ≡ y) ⊎ ((x <ℤ y) ⊎ (y <ℤ x))
cases_int x y =
    by_ranked (x <ℤ y) (x ≡ y) (y <ℤ x) (int_cmp x y) (int_ranked x y (int_cmp x y) refl) (λ _ p. inr (inl p)) (λ _ e. inl e) (λ _ p. inr (inr p))

eq-true : (x y : ℤ) → x ≡ y → int_eq x y ≡ true
eq-true x y e = (Decides-int_eq x y).1 e

eq-false : (x y : ℤ) → (x ≡ y → ⊥) → int_eq x y ≡ false
eq-false x y n = elim (int_eq x y) as (λ b. int_eq x y ≡ b → b ≡ false) [ true ↦ λ e. absurd (n ((Decides-int_eq x y).0 e)) | false ↦ λ _. refl ] refl

lt-true : (x y : ℤ) → x <ℤ y → int_lt x y ≡ true
lt-true x y h = grind (arith, ints)

lt-false : (x y : ℤ) → y <ℤ x → int_lt x y ≡ false
lt-false x y h = grind (arith, ints)

-- two numbers are one, or one of them is the lesser
abbrev Same : ℤ → ℤ → Type 0
Same x y = x ≡ y

abbrev Lesser : ℤ → ℤ → Type 0
Lesser x y = x <ℤ y

stand : (v w : ℤ) → Stand int_eq int_lt Same Lesser v w
stand v w = by (cases_int v w)
  where
    by : ((v ≡ w) ⊎ ((v <ℤ w) ⊎ (w <ℤ v))) → Stand int_eq int_lt Same Lesser v w
    by (inl e) = as_one e (eq-true v w e)
    by (inr (inl h)) = in_front h (eq-false v w (λ e. omega (arith, ints, e, h))) (lt-true v w h)
    by (inr (inr h)) = behind h (eq-false v w (λ e. omega (arith, ints, e, h))) (lt-false v w h)

-- where a number is put
abbrev Put : ℤ → ℤ → List ℤ → Type 0
Put v w ws = PutBy int_eq int_lt Same Lesser v w ws

put : (v w : ℤ) (ws : List ℤ) → Put v w ws
put v w ws = put_by int_eq int_lt Same Lesser v w ws (stand v w)

AscendFrom-placed : (k v : ℤ) (ws : List ℤ) → k <ℤ v → AscendFrom k ws → AscendFrom k (placed v ws)
AscendFrom-placed k v [] h a = (h, tt)
AscendFrom-placed k v (w ∷ ws) h a = by (put v w ws) (λ l. AscendFrom-placed w v ws l a.1)
  where
    by : Put v w ws → (w <ℤ v → AscendFrom w (placed v ws)) → AscendFrom k (placed v (w ∷ ws))
    by (here e p) r = subst (AscendFrom k) (sym p) a
    by (before l p) r = subst (AscendFrom k) (sym p) (h, (l, a.1))
    by (after l p) r = subst (AscendFrom k) (sym p) (a.0, r l)

AreAscending-placed : (v : ℤ) (ws : List ℤ) → AreAscending ws → AreAscending (placed v ws)
AreAscending-placed v [] a = tt
AreAscending-placed v (w ∷ ws) a = by (put v w ws)
  where
    by : Put v w ws → AreAscending (placed v (w ∷ ws))
    by (here e p) = subst AreAscending (sym p) a
    by (before l p) = subst AreAscending (sym p) (l, a)
    by (after l p) = subst AreAscending (sym p) (AscendFrom-placed w v ws l a)

pub AreAscending-ascending : (vs : List ℤ) → AreAscending (ascending vs)
AreAscending-ascending [] = tt
AreAscending-ascending (v ∷ vs) = AreAscending-placed v (ascending vs) (AreAscending-ascending vs)

-- ---- members

abbrev pub Among : ℤ → List ℤ → Type 0
Among u [] = ⊥
Among u (v ∷ vs) = (v ≡ u) ⊎ Among u vs

pub Among-from : (u : ℤ) (vs : List ℤ) → Contains vs u → Among u vs
Among-from u [] c = absurd (omega (arith, c.1))
Among-from u (v ∷ vs) c = at (Among-from u vs) c.0 c.1 c.2
  where
    at : (Contains vs u → Among u vs) → (k : ℕ) → k < length (v ∷ vs) → get_or (v ∷ vs) k u ≡ u → Among u (v ∷ vs)
    at rest zero h e = inl e
    at rest (suc k) h e = inr (rest (k, omega (arith, h), e))

pub Contains-among : (u : ℤ) (vs : List ℤ) → Among u vs → Contains vs u
Contains-among u [] m = absurd m
Contains-among u (v ∷ vs) (inl e) = (0, omega arith, e)
Contains-among u (v ∷ vs) (inr m) = let c = Contains-among u vs m in (suc c.0, omega (arith, c.1), c.2)

Among-placed : (u v : ℤ) (ws : List ℤ) → (v ≡ u) ⊎ Among u ws → Among u (placed v ws)
Among-placed u v [] m = m
Among-placed u v (w ∷ ws) m = by (put v w ws) (Among-placed u v ws) m
  where
    by : Put v w ws → ((v ≡ u) ⊎ Among u ws → Among u (placed v ws)) → (v ≡ u) ⊎ ((w ≡ u) ⊎ Among u ws) → Among u (placed v (w ∷ ws))
    by (here e p) r (inl f) = subst (Among u) (sym p) (inl (sym e ∙ f))
    by (here e p) r (inr n) = subst (Among u) (sym p) n
    by (before l p) r n = subst (Among u) (sym p) n
    by (after l p) r (inl f) = subst (Among u) (sym p) (inr (r (inl f)))
    by (after l p) r (inr (inl f)) = subst (Among u) (sym p) (inl f)
    by (after l p) r (inr (inr n)) = subst (Among u) (sym p) (inr (r (inr n)))

Among-from_placed : (u v : ℤ) (ws : List ℤ) → Among u (placed v ws) → (v ≡ u) ⊎ Among u ws
Among-from_placed u v [] m = m
Among-from_placed u v (w ∷ ws) m = by (put v w ws) (Among-from_placed u v ws)
  where
    later : (v ≡ u) ⊎ Among u ws → (v ≡ u) ⊎ ((w ≡ u) ⊎ Among u ws)
    later (inl f) = inl f
    later (inr n) = inr (inr n)

    past : (Among u (placed v ws) → (v ≡ u) ⊎ Among u ws) → (w ≡ u) ⊎ Among u (placed v ws) → (v ≡ u) ⊎ ((w ≡ u) ⊎ Among u ws)
    past r (inl f) = inr (inl f)
    past r (inr n) = later (r n)

    by : Put v w ws → (Among u (placed v ws) → (v ≡ u) ⊎ Among u ws) → (v ≡ u) ⊎ ((w ≡ u) ⊎ Among u ws)
    by (here e p) r = inr (subst (Among u) p m)
    by (before l p) r = subst (Among u) p m
    by (after l p) r = past r (subst (Among u) p m)

pub Among-ascending : (u : ℤ) (vs : List ℤ) → Among u vs → Among u (ascending vs)
Among-ascending u [] m = m
Among-ascending u (v ∷ vs) (inl e) = Among-placed u v (ascending vs) (inl e)
Among-ascending u (v ∷ vs) (inr m) = Among-placed u v (ascending vs) (inr (Among-ascending u vs m))

pub Among-from_ascending : (u : ℤ) (vs : List ℤ) → Among u (ascending vs) → Among u vs
Among-from_ascending u [] m = m
Among-from_ascending u (v ∷ vs) m = by (Among-from_placed u v (ascending vs) m) (Among-from_ascending u vs)
  where
    by : (v ≡ u) ⊎ Among u (ascending vs) → (Among u (ascending vs) → Among u vs) → (v ≡ u) ⊎ Among u vs
    by (inl e) r = inl e
    by (inr n) r = inr (r n)

-- no list becomes longer
length-placed : (v : ℤ) (ws : List ℤ) → length (placed v ws) ≤ suc (length ws)
length-placed v [] = omega arith
length-placed v (w ∷ ws) = by (put v w ws) (length-placed v ws)
  where
    by : Put v w ws → length (placed v ws) ≤ suc (length ws) → length (placed v (w ∷ ws)) ≤ suc (suc (length ws))
    by (here e p) r = rw p (omega arith)
    by (before l p) r = rw p (omega arith)
    by (after l p) r = rw p (omega (arith, r))

pub length-ascending : (vs : List ℤ) → length (ascending vs) ≤ length vs
length-ascending [] = omega arith
length-ascending (v ∷ vs) = omega (arith, length-placed v (ascending vs), length-ascending vs)

-- what ascends from a number is above it
pub above : (k u : ℤ) (vs : List ℤ) → AscendFrom k vs → Among u vs → k <ℤ u
above k u [] a m = absurd m
above k u (v ∷ vs) a (inl e) = subst (λ (z : ℤ). k <ℤ z) e a.0
above k u (v ∷ vs) a (inr m) = let h = above v u vs a.1 m in omega (arith, ints, h, a.0)

ascends : (k : ℤ) (vs : List ℤ) → AscendFrom k vs → AreAscending vs
ascends k [] a = tt
ascends k (v ∷ vs) a = a.1

-- lists that ascend are told by their members
pub same_from_members : (xs ys : List ℤ) → AreAscending xs → AreAscending ys
    → ((u : ℤ) → Among u xs → Among u ys) → ((u : ℤ) → Among u ys → Among u xs) → xs ≡ ys
same_from_members [] [] a b h k = refl
same_from_members [] (y ∷ ys) a b h k = absurd (k y (inl refl))
same_from_members (x ∷ xs) [] a b h k = absurd (h x (inl refl))
same_from_members (x ∷ xs) (y ∷ ys) a b h k = joined first (same_from_members xs ys (ascends x xs a) (ascends y ys b))
  where
    at_least : (p q : ℤ) (qs : List ℤ) → AscendFrom q qs → Among p (q ∷ qs) → q ≤ℤ p
    at_least p q qs c (inl e) = omega (arith, ints, e)
    at_least p q qs c (inr m) = let l = above q p qs c m in omega (arith, ints, l)

    first : x ≡ y
    first =
        let p = at_least x y ys b (h x (inl refl)) in
        let q = at_least y x xs a (k y (inl refl)) in
        omega (arith, ints, p, q)

    tails : (u p q : ℤ) (qs ps : List ℤ) → AscendFrom p ps → p ≡ q → Among u ps → (q ≡ u) ⊎ Among u qs → Among u qs
    tails u p q qs ps c e m (inl f) = let l = above p u ps c m in absurd (omega (arith, ints, l, e, f))
    tails u p q qs ps c e m (inr n) = n

    joined : x ≡ y → (((u : ℤ) → Among u xs → Among u ys) → ((u : ℤ) → Among u ys → Among u xs) → xs ≡ ys) → x ∷ xs ≡ y ∷ ys
    joined e rest =
        ap (λ z. z ∷ xs) e
        ∙ ap (λ zs. y ∷ zs) (rest (λ u m. tails u x y ys xs a e m (h u (inr m))) (λ u m. tails u y x xs ys b (sym e) m (k u (inr m))))

-- ---- a sort, and then the removal of neighbours that are the same

less : (x y : ℤ) → int_cmp x y ≡ Less → x <ℤ y
less x y e = by_ranked (x <ℤ y) (x ≡ y) (y <ℤ x) (int_cmp x y) (int_ranked x y (int_cmp x y) refl) (λ _ p. p) (λ f _. absurd (cc)) (λ f _. absurd (cc))

AreAscending-from_sorted : (vs : List ℤ) → IsStrictlySortedBy int_cmp vs → AreAscending vs
unfolding IsStrictlySortedBy
AreAscending-from_sorted [] s = tt
AreAscending-from_sorted (v ∷ []) s = tt
AreAscending-from_sorted (v ∷ w ∷ vs) s = (less v w s.0.0, AreAscending-from_sorted (w ∷ vs) s.1)

tie : (x y : ℤ) → int_eq x y ≡ eq_by_cmp int_cmp x y
tie x y = refl

pub ascending-from_sort : (xs ys zs : List ℤ) → IsPermutation xs ys → IsSorted int_cmp ys → zs ≡ dedup int_eq ys → zs ≡ ascending xs
ascending-from_sort xs ys zs p s e =
    e ∙ same_from_members (dedup int_eq ys) (ascending xs)
    (AreAscending-from_sorted _ (IsStrictlySortedBy-dedup int_cmp_total tie ys s)) (AreAscending-ascending xs)
    (λ u m. Among-ascending u xs (Among-from u xs (Contains-permutation _ _ u (IsPermutation-sym _ _ p) (Contains-from_dedup int_eq ys u (Contains-among u _ m)))))
    (λ u m. Among-from u _ (Contains-dedup int_eq_equiv (λ x y. (Decides-int_eq x y).0) ys u (Contains-permutation _ _ u p (Contains-among u xs (Among-from_ascending u xs m)))))
