-- The order of literals by a number for each: literals that ascend by it, and a literal put at its place.
use Rattle.std.proofs.Common.{◌≡◌, ℕ, ◌+◌, ◌<◌, ◌≤◌, Bool, true, false, cond, not, ◌||◌, ◌&&◌, eqb, ltb, nat_lt, ◌==◌, List, [], ◌∷◌, ◌⊎◌, inl, inr, refl, sym, ap, ◌∙◌, subst, arith, Ordering, IsPermutation, IsSorted, true≢false, Less}
use Rattle.std.specs.List.{dedup, dedup_from, AllByRecursion}
use Rattle.std.specs.List.Sorted.{IsStrictlySortedBy}
use Rattle.std.specs.Ordering.{nat_cmp, bool_cmp, ordering_then, is_eq, eq_by_cmp}
use Rattle.std.specs.Cmp.{IsTotalOrder, bool_cmp_total, booleans_Decides}
use Rattle.std.specs.Bool.{beq}
use Rattle.std.proofs.lemmas.Bool.{cases_order, cases_Bool, or_from, or_left, and_parts, eqb-true, eq-eqb, ne_eqb, lt-ltb, le-ltb, false≢true}
use Rattle.std.proofs.lemmas.Bool.Decides.{nat_tests}
use Rattle.std.proofs.lemmas.Cmp.{then_total, on_total, nat_cmp_total}
use Rattle.std.proofs.lemmas.List.Kept.{IsStrictlySortedBy-dedup}
use Rattle.std.proofs.lemmas.List.Sorted.{list_any-IsPermutation}
use Rattle.order_ints.specs.declared.literal.Lit.{Lit}
use Rattle.order_ints.proofs.Placing.{Stand, as_one, in_front, behind, PutBy, here, before, after, put_by}
use Rattle.order_ints.specs.OrderedClauses.{same_lit, stands_before, has_lit, place_lit, by_variable}

-- the number of a sign
abbrev pub sign_key : Bool → ℕ
sign_key false = 0
sign_key true = 1

-- literals in order have ascending numbers
unfoldable pub key : Lit → ℕ
key l = l.var + l.var + sign_key l.positive

signs_same : (x y : ℕ) (a b : Bool) → ((x == y) && beq a b) ≡ eqb (x + x + sign_key a) (y + y + sign_key b)
signs_same x y true true = grind (arith, nat_tests)
signs_same x y true false = grind (arith, nat_tests)
signs_same x y false true = grind (arith, nat_tests)
signs_same x y false false = grind (arith, nat_tests)

pub same_lit_key : (l m : Lit) → same_lit l m ≡ eqb (key l) (key m)
unfolding key
same_lit_key l m = signs_same l.var m.var l.positive m.positive

signs_before : (x y : ℕ) (a b : Bool) → (nat_lt x y || ((x == y) && (not a && b))) ≡ ltb (x + x + sign_key a) (y + y + sign_key b)
signs_before x y true true = grind (arith, nat_tests)
signs_before x y true false = grind (arith, nat_tests)
signs_before x y false true = grind (arith, nat_tests)
signs_before x y false false = grind (arith, nat_tests)

pub stands_before_key : (l m : Lit) → stands_before l m ≡ ltb (key l) (key m)
unfolding key
stands_before_key l m = signs_before l.var m.var l.positive m.positive

-- what the comparison of literals answers
abbrev pub lit_cmp : Lit → Lit → Ordering
lit_cmp l m = ordering_then (nat_cmp l.var m.var) (bool_cmp l.positive m.positive)

pub lit_cmp_total : IsTotalOrder lit_cmp
lit_cmp_total = then_total (on_total (λ (l : Lit). l.var) nat_cmp_total) (on_total (λ (l : Lit). l.positive) bool_cmp_total)

signs_tie : (x y : ℕ) (a b : Bool) → ((x == y) && beq a b) ≡ is_eq (ordering_then (nat_cmp x y) (bool_cmp a b))
signs_tie x y true true = grind (arith, nat_tests)
signs_tie x y true false = grind (arith, nat_tests)
signs_tie x y false true = grind (arith, nat_tests)
signs_tie x y false false = grind (arith, nat_tests)

pub same_lit_tie : (l m : Lit) → same_lit l m ≡ eq_by_cmp lit_cmp l m
same_lit_tie l m = signs_tie l.var m.var l.positive m.positive

signs_less : (x y : ℕ) (a b : Bool) → ordering_then (nat_cmp x y) (bool_cmp a b) ≡ Less → x + x + sign_key a < y + y + sign_key b
signs_less x y true true h = grind (arith, nat_tests)
signs_less x y true false h = grind (arith, nat_tests)
signs_less x y false true h = grind (arith, nat_tests)
signs_less x y false false h = grind (arith, nat_tests)

pub less_key : (l m : Lit) → lit_cmp l m ≡ Less → key l < key m
unfolding key
less_key l m h = signs_less l.var m.var l.positive m.positive h

-- the literals are the same exactly where `same_lit` says so
pub same_lit-true : (l m : Lit) → same_lit l m ≡ true → l ≡ m
same_lit-true l m h =
    let p = and_parts (l.var == m.var) (beq l.positive m.positive) h in
    let v = eqb-true l.var m.var p.0 in
    let s = (booleans_Decides l.positive m.positive).0 p.1 in
    ap (λ x. record { var = x; positive = l.positive }) v ∙ ap (λ x. record { var = m.var; positive = x }) s

pub same_lit-refl : (l : Lit) → same_lit l l ≡ true
same_lit-refl l = same_lit_key l l ∙ eq-eqb (key l) (key l) refl

-- all stand after the number
abbrev pub Above : ℕ → List Lit → Type 0
Above k [] = Unit {0}
Above k (l ∷ ls) = (k < key l) × Above k ls

-- each stands before all later ones
abbrev pub LitsAscend : List Lit → Type 0
LitsAscend [] = Unit {0}
LitsAscend (l ∷ ls) = Above (key l) ls × LitsAscend ls

pub Above-lower : (j k : ℕ) (ls : List Lit) → j ≤ k → Above k ls → Above j ls
Above-lower j k [] h a = tt
Above-lower j k (l ∷ ls) h a = (omega (arith, a.0), Above-lower j k ls h a.1)

-- two literals have one number, or one of them the lesser
abbrev SameKey : Lit → Lit → Type 0
SameKey l m = key l ≡ key m

abbrev LessKey : Lit → Lit → Type 0
LessKey l m = key l < key m

stand : (l m : Lit) → Stand same_lit stands_before SameKey LessKey l m
stand l m = by (cases_order (key l) (key m))
  where
    by : ((key l ≡ key m) ⊎ ((key l < key m) ⊎ (key m < key l))) → Stand same_lit stands_before SameKey LessKey l m
    by (inl e) = as_one e (same_lit_key l m ∙ eq-eqb (key l) (key m) e)
    by (inr (inl h)) = in_front h (same_lit_key l m ∙ ne_eqb (key l) (key m) (λ e. omega (arith, e, h))) (stands_before_key l m ∙ lt-ltb (key l) (key m) h)
    by (inr (inr h)) = behind h (same_lit_key l m ∙ ne_eqb (key l) (key m) (λ e. omega (arith, e, h))) (stands_before_key l m ∙ le-ltb (key l) (key m) (omega (arith, h)))

-- where a literal is put
abbrev pub Put : Lit → Lit → List Lit → Type 0
Put l m ms = PutBy same_lit stands_before SameKey LessKey l m ms

pub put : (l m : Lit) (ms : List Lit) → Put l m ms
put l m ms = put_by same_lit stands_before SameKey LessKey l m ms (stand l m)

pub Above-place_lit : (k : ℕ) (l : Lit) (ms : List Lit) → k < key l → Above k ms → Above k (place_lit l ms)
Above-place_lit k l [] h a = (h, tt)
Above-place_lit k l (m ∷ ms) h a = by (put l m ms) (Above-place_lit k l ms h a.1)
  where
    by : Put l m ms → Above k (place_lit l ms) → Above k (place_lit l (m ∷ ms))
    by (here e p) r = subst (Above k) (sym p) a
    by (before e p) r = subst (Above k) (sym p) (h, a)
    by (after e p) r = subst (Above k) (sym p) (a.0, r)

pub LitsAscend-place_lit : (l : Lit) (ms : List Lit) → LitsAscend ms → LitsAscend (place_lit l ms)
LitsAscend-place_lit l [] a = (tt, tt)
LitsAscend-place_lit l (m ∷ ms) a = by (put l m ms) (LitsAscend-place_lit l ms a.1)
  where
    by : Put l m ms → LitsAscend (place_lit l ms) → LitsAscend (place_lit l (m ∷ ms))
    by (here e p) r = subst LitsAscend (sym p) a
    by (before h p) r = subst LitsAscend (sym p) ((h, Above-lower (key l) (key m) ms (omega (arith, h)) a.0), a)
    by (after h p) r = subst LitsAscend (sym p) (Above-place_lit (key m) l ms h a.0, r)

pub LitsAscend-by_variable : (ls : List Lit) → LitsAscend (by_variable ls)
LitsAscend-by_variable [] = tt
LitsAscend-by_variable (l ∷ ls) = LitsAscend-place_lit l (by_variable ls) (LitsAscend-by_variable ls)

-- the literals of a list with one more at its place
pub has_lit-place_lit : (k l : Lit) (ms : List Lit) → has_lit k (place_lit l ms) ≡ (same_lit k l || has_lit k ms)
has_lit-place_lit k l [] = refl
has_lit-place_lit k l (m ∷ ms) = by (put l m ms) (has_lit-place_lit k l ms)
  where
    twice : (a b c : Bool) → a ≡ b → (b || c) ≡ (a || (b || c))
    twice true true c e = refl
    twice false false c e = refl
    twice true false c e = absurd (true≢false e)
    twice false true c e = absurd (false≢true e)

    past : (a b c d : Bool) → d ≡ (a || c) → (b || d) ≡ (a || (b || c))
    past true true c d e = refl
    past true false c d e = e
    past false true c d e = refl
    past false false c d e = e

    by : Put l m ms → has_lit k (place_lit l ms) ≡ (same_lit k l || has_lit k ms) → has_lit k (place_lit l (m ∷ ms)) ≡ (same_lit k l || has_lit k (m ∷ ms))
    by (here e p) r = ap (has_lit k) p ∙ twice (same_lit k l) (same_lit k m) (has_lit k ms) (same_lit_key k l ∙ ap (eqb (key k)) e ∙ sym (same_lit_key k m))
    by (before h p) r = ap (has_lit k) p
    by (after h p) r = ap (has_lit k) p ∙ past (same_lit k l) (same_lit k m) (has_lit k ms) (has_lit k (place_lit l ms)) r

pub has_lit-by_variable : (k : Lit) (ls : List Lit) → has_lit k (by_variable ls) ≡ has_lit k ls
has_lit-by_variable k [] = refl
has_lit-by_variable k (l ∷ ls) = has_lit-place_lit k l (by_variable ls) ∙ ap (λ b. same_lit k l || b) (has_lit-by_variable k ls)

-- one that stands before all is not among them
pub has_lit-Above : (k : Lit) (ls : List Lit) → Above (key k) ls → has_lit k ls ≡ false
has_lit-Above k [] a = refl
has_lit-Above k (l ∷ ls) a =
    or_from (same_lit k l) (has_lit k ls) (same_lit_key k l ∙ ne_eqb (key k) (key l) (λ e. omega (arith, e, a.0))) (has_lit-Above k ls a.1)

has_head : (l : Lit) (ls : List Lit) → has_lit l (l ∷ ls) ≡ true
has_head l ls = or_left (same_lit l l) (has_lit l ls) (same_lit-refl l)

-- literals that ascend are told by what is among them
pub same_from_members : (xs ys : List Lit) → LitsAscend xs → LitsAscend ys → ((k : Lit) → has_lit k xs ≡ has_lit k ys) → xs ≡ ys
same_from_members [] [] a b h = refl
same_from_members [] (y ∷ ys) a b h = absurd (false≢true (h y ∙ has_head y ys))
same_from_members (x ∷ xs) [] a b h = absurd (false≢true (sym (h x) ∙ has_head x xs))
same_from_members (x ∷ xs) (y ∷ ys) a b h = by (cases_order (key x) (key y)) (same_from_members xs ys a.1 b.1)
  where
    by : ((key x ≡ key y) ⊎ ((key x < key y) ⊎ (key y < key x))) → (((k : Lit) → has_lit k xs ≡ has_lit k ys) → xs ≡ ys) → x ∷ xs ≡ y ∷ ys
    by (inr (inl l)) rest = absurd (false≢true (sym (has_lit-Above x (y ∷ ys) (l, Above-lower (key x) (key y) ys (omega (arith, l)) b.0)) ∙ sym (h x) ∙ has_head x xs))
    by (inr (inr l)) rest = absurd (false≢true (sym (has_lit-Above y (x ∷ xs) (l, Above-lower (key y) (key x) xs (omega (arith, l)) a.0)) ∙ h y ∙ has_head y ys))
    by (inl e) rest =
        let s : x ≡ y = same_lit-true x y (same_lit_key x y ∙ eq-eqb (key x) (key y) e) in
        ap (λ z. z ∷ xs) s ∙ ap (λ zs. y ∷ zs) (rest (λ k. tails k (cases_Bool (same_lit k x))))
      where
        tails : (k : Lit) → ((same_lit k x ≡ true) ⊎ (same_lit k x ≡ false)) → has_lit k xs ≡ has_lit k ys
        tails k (inl t) =
            let at : key k ≡ key x = eqb-true (key k) (key x) (sym (same_lit_key k x) ∙ t) in
            has_lit-Above k xs (subst (λ n. Above n xs) (sym at) a.0) ∙ sym (has_lit-Above k ys (subst (λ n. Above n ys) (sym (at ∙ e)) b.0))
        tails k (inr f) =
            let g : same_lit k y ≡ false = same_lit_key k y ∙ ap (eqb (key k)) (sym e) ∙ sym (same_lit_key k x) ∙ f in
            sym (ap (λ t. t || has_lit k xs) f) ∙ h k ∙ ap (λ t. t || has_lit k ys) g

-- what is among literals of which the same neighbours were left out
has_lit-dedup_from : (k l : Lit) (ls : List Lit) → has_lit k (dedup_from same_lit l ls) ≡ (same_lit k l || has_lit k ls)
has_lit-dedup_from k l [] = refl
has_lit-dedup_from k l (m ∷ ms) = by (cases_Bool (same_lit m l)) (has_lit-dedup_from k l ms) (has_lit-dedup_from k m ms)
  where
    twice : (a b c : Bool) → b ≡ a → (a || c) ≡ (a || (b || c))
    twice true true c e = refl
    twice false false c e = refl
    twice true false c e = refl
    twice false true c e = absurd (true≢false e)

    by : ((same_lit m l ≡ true) ⊎ (same_lit m l ≡ false)) → has_lit k (dedup_from same_lit l ms) ≡ (same_lit k l || has_lit k ms) → has_lit k (dedup_from same_lit m ms) ≡ (same_lit k m || has_lit k ms) → has_lit k (dedup_from same_lit l (m ∷ ms)) ≡ (same_lit k l || has_lit k (m ∷ ms))
    by (inl t) r s =
        ap (λ b. has_lit k (cond b (dedup_from same_lit l ms) (l ∷ dedup_from same_lit m ms))) t ∙ r ∙ twice (same_lit k l) (same_lit k m) (has_lit k ms) (ap (same_lit k) (same_lit-true m l t))
    by (inr f) r s =
        ap (λ b. has_lit k (cond b (dedup_from same_lit l ms) (l ∷ dedup_from same_lit m ms))) f ∙ ap (λ b. same_lit k l || b) s

has_lit-dedup : (k : Lit) (ls : List Lit) → has_lit k (dedup same_lit ls) ≡ has_lit k ls
has_lit-dedup k [] = refl
has_lit-dedup k (l ∷ ls) = has_lit-dedup_from k l ls

Above-from_Less : (l : Lit) (ls : List Lit) → AllByRecursion (λ m. lit_cmp l m ≡ Less) ls → Above (key l) ls
Above-from_Less l [] a = tt
Above-from_Less l (m ∷ ms) a = (less_key l m a.0, Above-from_Less l ms a.1)

LitsAscend-from_sorted : (ls : List Lit) → IsStrictlySortedBy lit_cmp ls → LitsAscend ls
unfolding IsStrictlySortedBy
LitsAscend-from_sorted [] s = tt
LitsAscend-from_sorted (l ∷ ls) s = (Above-from_Less l ls s.0, LitsAscend-from_sorted ls s.1)

-- what a sort and the removal of neighbours that are the same leave
pub by_variable-from_sort : (xs ys zs : List Lit) → IsPermutation xs ys → IsSorted lit_cmp ys → zs ≡ dedup same_lit ys → zs ≡ by_variable xs
by_variable-from_sort xs ys zs p s e =
    e ∙ same_from_members (dedup same_lit ys) (by_variable xs) (LitsAscend-from_sorted _ (IsStrictlySortedBy-dedup lit_cmp_total same_lit_tie ys s)) (LitsAscend-by_variable xs) (λ k. has_lit-dedup k ys ∙ sym (list_any-IsPermutation (same_lit k) xs ys p) ∙ sym (has_lit-by_variable k xs))
