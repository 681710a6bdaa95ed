-- Each line of the table as a test is true exactly where the line holds.
use Rattle.std.proofs.Common.{◌≡◌, ◌≢◌, ◌⊎◌, ◌↔◌, ℕ, zero, suc, ◌<◌, ℤ, pos, ◌-ℤ◌, ◌*ℤ◌, ◌<ℤ◌, Bool, true, false, List, [], ◌∷◌, length, get_or, IsTrue, arith, inl, inr, refl, sym}
use Rattle.std.specs.Bool.{Decides}
use Rattle.std.proofs.lemmas.Bool.{false≢true}
use Rattle.std.proofs.lemmas.Bool.Decides.{Decides-int_eq, Decides-or, Decides-and, Decides-not, Decides-like}
use Rattle.std.proofs.lemmas.Int.{ints}
use Rattle.model_meaning.specs.Terms.{value_at}
use Rattle.model_meaning.specs.Integers.{IsQuotient, is_quotient}
use Rattle.model_meaning.specs.Lists.{AllDiffer, DifferWhere, IsBefore, InOrder, differs_from, all_differ, differs_where, differ_where, in_order}
use Rattle.model_meaning.specs.Holds.{same, reify, Reify}
use Rattle.model_meaning.proofs.DomainLaws.{Decides-int_le, Decides-int_lt}

pub Decides-same : (x y : Bool) → Decides (same x y) (x ≡ y)
Decides-same true true = (λ e. refl, λ e. refl)
Decides-same true false = (λ e. absurd (false≢true e), λ e. sym e)
Decides-same false true = (λ e. absurd (false≢true e), λ e. e)
Decides-same false false = (λ e. refl, λ e. refl)

-- z is the truth of what a test decides
pub Decides-truth : {P : Type 0} → (z b : Bool) → Decides b P → Decides (same z b) (IsTrue z ↔ P)
Decides-truth true true d = (λ e. (λ h. d.0 refl, λ h. refl), λ h. refl)
Decides-truth true false d = (λ e. absurd (false≢true e), λ h. d.1 (h.0 refl))
Decides-truth false true d = (λ e. absurd (false≢true e), λ h. h.1 (d.0 refl))
Decides-truth false false d = (λ e. (λ h. absurd (false≢true h), λ h. d.1 h), λ h. refl)

pub Decides-reify : {P : Type 0} → (r z b : Bool) → Decides b P → Decides (reify r z b) (Reify r z P)
Decides-reify true z b d = Decides-truth z b d
Decides-reify false z b d = d

-- division
pub Decides-is_quotient : (i j k : ℤ) → Decides (is_quotient i j k) (IsQuotient i j k)
Decides-is_quotient i j k =
    Decides-like _ (λ h. (i -ℤ j *ℤ k, omega (arith, ints), h.0, h.1)) (λ h. (omega (arith, ints, h.1, h.2), omega (arith, ints, h.1, h.3)))
    (Decides-and _ _ (Decides-int_le (pos 0) (i -ℤ j *ℤ k)) (Decides-int_lt (i -ℤ j *ℤ k) j))

-- members that differ
pub Decides-differs_from : (x : ℤ) (ys : List ℤ) → Decides (differs_from x ys) ((j : ℕ) → j < length ys → x ≢ value_at ys j)
Decides-differs_from x [] = (λ e j h. absurd (omega arith), λ h. refl)
Decides-differs_from x (y ∷ ys) =
    Decides-like _
    (λ h j. elim j as (λ j. j < suc (length ys) → x ≢ value_at (y ∷ ys) j) [ zero ↦ λ _. h.0 | suc m ↦ λ l. h.1 m (omega arith) ])
    (λ h. (h 0 (omega arith), λ j l. h (suc j) (omega arith)))
    (Decides-and _ _ (Decides-not _ (Decides-int_eq x y)) (Decides-differs_from x ys))

all_differ-to : (x : ℤ) (xs : List ℤ) → ((j : ℕ) → j < length xs → x ≢ value_at xs j) × AllDiffer xs → AllDiffer (x ∷ xs)
all_differ-to x xs h zero zero k l = absurd (omega arith)
all_differ-to x xs h zero (suc j) k l = h.0 j (omega arith)
all_differ-to x xs h (suc i) zero k l = absurd (omega arith)
all_differ-to x xs h (suc i) (suc j) k l = h.1 i j (omega arith) (omega arith)

differs_where-to : (x y : ℤ) (ys : List ℤ) (c : Bool) (cs : List Bool) → (¬ (IsTrue c × (x ≡ y))) × ((j : ℕ) → j < length ys → IsTrue (get_or cs j false) → x ≢ value_at ys j) → (j : ℕ) → j < suc (length ys) → IsTrue (get_or (c ∷ cs) j false) → x ≢ value_at (y ∷ ys) j
differs_where-to x y ys c cs h zero l t = λ e. h.0 (t, e)
differs_where-to x y ys c cs h (suc j) l t = h.1 j (omega arith) t

differ_where-to : (x : ℤ) (xs : List ℤ) (c : Bool) (cs : List Bool) → ((j : ℕ) → j < length xs → IsTrue (get_or cs j false) → x ≢ value_at xs j) × DifferWhere xs cs → DifferWhere (x ∷ xs) (c ∷ cs)
differ_where-to x xs c cs h zero zero k l = absurd (omega arith)
differ_where-to x xs c cs h zero (suc j) k l = λ t w. h.0 j (omega arith) w
differ_where-to x xs c cs h (suc i) zero k l = absurd (omega arith)
differ_where-to x xs c cs h (suc i) (suc j) k l = h.1 i j (omega arith) (omega arith)

differ_where-skip : (x : ℤ) (xs : List ℤ) (cs : List Bool) → DifferWhere xs cs → DifferWhere (x ∷ xs) (false ∷ cs)
differ_where-skip x xs cs h zero j k l = λ t. absurd (false≢true t)
differ_where-skip x xs cs h (suc i) zero k l = absurd (omega arith)
differ_where-skip x xs cs h (suc i) (suc j) k l = h i j (omega arith) (omega arith)

pub Decides-all_differ : (xs : List ℤ) → Decides (all_differ xs) (AllDiffer xs)
Decides-all_differ [] = (λ e i j h k. absurd (omega arith), λ h. refl)
Decides-all_differ (x ∷ xs) =
    Decides-like _ (all_differ-to x xs) (λ h. (λ j l. h 0 (suc j) (omega arith) (omega arith), λ i j k l. h (suc i) (suc j) (omega arith) (omega arith)))
    (Decides-and _ _ (Decides-differs_from x xs) (Decides-all_differ xs))

-- members that differ where their conditions are true
pub Decides-differs_where : (x : ℤ) (ys : List ℤ) (cs : List Bool) → Decides (differs_where x ys cs) ((j : ℕ) → j < length ys → IsTrue (get_or cs j false) → x ≢ value_at ys j)
Decides-differs_where x [] cs = (λ e j h. absurd (omega arith), λ h. refl)
Decides-differs_where x (y ∷ ys) [] = (λ e j h t. absurd (false≢true t), λ h. refl)
Decides-differs_where x (y ∷ ys) (c ∷ cs) =
    Decides-like _ (differs_where-to x y ys c cs)
    (λ h. (λ p. h 0 (omega arith) p.0 p.1, λ j l. h (suc j) (omega arith)))
    (Decides-and _ _ (Decides-not _ (Decides-and c _ (λ e. e, λ e. e) (Decides-int_eq x y))) (Decides-differs_where x ys cs))

pub Decides-differ_where : (xs : List ℤ) (cs : List Bool) → Decides (differ_where xs cs) (DifferWhere xs cs)
Decides-differ_where [] cs = (λ e i j h k. absurd (omega arith), λ h. refl)
Decides-differ_where (x ∷ xs) [] = (λ e i j h k t. absurd (false≢true t), λ h. refl)
Decides-differ_where (x ∷ xs) (true ∷ cs) =
    Decides-like _ (differ_where-to x xs true cs)
    (λ h. (λ j l t. h 0 (suc j) (omega arith) (omega arith) refl t, λ i j k l. h (suc i) (suc j) (omega arith) (omega arith)))
    (Decides-and _ _ (Decides-differs_where x xs cs) (Decides-differ_where xs cs))
Decides-differ_where (x ∷ xs) (false ∷ cs) =
    Decides-like _ (differ_where-skip x xs cs) (λ h i j k l. h (suc i) (suc j) (omega arith) (omega arith)) (Decides-differ_where xs cs)

-- lists in order
before_to : (x y : ℤ) (xs ys : List ℤ) → (x <ℤ y) ⊎ ((x ≡ y) × IsBefore xs ys) → IsBefore (x ∷ xs) (y ∷ ys)
before_to x y xs ys (inl l) = (0, omega arith, omega arith, l, λ i h. absurd (omega arith))
before_to x y xs ys (inr h) =
    (suc h.1.0, omega (arith, h.1.1), omega (arith, h.1.2), h.1.3, λ i. elim i as (λ i. i < suc h.1.0 → value_at (x ∷ xs) i ≡ value_at (y ∷ ys) i) [ zero ↦ λ l. h.0 | suc m ↦ λ l. h.1.4 m (omega arith) ])

before_from : (x y : ℤ) (xs ys : List ℤ) (k : ℕ) → k < suc (length xs) → k < suc (length ys) → value_at (x ∷ xs) k <ℤ value_at (y ∷ ys) k → ((i : ℕ) → i < k → value_at (x ∷ xs) i ≡ value_at (y ∷ ys) i) → (x <ℤ y) ⊎ ((x ≡ y) × IsBefore xs ys)
before_from x y xs ys zero p q l h = inl l
before_from x y xs ys (suc k) p q l h = inr (h 0 (omega arith), (k, omega arith, omega arith, l, λ i m. h (suc i) (omega arith)))

head_same : (x y : ℤ) (xs ys : List ℤ) → x ∷ xs ≡ y ∷ ys → x ≡ y
head_same x y xs ys e = cc

tail_same : (x y : ℤ) (xs ys : List ℤ) → x ∷ xs ≡ y ∷ ys → xs ≡ ys
tail_same x y xs ys e = cc

cons_same : (x y : ℤ) (xs ys : List ℤ) → x ≡ y → xs ≡ ys → x ∷ xs ≡ y ∷ ys
cons_same x y xs ys e f = cc

order_to : (s : Bool) (x y : ℤ) (xs ys : List ℤ) → (x <ℤ y) ⊎ ((x ≡ y) × InOrder s xs ys) → InOrder s (x ∷ xs) (y ∷ ys)
order_to true x y xs ys h = before_to x y xs ys h
order_to false x y xs ys (inl l) = inl (before_to x y xs ys (inl l))
order_to false x y xs ys (inr h) =
    elim h.1 as (λ _. InOrder false (x ∷ xs) (y ∷ ys)) [ inl b ↦ inl (before_to x y xs ys (inr (h.0, b))) | inr e ↦ inr (cons_same x y xs ys h.0 e) ]

order_from : (s : Bool) (x y : ℤ) (xs ys : List ℤ) → InOrder s (x ∷ xs) (y ∷ ys) → (x <ℤ y) ⊎ ((x ≡ y) × InOrder s xs ys)
order_from true x y xs ys h = before_from x y xs ys h.0 h.1 h.2 h.3 h.4
order_from false x y xs ys (inl h) =
    elim (before_from x y xs ys h.0 h.1 h.2 h.3 h.4) as (λ _. (x <ℤ y) ⊎ ((x ≡ y) × InOrder false xs ys)) [ inl l ↦ inl l | inr b ↦ inr (b.0, inl b.1) ]
order_from false x y xs ys (inr e) = inr (head_same x y xs ys e, inr (tail_same x y xs ys e))

pub Decides-in_order : (s : Bool) (xs ys : List ℤ) → Decides (in_order s xs ys) (InOrder s xs ys)
Decides-in_order true [] [] = (λ e. absurd (false≢true e), λ h. absurd (omega (arith, h.1)))
Decides-in_order false [] [] = (λ e. inr refl, λ h. refl)
Decides-in_order true [] (y ∷ ys) = (λ e. absurd (false≢true e), λ h. absurd (omega (arith, h.1)))
Decides-in_order false [] (y ∷ ys) = (λ e. absurd (false≢true e), λ h. elim h as (λ _. false ≡ true) [ inl b ↦ absurd (omega (arith, b.1)) | inr e ↦ cc ])
Decides-in_order true (x ∷ xs) [] = (λ e. absurd (false≢true e), λ h. absurd (omega (arith, h.2)))
Decides-in_order false (x ∷ xs) [] = (λ e. absurd (false≢true e), λ h. elim h as (λ _. false ≡ true) [ inl b ↦ absurd (omega (arith, b.2)) | inr e ↦ cc ])
Decides-in_order s (x ∷ xs) (y ∷ ys) =
    Decides-like _ (order_to s x y xs ys) (order_from s x y xs ys) (Decides-or _ _ (Decides-int_lt x y) (Decides-and _ _ (Decides-int_eq x y) (Decides-in_order s xs ys)))
