-- What a core with a variable that gets a new label counts for.
use Rattle.std.proofs.Common.{◌≡◌, ℕ, zero, suc, ◌+◌, ◌≤◌, ◌<◌, ◌==◌, Bool, true, false, ◌&&◌, List, [], ◌∷◌, length, get_or, Contains, refl, sym, ap, ◌∙◌, subst, arith, rules, ⊎_elim, Option, Some, None}
use Rattle.std.specs.Prelude.{nat_lt, is_some, if◌then◌else◌}
use Rattle.std.specs.List.{list_any}
use Rattle.std.proofs.lemmas.Bool.{cases_eq, cases_lt, le-ltb}
use Rattle.std.proofs.lemmas.Bool.Decides.{nat_tests}
use Rattle.order_ints.specs.declared.atom.Atom.{Atom}
use Rattle.core_forms.specs.declared.form.Core.{Core}
use Rattle.core_forms.specs.Variables.{core_vars}
use Rattle.index_ring.specs.Lists.{times}
use Rattle.step_kernel.specs.Kernel.{core_at, pending}
use Rattle.step_kernel.proofs.LeastCompound.{core_at-next}
use Rattle.fixpoint_queue.specs.Pairs.{is_relabelled, has_var, relabelled_in, relabelled_pairs}

-- ---- sums over numbers from 1 on

pub sum_to : ℕ → (ℕ → ℕ) → ℕ
sum_to zero f = 0
sum_to (suc n) f = f (suc n) + sum_to n f

pub sum-le : (n : ℕ) (f g : ℕ → ℕ) → ((i : ℕ) → 1 ≤ i → i ≤ n → f i ≤ g i) → sum_to n f ≤ sum_to n g
unfolding sum_to
sum-le zero f g h = omega arith
sum-le (suc n) f g h = omega (arith, h (suc n) (omega arith) (omega arith), sum-le n f g (λ i low high. h i low (omega (arith, high))))

pub sum-add : (n : ℕ) (f g : ℕ → ℕ) → sum_to n (λ i. f i + g i) ≡ sum_to n f + sum_to n g
unfolding sum_to
sum-add zero f g = refl
sum-add (suc n) f g = omega (arith, sum-add n f g)

pub sum-none : (n : ℕ) → sum_to n (λ i. 0) ≡ 0
unfolding sum_to
sum-none zero = refl
sum-none (suc n) = omega (arith, sum-none n)

abbrev pub one_at : ℕ → ℕ → ℕ
one_at x i = if x == i then 1 else 0

pub one_at-other : (x i : ℕ) → (x ≡ i → ⊥) → one_at x i ≡ 0
one_at-other x i n = by (x == i) refl
  where
    by : (b : Bool) → (x == i) ≡ b → ◌≡◌ {A = ℕ} (if b then 1 else 0) 0
    by true t = absurd (n (grind (arith, nat_tests, t)))
    by false t = refl

pub one_at-own : (x : ℕ) → one_at x x ≡ 1
one_at-own x = let t : (x == x) ≡ true = grind (arith, nat_tests) in ap (λ (b : Bool). if b then 1 else 0) t

sum-past : (n x : ℕ) → n < x → sum_to n (one_at x) ≡ 0
unfolding sum_to
sum-past zero x h = refl
sum-past (suc n) x h = omega (arith, one_at-other x (suc n) (λ e. absurd (omega (arith, e, h))), sum-past n x (omega (arith, h)))

pub sum-one : (n x : ℕ) → 1 ≤ x → x ≤ n → sum_to n (one_at x) ≡ 1
unfolding sum_to
sum-one zero x low high = absurd (omega (arith, low, high))
sum-one (suc n) x low high =
    ⊎_elim
    (λ (e : x ≡ suc n). subst (λ (y : ℕ). one_at y (suc n) + sum_to n (one_at y) ≡ 1) (sym e) (omega (arith, one_at-own (suc n), sum-past n (suc n) (omega arith))))
    (λ (other : x ≡ suc n → ⊥).
    let within : x ≤ n = ⊎_elim (λ (lt : n < x). absurd (other (omega (arith, lt, high)))) (λ (le : x ≤ n). le) (cases_lt n x) in
    omega (arith, one_at-other x (suc n) other, sum-one n x low within))
    (cases_eq x (suc n))

-- a list of numbers from 1 to n is as long as all its numbers stand in it together
pub length-sum : (n : ℕ) (xs : List ℕ) → ((x : ℕ) → 1 ≤ times x xs → (1 ≤ x) × (x ≤ n)) → length xs ≡ sum_to n (λ i. times i xs)
length-sum n [] inside = sym (sum-none n)
length-sum n (x ∷ xs) inside =
    let here = inside x (omega (arith, times-first x xs)) in
    omega (arith, length-sum n xs (λ y there. inside y (omega (arith, there, times-more y x xs))), sum-one n x here.0 here.1, sum-add n (one_at x) (λ i. times i xs))
  where
    times-first : (y : ℕ) (ys : List ℕ) → 1 ≤ times y (y ∷ ys)
    times-first y ys = omega (arith, one_at-own y)

    times-more : (y z : ℕ) (ys : List ℕ) → times y ys ≤ times y (z ∷ ys)
    times-more y z ys = omega arith

-- ---- a core

pub list_any-from : (v : ℕ) (vars : List ℕ) → Contains vars v → list_any (λ w. w == v) vars ≡ true
list_any-from v vars c = at vars c.0 c.1 c.2
  where
    at : (ws : List ℕ) (i : ℕ) → i < length ws → get_or ws i v ≡ v → list_any (λ w. w == v) ws ≡ true
    at [] i lt e = absurd (omega (arith, lt))
    at (w ∷ ws) zero lt e = let t : (w == v) ≡ true = grind (arith, nat_tests, e) in search (rules, t)
    at (w ∷ ws) (suc i) lt e = let t = at ws i (omega (arith, lt)) e in search (rules, t)

-- a variable of a core that gets a new label counts
pub counted-var : (old new : List Atom) (core : Core) (n v : ℕ) → 1 ≤ v → v ≤ n → Contains (core_vars core) v → is_relabelled old new v ≡ true → 1 ≤ relabelled_in old new core n
counted-var old new core zero v low high there is = absurd (omega (arith, low, high))
counted-var old new core (suc n) v low high there is =
    ⊎_elim
    (λ (e : v ≡ suc n).
    let t : (has_var core (suc n) && is_relabelled old new (suc n)) ≡ true =
    subst (λ (w : ℕ). (has_var core w && is_relabelled old new w) ≡ true) e (both (has_var core v) (is_relabelled old new v) (list_any-from v (core_vars core) there) is) in
    let one : (if has_var core (suc n) && is_relabelled old new (suc n) then 1 else 0) ≡ 1 = ap {B = ℕ} (λ (b : Bool). if b then 1 else 0) t in
    omega (arith, one))
    (λ (other : v ≡ suc n → ⊥).
    let within : v ≤ n = ⊎_elim (λ (lt : n < v). absurd (other (omega (arith, lt, high)))) (λ (le : v ≤ n). le) (cases_lt n v) in
    omega (arith, counted-var old new core n v low within there is))
    (cases_eq v (suc n))
  where
    both : (p q : Bool) → p ≡ true → q ≡ true → (p && q) ≡ true
    both p q hp hq = search (rules, hp, hq)

-- ---- all cores

abbrev pub counted_at : List Atom → List Atom → Option Core → ℕ
counted_at old new None = 0
counted_at old new (Some core) = relabelled_in old new core (length old)

-- a number for each place, together
total : (Option Core → ℕ) → List (Option Core) → ℕ
total f [] = 0
total f (c ∷ cores) = f c + total f cores

pairs-total : (old new : List Atom) (cores : List (Option Core)) → relabelled_pairs old new (pending cores) ≡ total (counted_at old new) cores
unfolding total
pairs-total old new [] = refl
pairs-total old new (None ∷ cores) = omega (arith, pairs-total old new cores)
pairs-total old new (Some core ∷ cores) = ap (λ (n : ℕ). relabelled_in old new core (length old) + n) (pairs-total old new cores)

-- a sum from its first term on
sum-first : (n : ℕ) (f : ℕ → ℕ) → sum_to (suc n) f ≡ f 1 + sum_to n (λ i. f (suc i))
unfolding sum_to
sum-first zero f = refl
sum-first (suc n) f = omega (arith, sum-first n f)

total-sum : (f : Option Core → ℕ) (cores : List (Option Core)) → total f cores ≡ sum_to (length cores) (λ id. f (core_at cores id))
unfolding total sum_to
total-sum f [] = refl
total-sum f (c ∷ cores) =
    omega (arith, total-sum f cores, sum-first (length cores) (λ id. f (core_at (c ∷ cores) id)), same (length cores))
  where
    at-next : (i : ℕ) → core_at (c ∷ cores) (suc (suc i)) ≡ core_at cores (suc i)
    at-next i =
        let e : suc (suc i) ≡ suc i + 1 = omega arith in
        let f : suc i ≡ i + 1 = omega arith in
        ap (core_at (c ∷ cores)) e ∙ core_at-next (c ∷ cores) (suc i) ∙ sym (ap (core_at cores) f ∙ core_at-next cores i)

    same : (n : ℕ) → sum_to n (λ i. f (core_at (c ∷ cores) (suc i))) ≡ sum_to n (λ id. f (core_at cores id))
    same zero = refl
    same (suc n) = omega (arith, same n, ap f (at-next n))

-- the pairs of the pending cores are those of each id
pub pairs-sum : (old new : List Atom) (cores : List (Option Core)) → relabelled_pairs old new (pending cores) ≡ sum_to (length cores) (λ id. counted_at old new (core_at cores id))
pairs-sum old new cores = pairs-total old new cores ∙ total-sum (counted_at old new) cores

-- and so many cores are pending as ids have one
abbrev pub one_there : Option Core → ℕ
one_there o = if is_some o then 1 else 0

pending-total : (cores : List (Option Core)) → length (pending cores) ≡ total one_there cores
unfolding total
pending-total [] = refl
pending-total (None ∷ cores) = omega (arith, pending-total cores)
pending-total (Some core ∷ cores) = omega (arith, pending-total cores)

pub pending-sum : (cores : List (Option Core)) → length (pending cores) ≡ sum_to (length cores) (λ id. one_there (core_at cores id))
pending-sum cores = pending-total cores ∙ total-sum one_there cores

-- ---- numbers past a limit

abbrev pub one_past : ℕ → ℕ → ℕ
one_past limit i = if nat_lt limit i then 1 else 0

none-past : (n limit : ℕ) → n ≤ limit → sum_to n (one_past limit) ≡ 0
unfolding sum_to
none-past zero limit h = refl
none-past (suc n) limit h =
    let no : nat_lt limit (suc n) ≡ false = le-ltb limit (suc n) h in
    omega (arith, ap {B = ℕ} (λ (b : Bool). if b then 1 else 0) no, none-past n limit (omega (arith, h)))

most-one : (t : Bool) → (if t then 1 else 0) ≤ 1
most-one true = omega arith
most-one false = omega arith

pub past-sum : (n limit : ℕ) → limit ≤ n → sum_to n (one_past limit) + limit ≤ n
unfolding sum_to
past-sum zero limit h = omega (arith, h)
past-sum (suc n) limit h =
    ⊎_elim
    (λ (within : limit < suc n). omega (arith, most-one (nat_lt limit (suc n)), past-sum n limit (omega (arith, within))))
    (λ (all : suc n ≤ limit). omega (arith, none-past (suc n) limit all, h))
    (cases_lt limit (suc n))
