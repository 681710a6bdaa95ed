-- The clauses of a core have at most as many literals as it costs.
use Rattle.std.proofs.Common.{◌≡◌, ℕ, zero, suc, ◌+◌, ◌*◌, ◌≤◌, min, Bool, true, false, ◌||◌, cond, List, [], ◌∷◌, ◌++◌, length, map, ℤ, pos, ◌+ℤ◌, ◌≤ℤ◌, ◌<ℤ◌, refl, sym, ap, ◌∙◌, arith}
use Rattle.std.specs.Prelude.{filter, nat_le}
use Rattle.std.specs.Ordering.{int_eq}
use Rattle.std.proofs.Math.Nat.{zero-mul, suc-mul}
use Rattle.std.proofs.lemmas.Bool.{false≢true}
use Rattle.std.proofs.lemmas.Bool.Decides.{nat_tests}
use Rattle.std.proofs.lemmas.Int.{ints}
use Rattle.std.proofs.lemmas.List.{length-map}
use Rattle.order_ints.specs.declared.atom.Atom.{Atom}
use Rattle.order_ints.specs.declared.atom.Atom.TheVariants.{True}
use Rattle.order_ints.specs.declared.order_int.OrdInt.{OrdInt}
use Rattle.order_ints.specs.Truth.{not_atom}
use Rattle.order_ints.specs.OrderRange.{AreRising}
use Rattle.order_ints.specs.OrderLevels.{is_among, levels, levels_of, values_of, at_of}
use Rattle.order_ints.specs.Walk.{has_value}
use Rattle.core_cost.specs.ListForms.{cost_of_parity, cost_of_conj, cost_of_amo}
use Rattle.core_cost.specs.Comparisons.{cost_of_ladder}
use Rattle.core_cost.specs.Arithmetic.{cost_of_members}
use Rattle.core_forms.specs.declared.form.Core.TheVariants.{Max}
use Rattle.core_forms.specs.Shapes.{steps_of, numbers_of_steps}
use Rattle.core_forms.specs.Cost.{cost_of}
use Rattle.direct_encode.specs.Literals.{literals}
use Rattle.direct_encode.specs.Orders.{order_clauses_above, order_clauses_of_steps, order_clauses, orders_of}
use Rattle.direct_encode.specs.Comparisons.{reaching_clause, reaching_clauses, exceeding_clause, exceeding_clauses, differing_clause, common_values, differing_clauses, leq_clauses, eq_clauses}
use Rattle.direct_encode.specs.AtomLists.{parity_clauses, member_clauses, conj_clauses, amo_clauses}
use Rattle.direct_encode.specs.Maxima.{at_most_clause, at_most_clauses, all_at_most_clauses, some_reaching_clause, some_reaching_clauses, max_clauses}

pub literals-append : (cs ds : List (List Atom)) → literals (cs ++ ds) ≡ literals cs + literals ds
literals-append [] ds = omega arith
literals-append (c ∷ cs) ds = let rest = literals-append cs ds in omega (arith, rest)

-- clauses of one length
pub literals-map : {X : Type 0} (f : X → List Atom) (k : ℕ) (xs : List X) → ((x : X) → length (f x) ≡ k) → literals (map f xs) ≡ length xs * k
literals-map f k [] each = sym (zero-mul k)
literals-map f k (x ∷ xs) each =
    let rest = literals-map f k xs each in
    let here = each x in
    let more = suc-mul (length xs) k in
    omega (arith, rest, here, more)

length-levels : (low : ℤ) (x : Atom) (steps : List (Atom × ℕ)) → length (levels low x steps) ≡ length steps + 1
length-levels low x [] = omega arith
length-levels low x (s ∷ steps) = let rest = length-levels (low +ℤ pos s.1) s.0 steps in omega (arith, rest)

-- there is one value more than there are steps
pub length-values : (a : OrdInt) → length (values_of a) ≡ steps_of a + 1
length-values a = length-map (levels_of a) (λ (level : ℤ × Atom). level.0) ∙ length-levels a.base True a.steps

-- order
literals-above : (p : Atom) (steps : List (Atom × ℕ)) → literals (order_clauses_above p steps) ≡ 2 * length steps
literals-above p [] = omega arith
literals-above p (s ∷ steps) = let rest = literals-above s.0 steps in omega (arith, rest)

literals-order_of_steps : (steps : List (Atom × ℕ)) → literals (order_clauses_of_steps steps) ≡ cost_of_ladder (length steps)
literals-order_of_steps [] = refl
literals-order_of_steps (s ∷ steps) = literals-above s.0 steps

pub literals-order : (a : OrdInt) → literals (order_clauses a) ≡ cost_of_ladder (steps_of a)
literals-order a = literals-order_of_steps a.steps

-- lists of atoms
long : (n k : ℕ) → k ≤ 4 → nat_le (suc (suc (suc (suc (suc n))))) k ≡ true → ⊥
long n k le h = false≢true (sym (over n k le) ∙ h)
  where
    over : (n k : ℕ) → k ≤ 4 → nat_le (suc (suc (suc (suc (suc n))))) k ≡ false
    over n k le = grind (arith, nat_tests)

four : (n : ℕ) → nat_le (suc (suc (suc (suc n)))) 3 ≡ true → ⊥
four n h = false≢true (sym (over n) ∙ h)
  where
    over : (n : ℕ) → nat_le (suc (suc (suc (suc n)))) 3 ≡ false
    over n = grind (arith, nat_tests)

pub literals-parity : (ls : List Atom) (odd : Bool) → nat_le (length ls) 3 ≡ true → literals (parity_clauses ls odd) ≤ cost_of_parity (length ls)
literals-parity [] true h = omega arith
literals-parity [] false h = omega arith
literals-parity (a ∷ []) true h = omega arith
literals-parity (a ∷ []) false h = omega arith
literals-parity (a ∷ b ∷ []) true h = omega arith
literals-parity (a ∷ b ∷ []) false h = omega arith
literals-parity (a ∷ b ∷ c ∷ []) true h = omega arith
literals-parity (a ∷ b ∷ c ∷ []) false h = omega arith
literals-parity (a ∷ b ∷ c ∷ d ∷ ls) odd h = absurd (four (length ls) h)

pub literals-conj : (r : Atom) (ls : List Atom) → literals (conj_clauses r ls) ≡ cost_of_conj (length ls)
literals-conj r ls =
    let split = literals-append (member_clauses r ls) ((r ∷ map not_atom ls) ∷ []) in
    let members = literals-map (λ l. not_atom r ∷ l ∷ []) 2 ls (λ l. refl) in
    let last = length-map ls not_atom in
    omega (arith, split, members, last)

pub literals-amo : (ls : List Atom) → nat_le (length ls) 4 ≡ true → literals (amo_clauses ls) ≤ cost_of_amo (length ls)
literals-amo [] h = omega arith
literals-amo (a ∷ []) h = omega arith
literals-amo (a ∷ b ∷ []) h = omega arith
literals-amo (a ∷ b ∷ c ∷ []) h = omega arith
literals-amo (a ∷ b ∷ c ∷ d ∷ []) h = omega arith
literals-amo (a ∷ b ∷ c ∷ d ∷ e ∷ ls) h = absurd (long (length ls) 4 (omega arith) h)

-- comparisons
literals-reaching : (r : Atom) (a b : OrdInt) → literals (reaching_clauses r a b) ≡ 3 * (steps_of a + 1)
literals-reaching r a b =
    let each = literals-map (reaching_clause r a b) 3 (values_of a) (λ v. refl) in
    let count = length-values a in
    omega (arith, each, count)

literals-exceeding : (r : Atom) (a b : OrdInt) → literals (exceeding_clauses r a b) ≡ 3 * (steps_of b + 1)
literals-exceeding r a b =
    let each = literals-map (exceeding_clause r a b) 3 (values_of b) (λ v. refl) in
    let count = length-values b in
    omega (arith, each, count)

-- of values that rise at most one is y, and so at most as many are among others as there are others
abbrev Risen : ℤ → List ℤ → Type 0
Risen u [] = Unit {0}
Risen u (v ∷ vs) = (u ≤ℤ v) × Risen (v +ℤ pos 1) vs

none-is : (y u : ℤ) (vs : List ℤ) → y <ℤ u → Risen u vs → length (filter (λ v. int_eq y v) vs) ≡ 0
none-is y u [] lt rise = refl
none-is y u (v ∷ vs) lt rise =
    ap (λ t. length (cond t (v ∷ filter (λ w. int_eq y w) vs) (filter (λ w. int_eq y w) vs))) (apart y u v lt rise.0)
    ∙ none-is y (v +ℤ pos 1) vs (omega (arith, ints, lt, rise.0)) rise.1
  where
    apart : (y u v : ℤ) → y <ℤ u → u ≤ℤ v → int_eq y v ≡ false
    apart y u v lt le = grind (arith, ints)

below-next : (y v : ℤ) → int_eq y v ≡ true → y <ℤ (v +ℤ pos 1)
below-next y v e = grind (arith, ints)

one-more : (y v : ℤ) (vs : List ℤ) (t : Bool) → int_eq y v ≡ t → Risen (v +ℤ pos 1) vs → length (filter (λ w. int_eq y w) vs) ≤ 1 → length (cond t (v ∷ filter (λ w. int_eq y w) vs) (filter (λ w. int_eq y w) vs)) ≤ 1
one-more y v vs true e rise rest = let none = none-is y (v +ℤ pos 1) vs (below-next y v e) rise in omega (arith, none)
one-more y v vs false e rise rest = rest

one-is : (y u : ℤ) (vs : List ℤ) → Risen u vs → length (filter (λ v. int_eq y v) vs) ≤ 1
one-is y u [] rise = omega arith
one-is y u (v ∷ vs) rise = one-more y v vs (int_eq y v) refl rise.1 (one-is y (v +ℤ pos 1) vs rise.1)

filter-or : (p q : ℤ → Bool) (vs : List ℤ) → length (filter (λ v. p v || q v) vs) ≤ length (filter p vs) + length (filter q vs)
filter-or p q [] = omega arith
filter-or p q (v ∷ vs) = by (p v) (q v) (filter-or p q vs)
  where
    by : (s t : Bool) → length (filter (λ w. p w || q w) vs) ≤ length (filter p vs) + length (filter q vs) → length (cond (s || t) (v ∷ filter (λ w. p w || q w) vs) (filter (λ w. p w || q w) vs)) ≤ length (cond s (v ∷ filter p vs) (filter p vs)) + length (cond t (v ∷ filter q vs) (filter q vs))
    by true true h = omega (arith, h)
    by true false h = omega (arith, h)
    by false true h = omega (arith, h)
    by false false h = h

none-among : (vs : List ℤ) → length (filter (λ v. is_among v []) vs) ≡ 0
none-among [] = refl
none-among (v ∷ vs) = none-among vs

among-few : (u : ℤ) (vs ys : List ℤ) → Risen u vs → length (filter (λ v. is_among v ys) vs) ≤ length ys
among-few u vs [] rise = let none = none-among vs in omega (arith, none)
among-few u vs (y ∷ ys) rise =
    let both = filter-or (λ v. int_eq y v) (λ v. is_among v ys) vs in
    let one = one-is y u vs rise in
    let rest = among-few u vs ys rise in
    omega (arith, both, one, rest)

length-filter : (p : ℤ → Bool) (vs : List ℤ) → length (filter p vs) ≤ length vs
length-filter p [] = omega arith
length-filter p (v ∷ vs) = by (p v) (length-filter p vs)
  where
    by : (t : Bool) → length (filter p vs) ≤ length vs → length (cond t (v ∷ filter p vs) (filter p vs)) ≤ suc (length vs)
    by true h = omega (arith, h)
    by false h = omega (arith, h)

risen-levels : (u low : ℤ) (x : Atom) (steps : List (Atom × ℕ)) → u ≤ℤ low → AreRising steps → Risen u (map (λ (level : ℤ × Atom). level.0) (levels low x steps))
risen-levels u low x [] le rising = (le, tt)
risen-levels u low x (s ∷ steps) le rising =
    (le, risen-levels (low +ℤ pos 1) (low +ℤ pos s.1) s.0 steps (omega (arith, ints, rising.0)) rising.1)

itself : (v : ℤ) → v ≤ℤ v
itself v = omega (arith, ints)

common-few : (a b : OrdInt) → AreRising a.steps → length (common_values a b) ≤ min (steps_of a) (steps_of b) + 1
common-few a b rising =
    let one = length-filter (has_value b) (values_of a) in
    let other = among-few a.base (values_of a) (values_of b) (risen-levels a.base a.base True a.steps (itself a.base) rising) in
    let na = length-values a in
    let nb = length-values b in
    omega (arith, one, other, na, nb)

pub literals-leq : (r : Atom) (a b : OrdInt) → literals (leq_clauses r a b) ≡ 3 * (steps_of a + steps_of b + 2)
literals-leq r a b =
    let split = literals-append (reaching_clauses r a b) (exceeding_clauses r a b) in
    let first = literals-reaching r a b in
    let second = literals-exceeding r a b in
    omega (arith, split, first, second)

pub literals-eq : (r : Atom) (a b : OrdInt) → AreRising a.steps → literals (eq_clauses r a b) ≤ 3 * (steps_of a + steps_of b + 2) + 5 * (min (steps_of a) (steps_of b) + 1)
literals-eq r a b rising =
    let split = literals-append (reaching_clauses r a b) (reaching_clauses r b a ++ differing_clauses r a b) in
    let more = literals-append (reaching_clauses r b a) (differing_clauses r a b) in
    let first = literals-reaching r a b in
    let second = literals-reaching r b a in
    let third = literals-map (differing_clause r a b) 5 (common_values a b) (λ v. refl) in
    let few = common-few a b rising in
    omega (arith, split, more, first, second, third, few)

pub literals-compared : (a b : OrdInt) (cs : List (List Atom)) → literals (order_clauses a ++ (order_clauses b ++ cs)) ≡ cost_of_ladder (steps_of a) + cost_of_ladder (steps_of b) + literals cs
literals-compared a b cs =
    let split = literals-append (order_clauses a) (order_clauses b ++ cs) in
    let more = literals-append (order_clauses b) cs in
    let first = literals-order a in
    let second = literals-order b in
    omega (arith, split, more, first, second)

-- a greatest member
literals-at_most : (a c : OrdInt) → literals (at_most_clauses a c) ≡ 2 * (steps_of a + 1)
literals-at_most a c =
    let each = literals-map (at_most_clause a c) 2 (values_of a) (λ v. refl) in
    let count = length-values a in
    omega (arith, each, count)

literals-members : (ints : List OrdInt) (c : OrdInt) → literals (orders_of ints) + literals (all_at_most_clauses ints c) ≡ cost_of_members (numbers_of_steps ints)
literals-members [] c = omega arith
literals-members (a ∷ ints) c =
    let orders = literals-append (order_clauses a) (orders_of ints) in
    let most = literals-append (at_most_clauses a c) (all_at_most_clauses ints c) in
    let first = literals-order a in
    let second = literals-at_most a c in
    let rest = literals-members ints c in
    omega (arith, orders, most, first, second, rest)

length-numbers : (ints : List OrdInt) → length (numbers_of_steps ints) ≡ length ints
length-numbers [] = refl
length-numbers (a ∷ ints) = ap suc (length-numbers ints)

literals-some_reaching : (ints : List OrdInt) (c : OrdInt) → literals (some_reaching_clauses ints c) ≡ (steps_of c + 1) * (length (numbers_of_steps ints) + 1)
literals-some_reaching ints c =
    literals-map (some_reaching_clause ints c) (length (numbers_of_steps ints) + 1) (values_of c) each
    ∙ ap (λ n. n * (length (numbers_of_steps ints) + 1)) (length-values c)
  where
    each : (v : ℤ) → length (some_reaching_clause ints c v) ≡ length (numbers_of_steps ints) + 1
    each v =
        let all = length-map ints (λ (a : OrdInt). at_of a v) in
        let numbers = length-numbers ints in
        omega (arith, all, numbers)

pub literals-of_max : (ints : List OrdInt) (c : OrdInt) → literals (orders_of ints ++ (order_clauses c ++ max_clauses ints c)) ≡ cost_of (Max ints c)
literals-of_max ints c =
    let split = literals-append (orders_of ints) (order_clauses c ++ max_clauses ints c) in
    let more = literals-append (order_clauses c) (max_clauses ints c) in
    let parts = literals-append (all_at_most_clauses ints c) (some_reaching_clauses ints c) in
    let members = literals-members ints c in
    let order = literals-order c in
    let some = literals-some_reaching ints c in
    omega (arith, split, more, parts, members, order, some)
