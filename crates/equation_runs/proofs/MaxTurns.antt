-- Each equation that links a greatest member with the integer that it is, at values that no other member reaches, is made or stated in
-- every view.
use Rattle.std.proofs.Common.{◌≡◌, ℕ, ◌+◌, ◌≤◌, ◌==◌, Bool, true, false, cond, inl, inr, List, [], ◌∷◌, ◌++◌, map, append_assoc, ℤ, pos, ◌+ℤ◌, ◌≤ℤ◌, ◌<ℤ◌, refl, sym, ap, subst, ◌∙◌, ⊎_elim, arith}
use Rattle.std.specs.Prelude.{int_le, nat_le, filter}
use Rattle.std.specs.Ordering.{int_eq}
use Rattle.std.proofs.lemmas.Bool.{false≢true, or_cases}
use Rattle.std.proofs.lemmas.Bool.Decides.{nat_tests}
use Rattle.std.proofs.lemmas.Int.{ints}
use Rattle.order_ints.specs.declared.atom.Atom.{Atom}
use Rattle.order_ints.specs.declared.atom.Atom.TheVariants.{False}
use Rattle.order_ints.specs.declared.order_int.OrdInt.{OrdInt}
use Rattle.order_ints.specs.OrderRange.{high_of}
use Rattle.order_ints.specs.OrderLevels.{values_of, at_of, is_among}
use Rattle.order_ints.specs.View.{resolve}
use Rattle.order_ints.proofs.Comparisons.{int_le-true, int_le-false}
use Rattle.order_ints.proofs.Reaching.{at_of-high}
use Rattle.core_forms.specs.declared.equation.Rule.TheVariants.{Form}
use Rattle.core_forms.specs.declared.form.Core.TheVariants.{Max}
use Rattle.core_forms.specs.Resolved.{map_steps}
use Rattle.core_forms.specs.Trimmed.{trimmed_int}
use Rattle.core_forms.proofs.Tidied.{by_test, high-raised_by, weights-map_steps}
use Rattle.rule_base.specs.Pairs.{only_if}
use Rattle.arith_rules.specs.Links.{alike_where, alike_back}
use Rattle.arith_rules.specs.MaxRows.{member_ranges, top_equations, reaching, is_sole, linked_equations, leader_equations, unreached_equations, max_equations}
use Rattle.equation_runs.specs.RunRows.{equation_of}
use Rattle.equation_runs.proofs.AtTrimmed.{cases-le}
use Rattle.equation_runs.proofs.NextValue.{or-left, or-right, IsNext, IsFrom, next-value}
use Rattle.equation_runs.proofs.LinkedAt.{MoveTogether, RaisedAt, raised_one, raised_first, raised_second, raised-at}
use Rattle.equation_runs.proofs.LinkLists.{IsWithin, IsOneOrListed, listed-left, listed-right, listed-if, listed-at, one-within, EachPair, each-append, each-if}
use Rattle.equation_runs.proofs.ChainTurns.{trimmed_ints}
use Rattle.equation_runs.proofs.LaterTurns.{AreToldAlways}
use Rattle.equation_runs.proofs.Always.{Told, IsLinked, linked-at, arith_listed, arith-always}

-- ---- lists of what passes a test

eq-from-test : (v w : ℤ) → int_eq v w ≡ true → v ≡ w
eq-from-test v w h = grind (arith, ints)

among-passed : (test : ℤ → Bool) (w : ℤ) (vs : List ℤ) → is_among w vs ≡ true → test w ≡ true → is_among w (filter test vs) ≡ true
among-passed test w [] one pass = one
among-passed test w (v ∷ vs) one pass = ⊎_elim
    (λ (h : int_eq v w ≡ true). by_test (test v) (v ∷ filter test vs) (filter test vs) (λ us. is_among w us ≡ true)
    (λ _. or-left (int_eq v w) (is_among w (filter test vs)) h)
    (λ isnt. absurd (false≢true (sym isnt ∙ ap test (eq-from-test v w h) ∙ pass))))
    (λ (h : is_among w vs ≡ true). by_test (test v) (v ∷ filter test vs) (filter test vs) (λ us. is_among w us ≡ true)
    (λ _. or-right (int_eq v w) (is_among w (filter test vs)) (among-passed test w vs h pass))
    (λ _. among-passed test w vs h pass))
    (or_cases (int_eq v w) (is_among w vs) one)

each-passed : (P : Atom → Atom → Type 0) (f : ℤ → Atom × Atom) (test : ℤ → Bool) (vs : List ℤ) → ((v : ℤ) → test v ≡ true → P (f v).0 (f v).1) → EachPair P (map f (filter test vs))
each-passed P f test [] each = tt
each-passed P f test (v ∷ vs) each =
    by_test (test v) (v ∷ filter test vs) (filter test vs) (λ us. EachPair P (map f us))
    (λ pass. (each v pass, each-passed P f test vs each)) (λ _. each-passed P f test vs each)

-- ---- how many members reach a value

-- whether h is at least v, as a number
abbrev one : ℤ → ℤ → ℕ
one v h = cond (int_le v h) 1 0

one-true : (v h : ℤ) → v ≤ℤ h → one v h ≡ 1
one-true v h le = let f : Bool → ℕ = λ t. cond t 1 0 in ap f (int_le-true v h le)

one-false : (v h : ℤ) → h <ℤ v → one v h ≡ 0
one-false v h lt = let f : Bool → ℕ = λ t. cond t 1 0 in ap f (int_le-false v h lt)

one-falls : (u v h k : ℤ) → v ≤ℤ u → k ≤ℤ h → one u k ≤ one v h
one-falls u v h k le low = ⊎_elim
    (λ (up : u ≤ℤ k). let e = one-true u k up in let f = one-true v h (omega (arith, ints, le, low, up)) in omega (arith, e, f))
    (λ (lt : k <ℤ u). let e = one-false u k lt in omega (arith, e)) (cases-le u k)

high-falls : (view : List Atom) (a : OrdInt) → high_of (trimmed_int view a) ≤ℤ high_of a
high-falls view a = subst (λ n. high_of (trimmed_int view a) ≤ℤ (a.base +ℤ pos n)) (weights-map_steps (resolve view) a.steps) (high-raised_by a.base (map_steps (resolve view) a.steps))

sum-le : (k m n p : ℕ) → k ≤ m → n ≤ p → k + n ≤ m + p
sum-le k m n p h g = omega (arith, h, g)

-- a higher value is reached by no more
reaching-falls : (u v : ℤ) (xs : List OrdInt) → v ≤ℤ u → reaching u xs ≤ reaching v xs
reaching-falls u v [] le = omega arith
reaching-falls u v (a ∷ xs) le = sum-le (one u (high_of a)) (one v (high_of a)) (reaching u xs) (reaching v xs) (one-falls u v (high_of a) (high_of a) le (omega (arith, ints))) (reaching-falls u v xs le)

module _ (view : List Atom) (u v : ℤ) (le : v ≤ℤ u) where
  -- nor by more members as a view has them
  trimmed-falls : (xs : List OrdInt) → reaching u (trimmed_ints view xs) ≤ reaching v xs
  trimmed-falls [] = omega arith
  trimmed-falls (a ∷ xs) = sum-le (one u (high_of (trimmed_int view a))) (one v (high_of a)) (reaching u (trimmed_ints view xs)) (reaching v xs) (one-falls u v (high_of a) (high_of (trimmed_int view a)) le (high-falls view a)) (trimmed-falls xs)

  -- and by fewer where one of them stays below
  trimmed-less : (before : List OrdInt) (a : OrdInt) (rest : List OrdInt) → v ≤ℤ high_of a → high_of (trimmed_int view a) <ℤ u
      → reaching u (trimmed_ints view (before ++ a ∷ rest)) + 1 ≤ reaching v (before ++ a ∷ rest)
  trimmed-less [] a rest up down =
      let e = one-true v (high_of a) up in
      let f = one-false u (high_of (trimmed_int view a)) down in
      let g = trimmed-falls rest in
      omega (arith, e, f, g)
  trimmed-less (b ∷ before) a rest up down =
      let g = trimmed-less before a rest up down in
      let h = one-falls u v (high_of b) (high_of (trimmed_int view b)) le (high-falls view b) in
      omega (arith, g, h)

sole-few : (xs : List OrdInt) (v : ℤ) → is_sole xs v ≡ true → reaching v xs ≤ 1
sole-few xs v e = few (reaching v xs) e
  where
    few : (n : ℕ) → nat_le n 1 ≡ true → n ≤ 1
    few n e = grind (arith, nat_tests)

few-sole : (xs : List OrdInt) (v : ℤ) → reaching v xs ≤ 1 → is_sole xs v ≡ true
few-sole xs v h = sole (reaching v xs) h
  where
    sole : (n : ℕ) → n ≤ 1 → nat_le n 1 ≡ true
    sole n h = grind (arith, nat_tests)

none-test : (xs : List OrdInt) (v : ℤ) → reaching v xs ≤ 0 → (reaching v xs == 0) ≡ true
none-test xs v h = none (reaching v xs) h
  where
    none : (n : ℕ) → n ≤ 0 → (n == 0) ≡ true
    none n h = grind (arith, nat_tests)

-- ---- atoms of two integers at one value

alike : MoveTogether (λ v. v) (λ v. v)
alike = record { tests = λ w v. refl; back = λ v. refl }

alike-listed : (test : ℤ → Bool) (c a : OrdInt) (ps : List (Atom × Atom)) → IsWithin (alike_where test c a ++ alike_back test a c) ps → (v : ℤ) → ((w : ℤ) → v ≤ℤ w → test w ≡ true) → IsOneOrListed (at_of c v) (at_of a v) ps
alike-listed test c a ps within v pass = by (raised-at (λ u. u) (λ u. u) alike c a v)
  where
    by : RaisedAt (λ u. u) (λ u. u) c a v → IsOneOrListed (at_of c v) (at_of a v) ps
    by (raised_one e) = inl e
    by (raised_first w from is e q) =
        inr (within (at_of c v) (at_of a v) (listed-left (at_of c v) (at_of a v) (alike_where test c a) (alike_back test a c)
        (listed-at (λ u. (at_of c u, at_of a u)) w (filter test (values_of c)) (at_of c v) (at_of a v) (among-passed test w (values_of c) is (pass w from)) e q)))
    by (raised_second w from is e q) =
        inr (within (at_of c v) (at_of a v) (listed-right (at_of c v) (at_of a v) (alike_where test c a) (alike_back test a c)
        (listed-at (λ u. (at_of c u, at_of a u)) w (filter test (values_of a)) (at_of c v) (at_of a v) (among-passed test w (values_of a) is (pass w from)) q e)))

-- where no member reaches v or a greater value, c is below v
unreached-listed : (c : OrdInt) (xs : List OrdInt) (v : ℤ) → reaching v xs ≤ 0 → IsOneOrListed (at_of c v) False (unreached_equations c xs)
unreached-listed c xs v none = ⊎_elim
    (λ (p : IsFrom (at_of c) v False). inl (p v (omega (arith, ints))))
    (λ (n : IsNext (at_of c) (values_of c) v). inr
    (listed-at (λ u. (at_of c u, False)) n.value (filter (λ u. reaching u xs == 0) (values_of c)) (at_of c v) False
    (among-passed (λ u. reaching u xs == 0) n.value (values_of c) n.is_one
    (none-test xs n.value (let f = reaching-falls n.value v xs n.from in omega (arith, f, none))))
    (n.same n.value n.from (omega (arith, ints))) refl))
    (next-value c v)

-- ---- the links of one member

leader-within : (view : List Atom) (c : OrdInt) (all before : List OrdInt) (a : OrdInt) (rest : List OrdInt)
    → IsWithin (only_if (is_sole all (high_of (trimmed_int view a))) (linked_equations c (trimmed_int view a) all)) (leader_equations c all (trimmed_ints view (before ++ a ∷ rest)))
leader-within view c all [] a rest x y e =
    listed-left x y (only_if (is_sole all (high_of (trimmed_int view a))) (linked_equations c (trimmed_int view a) all)) (leader_equations c all (trimmed_ints view rest)) e
leader-within view c all (b ∷ before) a rest x y e =
    listed-right x y (only_if (is_sole all (high_of (trimmed_int view b))) (linked_equations c (trimmed_int view b) all)) (leader_equations c all (trimmed_ints view (before ++ a ∷ rest)))
    (leader-within view c all before a rest x y e)

module _ (c : OrdInt) (before : List OrdInt) (a : OrdInt) (rest : List OrdInt) (leads : is_sole (before ++ a ∷ rest) (high_of a) ≡ true) (view : List Atom) (v : ℤ) (sole : is_sole (before ++ a ∷ rest) v ≡ true) where
  abbrev all : List OrdInt
  all = before ++ a ∷ rest

  abbrev now : List OrdInt
  now = trimmed_ints view (before ++ a ∷ rest)

  few-above : (w : ℤ) → v ≤ℤ w → reaching w now ≤ 1
  few-above w from = let f = trimmed-falls view w v from all in let g = sole-few all v sole in omega (arith, f, g)

  -- it still leads
  linked-still : is_sole now (high_of (trimmed_int view a)) ≡ true → IsOneOrListed (at_of (trimmed_int view c) v) (at_of (trimmed_int view a) v) (max_equations now (trimmed_int view c))
  linked-still leads_still =
      alike-listed (is_sole now) (trimmed_int view c) (trimmed_int view a) (max_equations now (trimmed_int view c))
      (λ x y e. listed-right x y (member_ranges (trimmed_int view c) now ++ top_equations (trimmed_int view c) now ++ unreached_equations (trimmed_int view c) now) (leader_equations (trimmed_int view c) now now)
      (leader-within view (trimmed_int view c) now before a rest x y
      (listed-if x y (is_sole now (high_of (trimmed_int view a))) (linked_equations (trimmed_int view c) (trimmed_int view a) now) leads_still e)))
      v (λ w from. few-sole now w (few-above w from))

  -- it does not: it has come down below v, which no member reaches any more
  come-down : is_sole now (high_of (trimmed_int view a)) ≡ false → high_of (trimmed_int view a) <ℤ v
  come-down follows = ⊎_elim
      (λ (le : v ≤ℤ high_of (trimmed_int view a)). absurd (false≢true (sym follows ∙ few-sole now (high_of (trimmed_int view a)) (few-above (high_of (trimmed_int view a)) le))))
      (λ (lt : high_of (trimmed_int view a) <ℤ v). lt) (cases-le v (high_of (trimmed_int view a)))

  none-left : high_of (trimmed_int view a) <ℤ v → reaching v now ≤ 0
  none-left down = ⊎_elim
      (λ (le : v ≤ℤ high_of a). let f = trimmed-less view v v (omega (arith, ints)) before a rest le down in let g = sole-few all v sole in omega (arith, f, g))
      (λ (lt : high_of a <ℤ v). let f = trimmed-less view v (high_of a) (omega (arith, ints, lt)) before a rest (omega (arith, ints)) down in let g = sole-few all (high_of a) leads in omega (arith, f, g))
      (cases-le v (high_of a))

  false-above : high_of (trimmed_int view a) <ℤ v → IsOneOrListed (at_of (trimmed_int view c) v) (at_of (trimmed_int view a) v) (max_equations now (trimmed_int view c))
  false-above down =
      subst (λ (x : Atom). IsOneOrListed (at_of (trimmed_int view c) v) x (max_equations now (trimmed_int view c))) (sym (at_of-high (trimmed_int view a) v down))
      (one-within (at_of (trimmed_int view c) v) False (unreached_equations (trimmed_int view c) now) (max_equations now (trimmed_int view c))
      (λ e. listed-left (at_of (trimmed_int view c) v) False (member_ranges (trimmed_int view c) now ++ top_equations (trimmed_int view c) now ++ unreached_equations (trimmed_int view c) now) (leader_equations (trimmed_int view c) now now)
      (listed-right (at_of (trimmed_int view c) v) False (member_ranges (trimmed_int view c) now ++ top_equations (trimmed_int view c) now) (unreached_equations (trimmed_int view c) now) e))
      (unreached-listed (trimmed_int view c) now v (none-left down)))

  leader-at : IsOneOrListed (at_of (trimmed_int view c) v) (at_of (trimmed_int view a) v) (max_equations now (trimmed_int view c))
  leader-at = by (is_sole now (high_of (trimmed_int view a))) refl
    where
      by : (t : Bool) → is_sole now (high_of (trimmed_int view a)) ≡ t → IsOneOrListed (at_of (trimmed_int view c) v) (at_of (trimmed_int view a) v) (max_equations now (trimmed_int view c))
      by true e = linked-still e
      by false e = false-above (come-down e)

-- ---- all of them

module _ (c : OrdInt) (all : List OrdInt) where
  abbrev listed : List Atom → List (Atom × Atom)
  listed = arith_listed (Max all c)

  linked-values : (before : List OrdInt) (a : OrdInt) (rest : List OrdInt) → before ++ a ∷ rest ≡ all → is_sole all (high_of a) ≡ true → (v : ℤ) → is_sole all v ≡ true → IsLinked listed (at_of c v) (at_of a v)
  linked-values before a rest is leads v sole =
      linked-at listed c a v v (λ view. subst (λ (xs : List OrdInt). IsOneOrListed (at_of (trimmed_int view c) v) (at_of (trimmed_int view a) v) (arith_listed (Max xs c) view)) is
      (leader-at c before a rest (ap (λ xs. is_sole xs (high_of a)) is ∙ leads) view v (ap (λ xs. is_sole xs v) is ∙ sole)))

  each-leader : (before xs : List OrdInt) → before ++ xs ≡ all → EachPair (IsLinked listed) (leader_equations c all xs)
  each-leader before [] is = tt
  each-leader before (a ∷ rest) is =
      each-append (IsLinked listed) (only_if (is_sole all (high_of a)) (linked_equations c a all)) (leader_equations c all rest)
      (each-if (IsLinked listed) (is_sole all (high_of a)) (linked_equations c a all)
      (λ leads. each-append (IsLinked listed) (alike_where (is_sole all) c a) (alike_back (is_sole all) a c)
      (each-passed (IsLinked listed) (λ v. (at_of c v, at_of a v)) (is_sole all) (values_of c) (linked-values before a rest is leads))
      (each-passed (IsLinked listed) (λ v. (at_of c v, at_of a v)) (is_sole all) (values_of a) (linked-values before a rest is leads))))
      (each-leader (before ++ a ∷ []) rest (append_assoc before (a ∷ []) rest ∙ is))

  pub leaders-turn : AreToldAlways Told (Max all c) (map (equation_of Form) (leader_equations c all all))
  leaders-turn = arith-always (Max all c) (leader_equations c all all) (each-leader [] all refl)
