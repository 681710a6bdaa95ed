-- The list of equations has each equation of two different atoms that all-different states, and no further ones.
use Rattle.std.proofs.Common.{◌≡◌, ◌≢◌, ℕ, zero, suc, ◌≤◌, ◌<◌, Bool, true, false, ◌&&◌, List, [], ◌∷◌, ◌++◌, length, ℤ, pos, ◌+ℤ◌, sym, ap, ◌∙◌, subst, arith, ⊎_elim}
use Rattle.std.specs.Prelude.{◌==◌, nat_lt}
use Rattle.std.specs.List.{flat_map}
use Rattle.std.proofs.lemmas.Bool.{false≢true, cases_lt, cases_Bool, eqb-true, eq-eqb}
use Rattle.order_ints.specs.declared.atom.Atom.{Atom}
use Rattle.order_ints.specs.declared.atom.Atom.TheVariants.{True, False}
use Rattle.order_ints.specs.declared.order_int.OrdInt.{OrdInt}
use Rattle.order_ints.specs.Truth.{not_atom}
use Rattle.order_ints.specs.OrderRange.{low_of}
use Rattle.order_ints.specs.OrderLevels.{values_of, at_of, is_among}
use Rattle.rule_base.specs.Pairs.{only_if}
use Rattle.rule_base.specs.Constant.{is_constant}
use Rattle.alldiff_rules.specs.Members.{int_at, condition_at, AreAllSure, choice_of, number_of_values}
use Rattle.alldiff_rules.specs.Rows.{IsAlone, IsRow, too_few, needed_elsewhere, equal_constants, opposite_twins, reached_alone, passed_alone}
use Rattle.alldiff_rules.specs.Twins.{first_atom}
use Rattle.alldiff_rules.specs.RowLists.{at_places, are_all_sure, is_sure, are_too_few, are_as_many, is_constant_elsewhere, are_twins, is_taken, is_nowhere_else, equations_at_value, equations_at_place, equations_of_twins, row_equations}
use Rattle.alldiff_rules.specs.Instances.{IsOneOf}
use Rattle.alldiff_rules.proofs.Pigeonhole.{among-first, among-later, among-cases}
use Rattle.alldiff_rules.proofs.Places.{and-left, and-right, sure-inside}
use Rattle.alldiff_rules.proofs.FindsLaws.{one-left, one-right, one-cases}
use Rattle.alldiff_rules.proofs.TestLaws.{all-sure, sure-all, both-true, ltb-true, true-ltb, constant-is, is-constant}
use Rattle.alldiff_rules.proofs.ValueCases.{at_of-skipped, one-if, if-one, AtValue, by_need, by_reaching, by_passing, value-cases, cases-value}
use Rattle.alldiff_rules.proofs.Decided.{decides-sure, decides-constant, decides-twins, decides-taken, decides-nowhere}

-- the atom that tells the greater one of two values
first-atom : (x : OrdInt) (low : ℤ) (p : Atom) (d : ℕ) → x ≡ choice_of low p d → first_atom x.steps ≡ p
first-atom x low p d is = ap (λ (y : OrdInt). first_atom y.steps) is

module _ (a b : Atom) where
  -- an equation at some place, and at some value
  places-one : (n : ℕ) (f : ℕ → List (Atom × Atom)) → IsOneOf a b (at_places n f) → (i : ℕ) × (i < n) × IsOneOf a b (f i)
  places-one zero f h = absurd h
  places-one (suc n) f h = ⊎_elim
      (λ (g : IsOneOf a b (at_places n f)). let r = places-one n f g in (r.0, omega (arith, r.1), r.2))
      (λ (g : IsOneOf a b (f n)). (n, omega arith, g))
      (one-cases a b (at_places n f) (f n) h)

  one-places : (n : ℕ) (f : ℕ → List (Atom × Atom)) (i : ℕ) → i < n → IsOneOf a b (f i) → IsOneOf a b (at_places n f)
  one-places zero f i lt h = absurd (omega (arith, lt))
  one-places (suc n) f i lt h = ⊎_elim
      (λ (l : i < n). one-left a b (at_places n f) (f n) (one-places n f i l h))
      (λ (le : n ≤ i). let e : i ≡ n = omega (arith, le, lt) in one-right a b (at_places n f) (f n) (subst (λ (j : ℕ). IsOneOf a b (f j)) e h))
      (cases_lt i n)

  values-one : (f : ℤ → List (Atom × Atom)) (vs : List ℤ) → IsOneOf a b (flat_map f vs) → (v : ℤ) × (is_among v vs ≡ true) × IsOneOf a b (f v)
  values-one f [] h = absurd h
  values-one f (v ∷ vs) h = ⊎_elim
      (λ (g : IsOneOf a b (f v)). (v, among-first v vs, g))
      (λ (g : IsOneOf a b (flat_map f vs)). let r = values-one f vs g in (r.0, among-later r.0 v vs r.1, r.2))
      (one-cases a b (f v) (flat_map f vs) h)

  one-values : (f : ℤ → List (Atom × Atom)) (vs : List ℤ) (v : ℤ) → is_among v vs ≡ true → IsOneOf a b (f v) → IsOneOf a b (flat_map f vs)
  one-values f [] v e h = absurd (false≢true e)
  one-values f (w ∷ vs) v e h = ⊎_elim
      (λ (s : w ≡ v). one-left a b (f w) (flat_map f vs) (subst (λ (u : ℤ). IsOneOf a b (f u)) (sym s) h))
      (λ (s : is_among v vs ≡ true). one-right a b (f w) (flat_map f vs) (one-values f vs v s h))
      (among-cases v w vs e)

  module _ (xs : List OrdInt) (cs : List Atom) where
    abbrev Constant : ℕ → Bool
    Constant k = is_constant (int_at xs k) && is_constant_elsewhere xs cs k (low_of (int_at xs k))

    abbrev OfConstant : ℕ → List (Atom × Atom)
    OfConstant k = only_if (Constant k) ((condition_at cs k, False) ∷ [])

    abbrev OfValues : ℕ → List (Atom × Atom)
    OfValues k = flat_map (λ v. equations_at_value xs cs k v) (values_of (int_at xs k))

    abbrev Few : List (Atom × Atom)
    Few = only_if (are_too_few xs cs) ((True, False) ∷ [])

    abbrev Members : List (Atom × Atom)
    Members = at_places (length xs) (λ k. equations_at_place xs cs k)

    abbrev Twins : List (Atom × Atom)
    Twins = at_places (length cs) (λ i. at_places (length cs) (λ j. equations_of_twins xs cs i j))

    abbrev Value : ℕ → ℤ → Type 0
    Value k v = AtValue (is_sure cs k && is_taken xs cs k v) (are_as_many xs cs && is_nowhere_else xs k v) (at_of (int_at xs k) v) (at_of (int_at xs k) (v +ℤ pos 1)) a b

    -- as many values as members, which all differ
    many-sure : are_as_many xs cs ≡ true → AreAllSure cs
    many-sure e = all-sure cs (and-left (are_all_sure cs) (number_of_values xs == length xs) e)

    many-are : are_as_many xs cs ≡ true → number_of_values xs ≡ length xs
    many-are e = eqb-true (number_of_values xs) (length xs) (and-right (are_all_sure cs) (number_of_values xs == length xs) e)

    are-many : AreAllSure cs → number_of_values xs ≡ length xs → are_as_many xs cs ≡ true
    are-many sure e = both-true (are_all_sure cs) (number_of_values xs == length xs) (sure-all cs sure) (eq-eqb (number_of_values xs) (length xs) e)

    -- a value that this member has alone
    told-alone : (k : ℕ) (v : ℤ) → k < length xs → is_among v (values_of (int_at xs k)) ≡ true → is_nowhere_else xs k v ≡ true → IsAlone xs k v
    told-alone k v lt here none = record { inside = lt; here = here; nowhere = (decides-nowhere xs cs k v).0 none }

    -- what is listed is stated
    few-row : IsOneOf a b Few → IsRow xs cs a b
    few-row h =
        let e = if-one a b True False (are_too_few xs cs) h in
        too_few (all-sure cs (and-left (are_all_sure cs) (nat_lt (number_of_values xs) (length xs)) e.0)) (ltb-true (number_of_values xs) (length xs) (and-right (are_all_sure cs) (nat_lt (number_of_values xs) (length xs)) e.0)) e.1 e.2

    constant-row : (k : ℕ) → k < length xs → IsOneOf a b (OfConstant k) → IsRow xs cs a b
    constant-row k lt h =
        let v : ℤ = low_of (int_at xs k) in
        let e = if-one a b (condition_at cs k) False (Constant k) h in
        let here = constant-is (int_at xs k) (and-left (is_constant (int_at xs k)) (is_constant_elsewhere xs cs k v) e.0) in
        let other = (decides-constant xs cs k v).0 (and-right (is_constant (int_at xs k)) (is_constant_elsewhere xs cs k v) e.0) in
        equal_constants other.0 k v other.2.0 lt other.2.1.0 other.2.1.1 here e.1 e.2

    value-row : (k : ℕ) (v : ℤ) → k < length xs → is_among v (values_of (int_at xs k)) ≡ true → Value k v → IsRow xs cs a b
    value-row k v lt here (by_need e f g) =
        needed_elsewhere k v lt ((decides-sure xs cs k).0 (and-left (is_sure cs k) (is_taken xs cs k v) e)) ((decides-taken xs cs k v).0 (and-right (is_sure cs k) (is_taken xs cs k v) e)) f g
    value-row k v lt here (by_reaching e f g) =
        let many = and-left (are_as_many xs cs) (is_nowhere_else xs k v) e in
        reached_alone k v (many-sure many) (many-are many) (told-alone k v lt here (and-right (are_as_many xs cs) (is_nowhere_else xs k v) e)) f g
    value-row k v lt here (by_passing e f g) =
        let many = and-left (are_as_many xs cs) (is_nowhere_else xs k v) e in
        passed_alone k v (many-sure many) (many-are many) (told-alone k v lt here (and-right (are_as_many xs cs) (is_nowhere_else xs k v) e)) f g

    values-row : (k : ℕ) → k < length xs → IsOneOf a b (OfValues k) → IsRow xs cs a b
    values-row k lt h =
        let r = values-one (λ v. equations_at_value xs cs k v) (values_of (int_at xs k)) h in
        value-row k r.0 lt r.1 (value-cases (is_sure cs k && is_taken xs cs k r.0) (are_as_many xs cs && is_nowhere_else xs k r.0) (at_of (int_at xs k) r.0) (at_of (int_at xs k) (r.0 +ℤ pos 1)) a b r.2)

    members-row : IsOneOf a b Members → IsRow xs cs a b
    members-row h =
        let r = places-one (length xs) (λ k. equations_at_place xs cs k) h in
        ⊎_elim (λ (f : IsOneOf a b (OfConstant r.0)). constant-row r.0 r.1 f) (λ (f : IsOneOf a b (OfValues r.0)). values-row r.0 r.1 f) (one-cases a b (OfConstant r.0) (OfValues r.0) r.2)

    twins-row : IsOneOf a b Twins → IsRow xs cs a b
    twins-row h =
        let r = places-one (length cs) (λ i. at_places (length cs) (λ j. equations_of_twins xs cs i j)) h in
        let s = places-one (length cs) (λ j. equations_of_twins xs cs r.0 j) r.2 in
        let e = if-one a b (first_atom (int_at xs r.0).steps) (not_atom (first_atom (int_at xs s.0).steps)) (are_twins xs cs r.0 s.0) s.2 in
        let t = (decides-twins xs cs r.0 s.0).0 e.0 in
        opposite_twins r.0 s.0 t.low t.step t.p t.q t.twins (e.1 ∙ first-atom (int_at xs r.0) t.low t.p t.step t.twins.first) (e.2 ∙ ap not_atom (first-atom (int_at xs s.0) t.low t.q t.step t.twins.second))

    pub listed-row : IsOneOf a b (row_equations xs cs) → IsRow xs cs a b
    listed-row h = ⊎_elim
        (λ (f : IsOneOf a b (Few ++ Members)). ⊎_elim (λ (g : IsOneOf a b Few). few-row g) (λ (g : IsOneOf a b Members). members-row g) (one-cases a b Few Members f))
        (λ (f : IsOneOf a b Twins). twins-row f)
        (one-cases a b (Few ++ Members) Twins h)

    -- what is stated of two different atoms is listed
    of-few : IsOneOf a b Few → IsOneOf a b (row_equations xs cs)
    of-few h = one-left a b (Few ++ Members) Twins (one-left a b Few Members h)

    of-member : (k : ℕ) → k < length xs → IsOneOf a b (equations_at_place xs cs k) → IsOneOf a b (row_equations xs cs)
    of-member k lt h = one-left a b (Few ++ Members) Twins (one-right a b Few Members (one-places (length xs) (λ k. equations_at_place xs cs k) k lt h))

    of-value : (k : ℕ) (v : ℤ) → k < length xs → is_among v (values_of (int_at xs k)) ≡ true → Value k v → IsOneOf a b (row_equations xs cs)
    of-value k v lt here h =
        of-member k lt
        (one-right a b (OfConstant k) (OfValues k)
        (one-values (λ v. equations_at_value xs cs k v) (values_of (int_at xs k)) v here
        (cases-value (is_sure cs k && is_taken xs cs k v) (are_as_many xs cs && is_nowhere_else xs k v) (at_of (int_at xs k) v) (at_of (int_at xs k) (v +ℤ pos 1)) a b h)))

    of-twins : (i j : ℕ) → i < length cs → j < length cs → IsOneOf a b (equations_of_twins xs cs i j) → IsOneOf a b (row_equations xs cs)
    of-twins i j lt_i lt_j h =
        one-right a b (Few ++ Members) Twins
        (one-places (length cs) (λ i. at_places (length cs) (λ j. equations_of_twins xs cs i j)) i lt_i
        (one-places (length cs) (λ j. equations_of_twins xs cs i j) j lt_j h))

    alone-told : (k : ℕ) (v : ℤ) → AreAllSure cs → number_of_values xs ≡ length xs → IsAlone xs k v → (are_as_many xs cs && is_nowhere_else xs k v) ≡ true
    alone-told k v sure many alone = both-true (are_as_many xs cs) (is_nowhere_else xs k v) (are-many sure many) ((decides-nowhere xs cs k v).1 alone.nowhere)

    pub row-listed : a ≢ b → IsRow xs cs a b → IsOneOf a b (row_equations xs cs)
    row-listed differ (too_few sure less e f) =
        of-few (one-if a b True False (are_too_few xs cs) (both-true (are_all_sure cs) (nat_lt (number_of_values xs) (length xs)) (sure-all cs sure) (true-ltb (number_of_values xs) (length xs) less)) e f)
    row-listed differ (needed_elsewhere k v lt sure taken e f) = ⊎_elim
        (λ (here : is_among v (values_of (int_at xs k)) ≡ true).
        of-value k v lt here (by_need (both-true (is_sure cs k) (is_taken xs cs k v) ((decides-sure xs cs k).1 sure) ((decides-taken xs cs k v).1 taken)) e f))
        (λ (none : is_among v (values_of (int_at xs k)) ≡ false). absurd (differ (e ∙ at_of-skipped (int_at xs k) v none ∙ sym f)))
        (cases_Bool (is_among v (values_of (int_at xs k))))
    row-listed differ (equal_constants i j v ne lt sure first second e f) =
        let low : low_of (int_at xs j) ≡ v = ap low_of second in
        let other : is_constant_elsewhere xs cs j v ≡ true = (decides-constant xs cs j v).1 (i, sure-inside cs i sure, (ne, (sure, first))) in
        of-member j lt
        (one-left a b (OfConstant j) (OfValues j)
        (one-if a b (condition_at cs j) False (Constant j)
        (both-true (is_constant (int_at xs j)) (is_constant_elsewhere xs cs j (low_of (int_at xs j))) (is-constant (int_at xs j) v second) (ap (is_constant_elsewhere xs cs j) low ∙ other)) e f))
    row-listed differ (opposite_twins i j v d p q twins e f) =
        of-twins i j (sure-inside cs i twins.sure_first) (sure-inside cs j twins.sure_second)
        (one-if a b (first_atom (int_at xs i).steps) (not_atom (first_atom (int_at xs j).steps)) (are_twins xs cs i j)
        ((decides-twins xs cs i j).1 (record { low = v; step = d; p = p; q = q; twins = twins }))
        (e ∙ sym (first-atom (int_at xs i) v p d twins.first)) (f ∙ sym (ap not_atom (first-atom (int_at xs j) v q d twins.second))))
    row-listed differ (reached_alone i v sure many alone e f) = of-value i v alone.inside alone.here (by_reaching (alone-told i v sure many alone) e f)
    row-listed differ (passed_alone i v sure many alone e f) = of-value i v alone.inside alone.here (by_passing (alone-told i v sure many alone) e f)
