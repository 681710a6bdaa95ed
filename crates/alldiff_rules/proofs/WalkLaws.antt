-- The equations that tables give are those that all-different states.
use Rattle.std.proofs.Common.{◌≡◌, ℕ, ◌<◌, Bool, true, false, not, ◌&&◌, ◌⊎◌, inl, inr, List, [], ◌∷◌, ◌++◌, map, length, get_or, ℤ, pos, ◌+ℤ◌, refl, ap, sym, ◌∙◌, subst, subst₂, arith, ⊎_elim}
use Rattle.std.specs.Prelude.{◌==◌, nat_lt, Option}
use Rattle.std.specs.Option.{option_or, is_some}
use Rattle.std.specs.List.{AllByRecursion}
use Rattle.std.specs.BTreeMap.{get}
use Rattle.std.specs.Ordering.{int_cmp}
use Rattle.std.proofs.lemmas.Bool.{true≢false, false≢true, cases_Bool, false_from_ne_true, eqb-true, eq-eqb}
use Rattle.std.proofs.lemmas.List.{get_or_read}
use Rattle.order_ints.specs.declared.atom.Atom.{Atom}
use Rattle.order_ints.specs.declared.atom.Atom.TheVariants.{True, False}
use Rattle.order_ints.specs.declared.order_int.OrdInt.{OrdInt}
use Rattle.order_ints.specs.Truth.{not_atom}
use Rattle.order_ints.specs.Same.{is_true}
use Rattle.order_ints.specs.Equality.{is_true-True}
use Rattle.order_ints.specs.OrderRange.{low_of}
use Rattle.order_ints.specs.OrderLevels.{levels_of, values_of, at_of, is_among}
use Rattle.order_ints.specs.OrderMade.{constant_of}
use Rattle.order_ints.proofs.Truths.{not_atom-not_atom}
use Rattle.order_ints.proofs.Everywhere.{levels_at}
use Rattle.core_forms.specs.WellFormed.{AreSound}
use Rattle.rule_base.specs.declared.sought.SoughtEquation.{SoughtEquation}
use Rattle.rule_base.specs.Pairs.{is_sought, first_sought, only_if}
use Rattle.rule_base.specs.Constant.{is_constant}
use Rattle.rule_base.proofs.PairLaws.{both-found, front-found, back-found}
use Rattle.alldiff_rules.specs.declared.member_tables.Tables.{Tables}
use Rattle.alldiff_rules.specs.Table.{has_others, HasOther}
use Rattle.alldiff_rules.specs.Members.{int_at, condition_at, AreAllSure, IsConstantAt, number_of_values}
use Rattle.alldiff_rules.specs.Narrow.{is_needed}
use Rattle.alldiff_rules.specs.Rows.{IsAlone, IsRow, too_few, needed_elsewhere, equal_constants, opposite_twins, reached_alone, passed_alone, AreTwins}
use Rattle.alldiff_rules.specs.Instances.{IsOneOf}
use Rattle.alldiff_rules.specs.Finds.{Finds, IsOfTwo}
use Rattle.alldiff_rules.specs.Twins.{IsTwinRow}
use Rattle.alldiff_rules.specs.RowLists.{are_all_sure, value_equations}
use Rattle.alldiff_rules.specs.Walks.{AreTables, is_alone, level_equations, constant_equations, equations_of_member, member_equations, IsOfSomeMember}
use Rattle.alldiff_rules.proofs.Pigeonhole.{among-cases, among-first, among-later}
use Rattle.alldiff_rules.proofs.Shown.{one-told, told-one}
use Rattle.alldiff_rules.proofs.Holders.{told-taken, taken-told}
use Rattle.alldiff_rules.proofs.Places.{and-left, and-right, sure-inside}
use Rattle.alldiff_rules.proofs.Sounds.{sound-at}
use Rattle.alldiff_rules.proofs.FindsLaws.{list-finds, or-finds, one-left, one-right, one-cases}
use Rattle.alldiff_rules.proofs.TestLaws.{all-sure, sure-all, both-true, true-is, ltb-true, true-ltb, constant-is, is-constant, not-true, false-not}
use Rattle.alldiff_rules.proofs.ValueCases.{at_of-skipped, one-if, if-one, AtValue, by_need, by_reaching, by_passing, value-cases, cases-value}

-- the three searches at a value, one after another
pub value-found : (sought : SoughtEquation) (needed alone : Bool) (here above : Atom) (o p q : Option (Atom × Atom)) → o ≡ first_sought sought (only_if needed ((here, above) ∷ [])) → p ≡ first_sought sought (only_if alone ((here, True) ∷ [])) → q ≡ first_sought sought (only_if alone ((above, False) ∷ [])) → option_or (option_or o p) q ≡ first_sought sought (value_equations needed alone here above)
value-found sought needed alone here above o p q first second third =
    both-found sought (only_if needed ((here, above) ∷ []) ++ only_if alone ((here, True) ∷ [])) (only_if alone ((above, False) ∷ [])) (option_or o p) q
    (both-found sought (only_if needed ((here, above) ∷ [])) (only_if alone ((here, True) ∷ [])) o p first second) third

-- a loop along levels stops at the first one with an equation that is looked for
module _ (sought : SoughtEquation) (tables : Tables) (k : ℕ) (sure : Bool) (a : OrdInt) (ls rest : List (ℤ × Atom)) (v : ℤ) (x : Atom) (o : Option (Atom × Atom))
    (is : ls ≡ (v, x) ∷ rest) (found : o ≡ first_sought sought (value_equations (sure && is_needed tables.narrow k v) (is_alone tables k v) x (at_of a (v +ℤ pos 1)))) where
  pub level-stop : is_some o ≡ true → o ≡ first_sought sought (level_equations tables k sure a ls)
  level-stop some =
      front-found sought (value_equations (sure && is_needed tables.narrow k v) (is_alone tables k v) x (at_of a (v +ℤ pos 1))) (level_equations tables k sure a rest) o found some
      ∙ ap (λ (ys : List (ℤ × Atom)). first_sought sought (level_equations tables k sure a ys)) (sym is)

  pub level-next : is_some o ≡ false → first_sought sought (level_equations tables k sure a rest) ≡ first_sought sought (level_equations tables k sure a ls)
  level-next none =
      back-found sought (value_equations (sure && is_needed tables.narrow k v) (is_alone tables k v) x (at_of a (v +ℤ pos 1))) (level_equations tables k sure a rest) o (first_sought sought (level_equations tables k sure a rest)) found none refl
      ∙ ap (λ (ys : List (ℤ × Atom)). first_sought sought (level_equations tables k sure a ys)) (sym is)

-- at the levels of an integer these are the equations at its values
module _ (tables : Tables) (k : ℕ) (sure : Bool) (a : OrdInt) (p q : Atom) where
  abbrev AtSomeValue : ℤ → Type 0
  AtSomeValue v = AtValue (sure && is_needed tables.narrow k v) (is_alone tables k v) (at_of a v) (at_of a (v +ℤ pos 1)) p q

  abbrev AreAt : List (ℤ × Atom) → Type 0
  AreAt ls = AllByRecursion (λ (level : ℤ × Atom). at_of a level.0 ≡ level.1) ls

  level-value : (ls : List (ℤ × Atom)) → AreAt ls → IsOneOf p q (level_equations tables k sure a ls) → (v : ℤ) × (is_among v (map (λ (l : ℤ × Atom). l.0) ls) ≡ true) × AtSomeValue v
  level-value [] at h = absurd h
  level-value (l ∷ ls) at h = ⊎_elim
      (λ (f : IsOneOf p q (value_equations (sure && is_needed tables.narrow k l.0) (is_alone tables k l.0) l.1 (at_of a (l.0 +ℤ pos 1)))). (
        l.0,
        among-first l.0 (map (λ (m : ℤ × Atom). m.0) ls),
        value-cases (sure && is_needed tables.narrow k l.0) (is_alone tables k l.0) (at_of a l.0) (at_of a (l.0 +ℤ pos 1)) p q
            (subst (λ (x : Atom). IsOneOf p q (value_equations (sure && is_needed tables.narrow k l.0) (is_alone tables k l.0) x (at_of a (l.0 +ℤ pos 1)))) (sym at.0) f),
      ))
      (λ (f : IsOneOf p q (level_equations tables k sure a ls)). let r = level-value ls at.1 f in (r.0, among-later r.0 l.0 (map (λ (m : ℤ × Atom). m.0) ls) r.1, r.2))
      (one-cases p q (value_equations (sure && is_needed tables.narrow k l.0) (is_alone tables k l.0) l.1 (at_of a (l.0 +ℤ pos 1))) (level_equations tables k sure a ls) h)

  value-level : (v : ℤ) → AtSomeValue v → (ls : List (ℤ × Atom)) → AreAt ls → is_among v (map (λ (l : ℤ × Atom). l.0) ls) ≡ true → IsOneOf p q (level_equations tables k sure a ls)
  value-level v here [] at e = absurd (false≢true e)
  value-level v here (l ∷ ls) at e = ⊎_elim
      (λ (s : l.0 ≡ v).
      one-left p q (value_equations (sure && is_needed tables.narrow k l.0) (is_alone tables k l.0) l.1 (at_of a (l.0 +ℤ pos 1))) (level_equations tables k sure a ls)
      (subst (λ (x : Atom). IsOneOf p q (value_equations (sure && is_needed tables.narrow k l.0) (is_alone tables k l.0) x (at_of a (l.0 +ℤ pos 1)))) at.0
      (subst (λ (u : ℤ). IsOneOf p q (value_equations (sure && is_needed tables.narrow k u) (is_alone tables k u) (at_of a u) (at_of a (u +ℤ pos 1)))) (sym s)
      (cases-value (sure && is_needed tables.narrow k v) (is_alone tables k v) (at_of a v) (at_of a (v +ℤ pos 1)) p q here))))
      (λ (s : is_among v (map (λ (m : ℤ × Atom). m.0) ls) ≡ true).
      one-right p q (value_equations (sure && is_needed tables.narrow k l.0) (is_alone tables k l.0) l.1 (at_of a (l.0 +ℤ pos 1))) (level_equations tables k sure a ls) (value-level v here ls at.1 s))
      (among-cases v l.0 (map (λ (m : ℤ × Atom). m.0) ls) e)

module _ (sought : SoughtEquation) (of_two : IsOfTwo sought) (xs : List OrdInt) (cs : List Atom) (same : length xs ≡ length cs) (sound : AreSound xs) (tables : Tables) (are : AreTables xs cs tables) where
  -- as many values as members, which all differ
  module _ (e : tables.as_many ≡ true) where
    tests : (are_all_sure cs && (number_of_values xs == length xs)) ≡ true
    tests = sym are.as_many ∙ e

    are-sure : AreAllSure cs
    are-sure = all-sure cs (and-left (are_all_sure cs) (number_of_values xs == length xs) tests)

    are-many : number_of_values xs ≡ length xs
    are-many = eqb-true (number_of_values xs) (length xs) (and-right (are_all_sure cs) (number_of_values xs == length xs) tests)

  told-many : AreAllSure cs → number_of_values xs ≡ length xs → tables.as_many ≡ true
  told-many sure many = are.as_many ∙ both-true (are_all_sure cs) (number_of_values xs == length xs) (sure-all cs sure) (eq-eqb (number_of_values xs) (length xs) many)

  -- a value that one member alone has
  abbrev HasValue : ℤ → ℕ → Type 0
  HasValue v i = (i < length xs) × (is_among v (values_of (int_at xs i)) ≡ true)

  told-alone : tables.as_many ≡ true → (k : ℕ) (v : ℤ) → k < length xs → is_among v (values_of (int_at xs k)) ≡ true → has_others 1 k (get int_cmp tables.tally.values v) ≡ false → IsAlone xs k v
  told-alone many k v lt here none = record {
    inside = lt;
    here = here;
    nowhere = λ j lt_j ne. false_from_ne_true (is_among v (values_of (int_at xs j))) (λ e. true≢false (sym (told-one (HasValue v) k (get int_cmp tables.tally.values v) (are.values many v) (j, (lt_j, e), ne)) ∙ none));
  }

  alone-told : tables.as_many ≡ true → (k : ℕ) (v : ℤ) → IsAlone xs k v → has_others 1 k (get int_cmp tables.tally.values v) ≡ false
  alone-told many k v alone = false_from_ne_true (has_others 1 k (get int_cmp tables.tally.values v)) (λ e.
      let other : HasOther (HasValue v) k = one-told (HasValue v) k (get int_cmp tables.tally.values v) (are.values many v) e in
      true≢false (sym other.1.1 ∙ alone.nowhere other.0 other.1.0 other.2))

  abbrev Sure : ℕ → Bool
  Sure k = is_true (condition_at cs k)

  levels-at : (k : ℕ) → k < length xs → AllByRecursion (λ (level : ℤ × Atom). at_of (int_at xs k) level.0 ≡ level.1) (levels_of (int_at xs k))
  levels-at k lt = levels_at (int_at xs k) (sound-at xs k (constant_of (pos 0)) lt sound).1

  -- what the tables give at a value is stated
  value-row : (k : ℕ) (v : ℤ) (a b : Atom) → k < length xs → is_among v (values_of (int_at xs k)) ≡ true → AtValue (Sure k && is_needed tables.narrow k v) (is_alone tables k v) (at_of (int_at xs k) v) (at_of (int_at xs k) (v +ℤ pos 1)) a b → IsRow xs cs a b
  value-row k v a b lt here (by_need e f g) =
      needed_elsewhere k v lt (is_true-True (condition_at cs k) (and-left (Sure k) (is_needed tables.narrow k v) e))
      (told-taken xs cs same tables.narrow are.narrow k v (and-right (Sure k) (is_needed tables.narrow k v) e)) f g
  value-row k v a b lt here (by_reaching e f g) =
      let many : tables.as_many ≡ true = and-left tables.as_many (not (has_others 1 k (get int_cmp tables.tally.values v))) e in
      let none = not-true (has_others 1 k (get int_cmp tables.tally.values v)) (and-right tables.as_many (not (has_others 1 k (get int_cmp tables.tally.values v))) e) in
      reached_alone k v (are-sure many) (are-many many) (told-alone many k v lt here none) f g
  value-row k v a b lt here (by_passing e f g) =
      let many : tables.as_many ≡ true = and-left tables.as_many (not (has_others 1 k (get int_cmp tables.tally.values v))) e in
      let none = not-true (has_others 1 k (get int_cmp tables.tally.values v)) (and-right tables.as_many (not (has_others 1 k (get int_cmp tables.tally.values v))) e) in
      passed_alone k v (are-sure many) (are-many many) (told-alone many k v lt here none) f g

  constant-row : (k : ℕ) (a b : Atom) → k < length xs → IsOneOf a b (constant_equations tables k (condition_at cs k) (int_at xs k)) → IsRow xs cs a b
  constant-row k a b lt h =
      let v : ℤ = low_of (int_at xs k) in
      let t : Bool = has_others 1 k (get int_cmp tables.narrow.constants v) in
      let e = if-one a b (condition_at cs k) False (is_constant (int_at xs k) && t) h in
      let here : int_at xs k ≡ constant_of v = constant-is (int_at xs k) (and-left (is_constant (int_at xs k)) t e.0) in
      let other : HasOther (λ i. (i < length xs) × IsConstantAt xs cs v i) k = one-told (λ i. (i < length xs) × IsConstantAt xs cs v i) k (get int_cmp tables.narrow.constants v) (are.narrow.constants v) (and-right (is_constant (int_at xs k)) t e.0) in
      equal_constants other.0 k v other.2 lt other.1.1.0 other.1.1.1 here e.1 e.2

  pub member-row : (a b : Atom) → IsOfSomeMember tables xs cs a b → IsRow xs cs a b
  member-row a b h =
      let k : ℕ = h.0 in
      ⊎_elim (λ (f : IsOneOf a b (constant_equations tables k (condition_at cs k) (int_at xs k))). constant-row k a b h.1 f)
      (λ (f : IsOneOf a b (level_equations tables k (Sure k) (int_at xs k) (levels_of (int_at xs k)))).
      let r = level-value tables k (Sure k) (int_at xs k) a b (levels_of (int_at xs k)) (levels-at k h.1) f in
      value-row k r.0 a b h.1 r.1 r.2)
      (one-cases a b (constant_equations tables k (condition_at cs k) (int_at xs k)) (level_equations tables k (Sure k) (int_at xs k) (levels_of (int_at xs k))) h.2)

  -- what is stated at a value is given by the tables
  row-value : (k : ℕ) (v : ℤ) (a b : Atom) → k < length xs → is_among v (values_of (int_at xs k)) ≡ true → AtValue (Sure k && is_needed tables.narrow k v) (is_alone tables k v) (at_of (int_at xs k) v) (at_of (int_at xs k) (v +ℤ pos 1)) a b → IsOfSomeMember tables xs cs a b
  row-value k v a b lt here at = (
    k,
    lt,
    one-right a b (constant_equations tables k (condition_at cs k) (int_at xs k)) (level_equations tables k (Sure k) (int_at xs k) (levels_of (int_at xs k)))
        (value-level tables k (Sure k) (int_at xs k) a b v at (levels_of (int_at xs k)) (levels-at k lt) here),
  )

  abbrev pub IsFew : Atom → Atom → Type 0
  IsFew a b = IsOneOf a b (only_if tables.too_few ((True, False) ∷ []))

  abbrev Unsought : Atom → Atom → Type 0
  Unsought a b = is_sought sought (a, b) ≡ false

  -- so each equation but those of twins
  data IsGiven (a b : Atom) : Type 0 where
    by_twins : IsTwinRow xs cs a b → IsGiven a b
    by_few : IsFew a b → IsGiven a b
    by_member : IsOfSomeMember tables xs cs a b → IsGiven a b
    by_none : Unsought a b → IsGiven a b

  row-given : (a b : Atom) → IsRow xs cs a b → IsGiven a b
  row-given a b (too_few sure less e f) =
      by_few (one-if a b True False tables.too_few (are.too_few ∙ both-true (are_all_sure cs) (nat_lt (number_of_values xs) (length xs)) (sure-all cs sure) (true-ltb (number_of_values xs) (length xs) less)) e f)
  row-given a b (needed_elsewhere k v lt sure taken e f) = ⊎_elim
      (λ (here : is_among v (values_of (int_at xs k)) ≡ true).
      by_member (row-value k v a b lt here (by_need (both-true (Sure k) (is_needed tables.narrow k v) (true-is (condition_at cs k) sure) (taken-told xs cs same tables.narrow are.narrow k v taken)) e f)))
      (λ (none : is_among v (values_of (int_at xs k)) ≡ false).
      let one : b ≡ a = f ∙ sym (at_of-skipped (int_at xs k) v none) ∙ sym e in
      by_none (ap (λ (x : Atom). is_sought sought (a, x)) one ∙ of_two a))
      (cases_Bool (is_among v (values_of (int_at xs k))))
  row-given a b (equal_constants i j v ne lt sure first second e f) =
      let low : low_of (int_at xs j) ≡ v = ap low_of second in
      let in_i : i < length xs = omega (arith, sure-inside cs i sure) in
      let told : has_others 1 j (get int_cmp tables.narrow.constants v) ≡ true = told-one (λ n. (n < length xs) × IsConstantAt xs cs v n) j (get int_cmp tables.narrow.constants v) (are.narrow.constants v) (i, (in_i, (sure, first)), ne) in
      let t : Bool = has_others 1 j (get int_cmp tables.narrow.constants (low_of (int_at xs j))) in
      by_member (
        j,
        lt,
        one-left a b (constant_equations tables j (condition_at cs j) (int_at xs j)) (level_equations tables j (Sure j) (int_at xs j) (levels_of (int_at xs j)))
            (one-if a b (condition_at cs j) False (is_constant (int_at xs j) && t) (both-true (is_constant (int_at xs j)) t (is-constant (int_at xs j) v second) (ap (λ (u : ℤ). has_others 1 j (get int_cmp tables.narrow.constants u)) low ∙ told)) e f),
      )
  row-given a b (opposite_twins i j v d p q twins e f) =
      let other : q ≡ not_atom b = sym (not_atom-not_atom q) ∙ ap not_atom (sym f) in
      by_twins (i, j, v, d, subst₂ (λ x y. AreTwins xs cs i j v d x y) (sym e) other twins)
  row-given a b (reached_alone i v sure many alone e f) =
      by_member (row-value i v a b alone.inside alone.here (by_reaching (both-true tables.as_many (not (has_others 1 i (get int_cmp tables.tally.values v))) (told-many sure many) (false-not (has_others 1 i (get int_cmp tables.tally.values v)) (alone-told (told-many sure many) i v alone))) e f))
  row-given a b (passed_alone i v sure many alone e f) =
      by_member (row-value i v a b alone.inside alone.here (by_passing (both-true tables.as_many (not (has_others 1 i (get int_cmp tables.tally.values v))) (told-many sure many) (false-not (has_others 1 i (get int_cmp tables.tally.values v)) (alone-told (told-many sure many) i v alone))) e f))

  few-row : (a b : Atom) → IsFew a b → IsRow xs cs a b
  few-row a b h =
      let e = if-one a b True False tables.too_few h in
      let tests : (are_all_sure cs && nat_lt (number_of_values xs) (length xs)) ≡ true = sym are.too_few ∙ e.0 in
      too_few (all-sure cs (and-left (are_all_sure cs) (nat_lt (number_of_values xs) (length xs)) tests)) (ltb-true (number_of_values xs) (length xs) (and-right (are_all_sure cs) (nat_lt (number_of_values xs) (length xs)) tests)) e.1 e.2

  -- where no twins state an equation that is looked for, the tables give all that are
  pub rows-find : ((a b : Atom) → IsTwinRow xs cs a b → Unsought a b) → (o p : Option (Atom × Atom)) → o ≡ first_sought sought (only_if tables.too_few ((True, False) ∷ [])) → Finds sought (IsOfSomeMember tables xs cs) p → Finds sought (IsRow xs cs) (option_or o p)
  rows-find no_twins o p few members =
      or-finds sought IsFew (IsOfSomeMember tables xs cs) (IsRow xs cs) few-row member-row (λ a b h. by a b (row-given a b h)) o p
      (list-finds sought (only_if tables.too_few ((True, False) ∷ [])) o few) members
    where
      by : (a b : Atom) → IsGiven a b → IsFew a b ⊎ (IsOfSomeMember tables xs cs a b ⊎ Unsought a b)
      by a b (by_twins h) = inr (inr (no_twins a b h))
      by a b (by_few h) = inl h
      by a b (by_member h) = inr (inl h)
      by a b (by_none h) = inr (inr h)

-- equations of twins are stated
pub twin-row : (xs : List OrdInt) (cs : List Atom) (a b : Atom) → IsTwinRow xs cs a b → IsRow xs cs a b
twin-row xs cs a b h = opposite_twins h.0 h.1 h.2 h.3 a (not_atom b) h.4 refl (sym (not_atom-not_atom b))

-- the member at a place, as it is read
pub member-read : (tables : Tables) (xs : List OrdInt) (cs : List Atom) (k : ℕ) (c : Atom) (a : OrdInt) → k < length xs → a ≡ get_or xs k a → c ≡ condition_at cs k → equations_of_member tables k c a ≡ member_equations tables xs cs k
member-read tables xs cs k c a lt read is =
    let here : a ≡ int_at xs k = get_or_read xs k a lt read (constant_of (pos 0)) in
    λ i. equations_of_member tables k (is i) (here i)
