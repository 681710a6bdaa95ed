-- What it says that members have the same two values, and each has the one that the other has not: of the members as a view has them too.
use Rattle.std.proofs.Common.{◌≡◌, ◌≢◌, ℕ, zero, suc, ◌+◌, ◌<◌, Bool, true, false, cond, not, ◌&&◌, ◌||◌, ◌⊎◌, inl, inr, List, [], ◌∷◌, ◌++◌, length, ◌==◌, map, ℤ, pos, ◌+ℤ◌, Option, None, Some, refl, sym, ap, subst, ◌∙◌, ⊎_elim, arith}
use Rattle.std.specs.Prelude.{if◌then◌else◌}
use Rattle.std.specs.Option.{option_or}
use Rattle.std.specs.Ordering.{int_eq, is_eq}
use Rattle.std.proofs.lemmas.Bool.{false≢true, eqb-true}
use Rattle.std.proofs.lemmas.Int.{ints as ints_rules}
use Rattle.order_ints.specs.declared.atom.Atom.{Atom}
use Rattle.order_ints.specs.declared.atom.Atom.TheVariants.{True, False, Of}
use Rattle.order_ints.specs.declared.literal.Lit.{Lit}
use Rattle.order_ints.specs.declared.order_int.OrdInt.{OrdInt}
use Rattle.order_ints.specs.OrderRange.{low_of, high_of}
use Rattle.order_ints.specs.OrderMade.{constant_of}
use Rattle.order_ints.specs.Same.{same_atom}
use Rattle.order_ints.specs.Equality.{is_true-True, same_atom-true}
use Rattle.order_ints.specs.Truth.{not_atom}
use Rattle.order_ints.specs.View.{resolve}
use Rattle.order_ints.proofs.Labels.{resolves_negation}
use Rattle.core_forms.specs.Trimmed.{raised_by, trimmed_int}
use Rattle.alldiff_rules.specs.Table.{pair_cmp}
use Rattle.alldiff_rules.specs.Members.{int_at, condition_at, IsSure, choice_of}
use Rattle.alldiff_rules.specs.Rows.{AreTwins, IsTaken, by_constant, by_twins}
use Rattle.alldiff_rules.specs.RowLists.{is_sure, has_two_values}
use Rattle.alldiff_rules.specs.Twins.{first_atom}
use Rattle.alldiff_rules.proofs.Places.{and-left, and-right}
use Rattle.alldiff_rules.proofs.Pigeonhole.{int_eq-same, int_eq-refl, or-left, or-right, or-cases}
use Rattle.alldiff_rules.proofs.TestLaws.{both-true}
use Rattle.alldiff_rules.proofs.Decided.{decides-place}
use Rattle.equation_runs.specs.TwinRuns.{first_weight, choice_at, is_choice, first_with, twin_by, twin_at, is_of_twin, is_shared_before}
use Rattle.equation_runs.proofs.TrimmedMembers.{trimmed_members, int-trimmed, sure-stays}
use Rattle.equation_runs.proofs.TwinTables.{one-key}

one-step : (steps : List (Atom × ℕ)) → (length steps == 1) ≡ true → steps ≡ (first_atom steps, first_weight steps) ∷ []
one-step [] e = absurd (false≢true e)
one-step (s ∷ []) e = refl
one-step (s ∷ t ∷ steps) e = let h = eqb-true (length (s ∷ t ∷ steps)) 1 e in absurd (omega (arith, h))

-- of places, the first with two values
first-cases : (o : Option ℕ) (t : Bool) (n j : ℕ) → option_or o (if t then Some n else None) ≡ Some j → (o ≡ Some j) ⊎ ((t ≡ true) × (n ≡ j))
first-cases (Some i) t n j e = inl e
first-cases None true n j e = inr (refl, cc)
first-cases None false n j e = absurd (cc)

module _ (ints : List OrdInt) (cs : List Atom) where
  -- the member has the two values that the key tells
  pub record IsChoice (i : ℕ) (key : ℤ × ℕ) : Type 0 where
    pub sure : IsSure cs i
    pub is : int_at ints i ≡ choice_of key.0 (first_atom (int_at ints i).steps) key.1

  pub choice-is : (i : ℕ) (key : ℤ × ℕ) → choice_at ints cs i ≡ Some key → IsChoice i key
  choice-is i key e = by (is_sure cs i && has_two_values (int_at ints i)) refl e
    where
      by : (t : Bool) → (is_sure cs i && has_two_values (int_at ints i)) ≡ t → (if t then Some (low_of (int_at ints i), first_weight (int_at ints i).steps) else None) ≡ Some key → IsChoice i key
      by true both told =
          let a = int_at ints i in
          let steps = one-step a.steps (and-right (is_sure cs i) (has_two_values a) both) in
          let same : (low_of a, first_weight a.steps) ≡ key = cc in
          record {
            sure = is_true-True (condition_at cs i) (and-left (is_sure cs i) (has_two_values a) both);
            is = (λ j. record { base = a.base; steps = steps j }) ∙ ap (λ (k : ℤ × ℕ). choice_of k.0 (first_atom a.steps) k.1) same;
          }
      by false both told = absurd (cc)

  key-is : (key : ℤ × ℕ) (o : Option (ℤ × ℕ)) → is_choice key o ≡ true → o ≡ Some key
  key-is key None e = absurd (false≢true e)
  key-is key (Some other) e = ap (λ (k : ℤ × ℕ). Some k) (one-key other key e)

  pub first-is : (n : ℕ) (key : ℤ × ℕ) (j : ℕ) → first_with ints cs n key ≡ Some j → (j < n) × (choice_at ints cs j ≡ Some key)
  first-is zero key j e = absurd (cc)
  first-is (suc n) key j e = ⊎_elim
      (λ (f : first_with ints cs n key ≡ Some j). let r = first-is n key j f in (omega (arith, r.0), r.1))
      (λ (f : (is_choice key (choice_at ints cs n) ≡ true) × (n ≡ j)).
      let lt : j < suc n = omega (arith, f.1) in
      (lt, key-is key (choice_at ints cs j) (subst (λ (i : ℕ). is_choice key (choice_at ints cs i) ≡ true) f.1 f.0)))
      (first-cases (first_with ints cs n key) (is_choice key (choice_at ints cs n)) n j e)

  -- a member and an earlier one have the same two values, of which v is one
  pub record IsOfTwins (n : ℕ) (v : ℤ) : Type 0 where
    pub place : ℕ
    pub first : ℕ
    pub inside : place < n
    pub before : first < place
    pub key : ℤ × ℕ
    pub here : IsChoice place key
    pub there : IsChoice first key
    pub value : (v ≡ key.0) ⊎ (v ≡ key.0 +ℤ pos key.1)
    pub opposite : first_atom (int_at ints first).steps ≡ not_atom (first_atom (int_at ints place).steps)
    pub lower : is_shared_before ints cs n key.0 ≡ true
    pub upper : is_shared_before ints cs n (key.0 +ℤ pos (key.1 + 0)) ≡ true

  abbrev are_opposite : ℕ → ℕ → Bool
  are_opposite i j = same_atom (first_atom (int_at ints j).steps) (not_atom (first_atom (int_at ints i).steps))

  abbrev is_end : ℕ → ℤ → Bool
  is_end i v = int_eq (low_of (int_at ints i)) v || int_eq (high_of (int_at ints i)) v

  end-shared : (n i j : ℕ) (v : ℤ) → i < n → twin_at ints cs i ≡ Some j → are_opposite i j ≡ true → is_end i v ≡ true → is_shared_before ints cs n v ≡ true
  end-shared n i j v lt twin one end =
      (decides-place n (λ i. is_of_twin ints i v (twin_at ints cs i)) (λ i. is_of_twin ints i v (twin_at ints cs i) ≡ true) (λ i. ((λ e. e), (λ e. e)))).1
      (i, lt, ap (is_of_twin ints i v) twin ∙ both-true (are_opposite i j) (is_end i v) one end)

  no-more : (low : ℤ) (d : ℕ) → low +ℤ pos (d + 0) ≡ low +ℤ pos d
  no-more low d = omega (arith, ints_rules)

  twin-is : (n i j : ℕ) (v : ℤ) → i < n → twin_at ints cs i ≡ Some j → (o : Option (ℤ × ℕ)) → choice_at ints cs i ≡ o → twin_by ints cs i o ≡ Some j → are_opposite i j ≡ true
      → ((low_of (int_at ints i) ≡ v) ⊎ (high_of (int_at ints i) ≡ v)) → IsOfTwins n v
  twin-is n i j v lt twin None is e one value = absurd (cc)
  twin-is n i j v lt twin (Some key) is e one value =
      let r = first-is i key j e in
      let here = choice-is i key is in
      let low : low_of (int_at ints i) ≡ key.0 = ap low_of here.is in
      let high : high_of (int_at ints i) ≡ key.0 +ℤ pos (key.1 + 0) = ap high_of here.is in
      record {
        place = i;
        first = j;
        inside = lt;
        before = r.0;
        key = key;
        here = here;
        there = choice-is j key r.1;
        value = ⊎_elim
            (λ (f : low_of (int_at ints i) ≡ v). inl (sym f ∙ low))
            (λ (f : high_of (int_at ints i) ≡ v). inr (sym f ∙ high ∙ no-more key.0 key.1)) value;
        opposite = same_atom-true (first_atom (int_at ints j).steps) (not_atom (first_atom (int_at ints i).steps)) one;
        lower = end-shared n i j key.0 lt twin one
            (or-left (int_eq (low_of (int_at ints i)) key.0) (int_eq (high_of (int_at ints i)) key.0) (ap (λ (w : ℤ). int_eq w key.0) low ∙ int_eq-refl key.0));
        upper = end-shared n i j (key.0 +ℤ pos (key.1 + 0)) lt twin one
            (or-right (int_eq (low_of (int_at ints i)) (key.0 +ℤ pos (key.1 + 0))) (int_eq (high_of (int_at ints i)) (key.0 +ℤ pos (key.1 + 0)))
            (ap (λ (w : ℤ). int_eq w (key.0 +ℤ pos (key.1 + 0))) high ∙ int_eq-refl (key.0 +ℤ pos (key.1 + 0))));
      }

  pub shared-at : (n : ℕ) (v : ℤ) → is_shared_before ints cs n v ≡ true → IsOfTwins n v
  shared-at n v shared = by found.0 found.1 (twin_at ints cs found.0) refl found.2
    where
      found : (i : ℕ) × (i < n) × (is_of_twin ints i v (twin_at ints cs i) ≡ true)
      found = (decides-place n (λ i. is_of_twin ints i v (twin_at ints cs i)) (λ i. is_of_twin ints i v (twin_at ints cs i) ≡ true) (λ i. ((λ e. e), (λ e. e)))).0 shared

      by : (i : ℕ) → i < n → (o : Option ℕ) → twin_at ints cs i ≡ o → is_of_twin ints i v o ≡ true → IsOfTwins n v
      by i lt None twin told = absurd (false≢true told)
      by i lt (Some j) twin told =
          twin-is n i j v lt twin (choice_at ints cs i) refl twin (and-left (are_opposite i j) (is_end i v) told)
          (⊎_elim (λ (f : int_eq (low_of (int_at ints i)) v ≡ true). inl (int_eq-same (low_of (int_at ints i)) v f))
          (λ (f : int_eq (high_of (int_at ints i)) v ≡ true). inr (int_eq-same (high_of (int_at ints i)) v f))
          (or-cases (int_eq (low_of (int_at ints i)) v) (int_eq (high_of (int_at ints i)) v) (and-right (are_opposite i j) (is_end i v) told)))

  -- as a view has them, where one's atom is the negation of the other's: they have the same two values still, or each has one of the two
  module _ (view : List Atom) (n : ℕ) (v : ℤ) (t : IsOfTwins n v) (k : ℕ) (other : t.place ≢ k) (another : t.first ≢ k) where
    abbrev p : Atom
    p = first_atom (int_at ints t.place).steps

    abbrev q : Atom
    q = first_atom (int_at ints t.first).steps

    abbrev Taken : Type 0
    Taken = IsTaken (trimmed_members view ints) (map (resolve view) cs) k v

    -- of the two values as a constant or a choice
    abbrev seen : Atom → OrdInt
    seen True = constant_of (t.key.0 +ℤ pos t.key.1)
    seen False = constant_of t.key.0
    seen (Of l) = choice_of t.key.0 (Of l) t.key.1

    trimmed-choice : (a r : Atom) → resolve view a ≡ r → trimmed_int view (choice_of t.key.0 a t.key.1) ≡ seen r
    trimmed-choice a r e = ap (λ (x : Atom). raised_by t.key.0 ((x, t.key.1) ∷ [])) e ∙ by r
      where
        by : (r : Atom) → raised_by t.key.0 ((r, t.key.1) ∷ []) ≡ seen r
        by True = refl
        by False = refl
        by (Of l) = refl

    place-seen : (r : Atom) → resolve view p ≡ r → int_at (trimmed_members view ints) t.place ≡ seen r
    place-seen r e = int-trimmed view ints t.place ∙ ap (trimmed_int view) t.here.is ∙ trimmed-choice p r e

    first-seen : (r : Atom) → resolve view q ≡ r → int_at (trimmed_members view ints) t.first ≡ seen r
    first-seen r e = int-trimmed view ints t.first ∙ ap (trimmed_int view) t.there.is ∙ trimmed-choice q r e

    apart : t.place ≢ t.first
    apart same = let lt = t.before in omega (arith, lt, same)

    lower-by : (i : ℕ) → i ≢ k → IsSure cs i → int_at (trimmed_members view ints) i ≡ constant_of t.key.0 → v ≡ t.key.0 → Taken
    lower-by i ne sure is e = by_constant i ne (sure-stays view cs i sure) (is ∙ ap constant_of (sym e))

    upper-by : (i : ℕ) → i ≢ k → IsSure cs i → int_at (trimmed_members view ints) i ≡ constant_of (t.key.0 +ℤ pos t.key.1) → v ≡ t.key.0 +ℤ pos t.key.1 → Taken
    upper-by i ne sure is e = by_constant i ne (sure-stays view cs i sure) (is ∙ ap constant_of (sym e))

    pub twins-taken : Taken
    twins-taken = by (resolve view p) refl (ap (resolve view) t.opposite ∙ resolves_negation view p)
      where
        by : (r : Atom) → resolve view p ≡ r → resolve view q ≡ not_atom r → Taken
        by True e f = ⊎_elim
            (λ (low : v ≡ t.key.0). lower-by t.first another t.there.sure (first-seen False f) low)
            (λ (high : v ≡ t.key.0 +ℤ pos t.key.1). upper-by t.place other t.here.sure (place-seen True e) high) t.value
        by False e f = ⊎_elim
            (λ (low : v ≡ t.key.0). lower-by t.place other t.here.sure (place-seen False e) low)
            (λ (high : v ≡ t.key.0 +ℤ pos t.key.1). upper-by t.first another t.there.sure (first-seen True f) high) t.value
        by (Of l) e f =
            by_twins t.place t.first t.key.0 t.key.1 (Of l) (not_atom (Of l))
            (record {
              apart = apart;
              sure_first = sure-stays view cs t.place t.here.sure;
              sure_second = sure-stays view cs t.first t.there.sure;
              first = place-seen (Of l) e;
              second = first-seen (not_atom (Of l)) f;
            }) other another t.value
