-- What joined tests say, and what tests of places, of members and of twins say.
use Rattle.std.proofs.Common.{◌≡◌, ◌≢◌, ℕ, zero, suc, ◌+◌, ◌≤◌, ◌<◌, Bool, true, false, not, ◌&&◌, ◌||◌, ◌⊎◌, inl, inr, List, [], ◌∷◌, length, ℤ, pos, ◌+ℤ◌, refl, sym, ap, ◌∙◌, subst, subst₂, arith, ⊎_elim}
use Rattle.std.specs.Prelude.{◌==◌}
use Rattle.std.specs.Bool.{Decides}
use Rattle.std.specs.Ordering.{int_eq}
use Rattle.std.proofs.lemmas.Bool.{true≢false, false≢true, false_from_ne_true, cases_lt, eqb-true}
use Rattle.std.proofs.lemmas.Bool.Decides.{Decides-eqb}
use Rattle.std.proofs.lemmas.Int.{ints}
use Rattle.order_ints.specs.declared.atom.Atom.{Atom}
use Rattle.order_ints.specs.declared.order_int.OrdInt.{OrdInt}
use Rattle.order_ints.specs.Same.{same_int}
use Rattle.order_ints.specs.Equality.{is_true-True, same_int-tells}
use Rattle.order_ints.specs.OrderRange.{low_of, high_of}
use Rattle.order_ints.specs.OrderLevels.{values_of, is_among}
use Rattle.order_ints.specs.OrderMade.{constant_of}
use Rattle.alldiff_rules.specs.Members.{int_at, condition_at, IsSure, choice_of}
use Rattle.alldiff_rules.specs.Rows.{AreTwins, IsTaken, by_constant, by_twins}
use Rattle.alldiff_rules.specs.RowLists.{any_place, is_sure, is_constant_elsewhere, has_two_values, share_two_values, are_twins, is_of_twins_elsewhere, is_taken, is_nowhere_else}
use Rattle.alldiff_rules.proofs.Pigeonhole.{or-left, or-right, or-cases, among-first, among-later, among-cases, int_eq-same, int_eq-refl}
use Rattle.alldiff_rules.proofs.Places.{and-left, and-right, sure-inside}
use Rattle.alldiff_rules.proofs.TestLaws.{both-true, true-is, not-true, false-not}

-- tests that are joined
pub decides-and : {P Q : Type 0} (s t : Bool) → Decides s P → Decides t Q → Decides (s && t) (P × Q)
decides-and s t p q = (λ e. (p.0 (and-left s t e), q.0 (and-right s t e)), λ h. both-true s t (p.1 h.0) (q.1 h.1))

pub decides-or : {P Q : Type 0} (s t : Bool) → Decides s P → Decides t Q → Decides (s || t) (P ⊎ Q)
decides-or {P} {Q} s t p q = (
  λ e. ⊎_elim (λ (f : s ≡ true). inl (p.0 f)) (λ (f : t ≡ true). inr (q.0 f)) (or-cases s t e),
  λ h. ⊎_elim (λ (x : P). or-left s t (p.1 x)) (λ (y : Q). or-right s t (q.1 y)) h,
)

pub decides-not : {P : Type 0} (s : Bool) → Decides s P → Decides (not s) (P → ⊥)
decides-not s p = (λ e x. true≢false (sym (p.1 x) ∙ not-true s e), λ no. false-not s (false_from_ne_true s (λ e. no (p.0 e))))

-- something holds at some place
abbrev pub AtPlace : ℕ → (ℕ → Type 0) → Type 0
AtPlace n P = (i : ℕ) × (i < n) × P i

pub decides-place : (n : ℕ) (test : ℕ → Bool) (P : ℕ → Type 0) → ((i : ℕ) → Decides (test i) (P i)) → Decides (any_place n test) (AtPlace n P)
decides-place zero test P each = (λ e. absurd (false≢true e), λ h. absurd (omega (arith, h.1)))
decides-place (suc n) test P each = (
  λ e. ⊎_elim (λ (f : any_place n test ≡ true). let r = (decides-place n test P each).0 f in (r.0, omega (arith, r.1), r.2)) (λ (f : test n ≡ true). (n, omega arith, (each n).0 f)) (or-cases (any_place n test) (test n) e),
  λ h. ⊎_elim (λ (lt : h.0 < n). or-left (any_place n test) (test n) ((decides-place n test P each).1 (h.0, lt, h.2)))
      (λ (le : n ≤ h.0). let e : h.0 ≡ n = omega (arith, le, h.1) in or-right (any_place n test) (test n) (subst (λ (i : ℕ). test i ≡ true) e ((each h.0).1 h.2)))
      (cases_lt h.0 n),
)

-- at another place than k
abbrev pub IsOther : ℕ → (ℕ → Type 0) → ℕ → Type 0
IsOther k P i = (i ≢ k) × P i

decides-other : (k i : ℕ) (t : Bool) (P : ℕ → Type 0) → Decides t (P i) → Decides (not (i == k) && t) (IsOther k P i)
decides-other k i t P p = decides-and (not (i == k)) t (decides-not (i == k) (Decides-eqb i k)) p

-- integers with the same two values
pub record HaveSame (a b : OrdInt) : Type 0 where
  pub low : ℤ
  pub step : ℕ
  pub p : Atom
  pub q : Atom
  pub first : a ≡ choice_of low p step
  pub second : b ≡ choice_of low q step

one-step : (steps : List (Atom × ℕ)) → (length steps == 1) ≡ true → (s : Atom × ℕ) × (steps ≡ s ∷ [])
one-step [] e = absurd (false≢true e)
one-step (s ∷ []) e = (s, refl)
one-step (s ∷ t ∷ steps) e = let h = eqb-true (length (s ∷ t ∷ steps)) 1 e in absurd (omega (arith, h))

same-steps : (v w : ℤ) (d e : ℕ) → v ≡ w → v +ℤ pos (d + 0) ≡ w +ℤ pos (e + 0) → d ≡ e
same-steps v w d e h k = omega (arith, ints, h, k)

told-same : (a b : OrdInt) → share_two_values a b ≡ true → HaveSame a b
told-same a b e = record {
  low = a.base;
  step = s.0.1;
  p = s.0.0;
  q = t.0.0;
  first = λ i. record { base = a.base; steps = s.1 i };
  second = λ i. record { base = sym low i; steps = (t.1 ∙ ap (λ (d : ℕ). (t.0.0, d) ∷ []) (sym weight)) i };
}
  where
    two : (has_two_values a && has_two_values b) ≡ true
    two = and-left (has_two_values a && has_two_values b) (int_eq (low_of a) (low_of b) && int_eq (high_of a) (high_of b)) e

    ends : (int_eq (low_of a) (low_of b) && int_eq (high_of a) (high_of b)) ≡ true
    ends = and-right (has_two_values a && has_two_values b) (int_eq (low_of a) (low_of b) && int_eq (high_of a) (high_of b)) e

    s : (s : Atom × ℕ) × (a.steps ≡ s ∷ [])
    s = one-step a.steps (and-left (has_two_values a) (has_two_values b) two)

    t : (t : Atom × ℕ) × (b.steps ≡ t ∷ [])
    t = one-step b.steps (and-right (has_two_values a) (has_two_values b) two)

    low : low_of a ≡ low_of b
    low = int_eq-same (low_of a) (low_of b) (and-left (int_eq (low_of a) (low_of b)) (int_eq (high_of a) (high_of b)) ends)

    high : high_of a ≡ high_of b
    high = int_eq-same (high_of a) (high_of b) (and-right (int_eq (low_of a) (low_of b)) (int_eq (high_of a) (high_of b)) ends)

    weight : s.0.1 ≡ t.0.1
    weight =
        same-steps a.base b.base s.0.1 t.0.1 low
        (ap (λ (steps : List (Atom × ℕ)). high_of (record { base = a.base; steps = steps })) (sym s.1) ∙ high ∙ ap (λ (steps : List (Atom × ℕ)). high_of (record { base = b.base; steps = steps })) t.1)

choices-same : (v : ℤ) (d : ℕ) (p q : Atom) → share_two_values (choice_of v p d) (choice_of v q d) ≡ true
choices-same v d p q = both-true (int_eq v v) (int_eq (v +ℤ pos (d + 0)) (v +ℤ pos (d + 0))) (int_eq-refl v) (int_eq-refl (v +ℤ pos (d + 0)))

same-told : (a b : OrdInt) → HaveSame a b → share_two_values a b ≡ true
same-told a b h = subst₂ (λ (x y : OrdInt). share_two_values x y ≡ true) (sym h.first) (sym h.second) (choices-same h.low h.step h.p h.q)

among-two : (v low high : ℤ) → is_among v (low ∷ high ∷ []) ≡ true → (v ≡ low) ⊎ (v ≡ high)
among-two v low high e =
    ⊎_elim (λ (f : low ≡ v). inl (sym f)) (λ (f : is_among v (high ∷ []) ≡ true). inr (⊎_elim (λ (g : high ≡ v). sym g) (λ (g : false ≡ true). absurd (false≢true g)) (among-cases v high [] f))) (among-cases v low (high ∷ []) e)

two-among : (v low high : ℤ) → (v ≡ low) ⊎ (v ≡ high) → is_among v (low ∷ high ∷ []) ≡ true
two-among v low high (inl e) = subst (λ (w : ℤ). is_among w (low ∷ high ∷ []) ≡ true) (sym e) (among-first low (high ∷ []))
two-among v low high (inr e) = subst (λ (w : ℤ). is_among w (low ∷ high ∷ []) ≡ true) (sym e) (among-later high low (high ∷ []) (among-first high []))

module _ (xs : List OrdInt) (cs : List Atom) where
  pub decides-sure : (i : ℕ) → Decides (is_sure cs i) (IsSure cs i)
  decides-sure i = (is_true-True (condition_at cs i), true-is (condition_at cs i))

  -- constants at other places
  abbrev pub IsSureConstant : ℤ → ℕ → Type 0
  IsSureConstant v i = IsSure cs i × (int_at xs i ≡ constant_of v)

  pub decides-constant : (k : ℕ) (v : ℤ) → Decides (is_constant_elsewhere xs cs k v) (AtPlace (length cs) (IsOther k (IsSureConstant v)))
  decides-constant k v =
      decides-place (length cs) (λ i. not (i == k) && (is_sure cs i && same_int (int_at xs i) (constant_of v))) (IsOther k (IsSureConstant v)) (λ i.
      decides-other k i (is_sure cs i && same_int (int_at xs i) (constant_of v)) (IsSureConstant v)
      (decides-and (is_sure cs i) (same_int (int_at xs i) (constant_of v)) (decides-sure i) (same_int-tells (int_at xs i) (constant_of v))))

  -- twins
  pub record IsPair (i j : ℕ) : Type 0 where
    pub low : ℤ
    pub step : ℕ
    pub p : Atom
    pub q : Atom
    pub twins : AreTwins xs cs i j low step p q

  pub decides-twins : (i j : ℕ) → Decides (are_twins xs cs i j) (IsPair i j)
  decides-twins i j = (told, tell)
    where
      share : Bool
      share = share_two_values (int_at xs i) (int_at xs j)

      parts : Decides (are_twins xs cs i j) ((i ≢ j) × ((IsSure cs i × IsSure cs j) × (share ≡ true)))
      parts =
          decides-and (not (i == j)) ((is_sure cs i && is_sure cs j) && share) (decides-not (i == j) (Decides-eqb i j))
          (decides-and (is_sure cs i && is_sure cs j) share (decides-and (is_sure cs i) (is_sure cs j) (decides-sure i) (decides-sure j)) (λ e. e, λ e. e))

      told : are_twins xs cs i j ≡ true → IsPair i j
      told e =
          let h = parts.0 e in
          let s = told-same (int_at xs i) (int_at xs j) h.1.1 in
          record { low = s.low; step = s.step; p = s.p; q = s.q; twins = record { apart = h.0; sure_first = h.1.0.0; sure_second = h.1.0.1; first = s.first; second = s.second } }

      tell : IsPair i j → are_twins xs cs i j ≡ true
      tell h =
          let t = h.twins in
          parts.1 (t.apart, ((t.sure_first, t.sure_second), same-told (int_at xs i) (int_at xs j) (record { low = h.low; step = h.step; p = h.p; q = h.q; first = t.first; second = t.second })))

  -- twins at other places
  abbrev HasValue : ℤ → ℕ → Type 0
  HasValue v i = is_among v (values_of (int_at xs i)) ≡ true

  abbrev IsTwinOf : ℕ → ℤ → ℕ → ℕ → Type 0
  IsTwinOf k v i j = IsPair i j × HasValue v i

  abbrev HasTwin : ℕ → ℤ → ℕ → Type 0
  HasTwin k v i = AtPlace (length cs) (IsOther k (IsTwinOf k v i))

  decides-elsewhere : (k : ℕ) (v : ℤ) → Decides (is_of_twins_elsewhere xs cs k v) (AtPlace (length cs) (IsOther k (HasTwin k v)))
  decides-elsewhere k v =
      decides-place (length cs) (λ i. not (i == k) && any_place (length cs) (λ j. not (j == k) && (are_twins xs cs i j && is_among v (values_of (int_at xs i))))) (IsOther k (HasTwin k v)) (λ i.
      decides-other k i (any_place (length cs) (λ j. not (j == k) && (are_twins xs cs i j && is_among v (values_of (int_at xs i))))) (HasTwin k v)
      (decides-place (length cs) (λ j. not (j == k) && (are_twins xs cs i j && is_among v (values_of (int_at xs i)))) (IsOther k (IsTwinOf k v i)) (λ j.
      decides-other k j (are_twins xs cs i j && is_among v (values_of (int_at xs i))) (IsTwinOf k v i)
      (decides-and (are_twins xs cs i j) (is_among v (values_of (int_at xs i))) (decides-twins i j) (λ e. e, λ e. e)))))

  -- a value of the first of twins is one of the two
  value-end : (v : ℤ) (i : ℕ) (low : ℤ) (p : Atom) (d : ℕ) → int_at xs i ≡ choice_of low p d → HasValue v i → (v ≡ low) ⊎ (v ≡ low +ℤ pos d)
  value-end v i low p d is e = among-two v low (low +ℤ pos d) (subst (λ (a : OrdInt). is_among v (values_of a) ≡ true) is e)

  end-value : (v : ℤ) (i : ℕ) (low : ℤ) (p : Atom) (d : ℕ) → int_at xs i ≡ choice_of low p d → (v ≡ low) ⊎ (v ≡ low +ℤ pos d) → HasValue v i
  end-value v i low p d is e = subst (λ (a : OrdInt). is_among v (values_of a) ≡ true) (sym is) (two-among v low (low +ℤ pos d) e)

  abbrev IsEither : ℕ → ℤ → Type 0
  IsEither k v = AtPlace (length cs) (IsOther k (IsSureConstant v)) ⊎ AtPlace (length cs) (IsOther k (HasTwin k v))

  pub decides-taken : (k : ℕ) (v : ℤ) → Decides (is_taken xs cs k v) (IsTaken xs cs k v)
  decides-taken k v = (λ e. told (either.0 e), λ h. either.1 (tell h))
    where
      either : Decides (is_taken xs cs k v) (IsEither k v)
      either = decides-or (is_constant_elsewhere xs cs k v) (is_of_twins_elsewhere xs cs k v) (decides-constant k v) (decides-elsewhere k v)

      told : IsEither k v → IsTaken xs cs k v
      told (inl h) = by_constant h.0 h.2.0 h.2.1.0 h.2.1.1
      told (inr h) =
          let g = h.2.1 in
          let t = g.2.1.0 in
          by_twins h.0 g.0 t.low t.step t.p t.q t.twins h.2.0 g.2.0 (value-end v h.0 t.low t.p t.step t.twins.first g.2.1.1)

      tell : IsTaken xs cs k v → IsEither k v
      tell (by_constant i ne sure is) = inl (i, sure-inside cs i sure, (ne, (sure, is)))
      tell (by_twins i j low d p q twins ne_i ne_j at) =
          inr (i, sure-inside cs i twins.sure_first, (ne_i, (j, sure-inside cs j twins.sure_second, (ne_j, (record { low = low; step = d; p = p; q = q; twins = twins }, end-value v i low p d twins.first at)))))

  -- no further member has the value
  pub decides-nowhere : (k : ℕ) (v : ℤ) → Decides (is_nowhere_else xs k v) ((j : ℕ) → j < length xs → j ≢ k → is_among v (values_of (int_at xs j)) ≡ false)
  decides-nowhere k v = (λ e j lt ne. false_from_ne_true (is_among v (values_of (int_at xs j))) (λ f. none.0 e (j, lt, (ne, f))), λ h. none.1 (λ f. true≢false (sym f.2.1 ∙ h f.0 f.1 f.2.0)))
    where
      none : Decides (is_nowhere_else xs k v) (AtPlace (length xs) (IsOther k (HasValue v)) → ⊥)
      none =
          decides-not (any_place (length xs) (λ j. not (j == k) && is_among v (values_of (int_at xs j))))
          (decides-place (length xs) (λ j. not (j == k) && is_among v (values_of (int_at xs j))) (IsOther k (HasValue v)) (λ j. decides-other k j (is_among v (values_of (int_at xs j))) (HasValue v) (λ e. e, λ e. e)))
