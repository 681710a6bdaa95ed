-- Up to three different places: one more, and how many are others than a given one.
use Rattle.std.proofs.Common.{◌≡◌, ℕ, ◌+◌, ◌≤◌, Bool, true, false, cond, ◌⊎◌, inl, inr, refl, ap, sym, ◌∙◌, subst, arith, ⊎_elim, Option, None, Some}
use Rattle.std.specs.Prelude.{◌==◌, nat_le}
use Rattle.std.proofs.lemmas.Bool.Decides.{nat_tests}
use Rattle.std.proofs.lemmas.Bool.{false≢true, eqb-true, eqb-false, eq-eqb, ne_eqb, cases_eq, cond-true, cond-false}
use Rattle.alldiff_rules.specs.declared.table.Places.{Places}
use Rattle.alldiff_rules.specs.Table.{with_third, with_second, joined, other_than, number_other, has_others, HasOther, HasTwoOthers, ShowsThird, ShowsSecond, Shows}

module _ (P Q : ℕ → Type 0) (i : ℕ) (here : Q i) (more : (j : ℕ) → P j → Q j) (fewer : (j : ℕ) → Q j → P j ⊎ (j ≡ i)) where
  -- one place more
  third-shown : (h : Places) (s : ℕ) (third : Option ℕ) → h.second ≡ Some s → h.third ≡ third → (i ≡ h.first → ⊥) → P h.first → P s → (s ≡ h.first → ⊥) → ShowsThird P h.first s third → Shows Q (Some (with_third h s i third))
  third-shown h s (Some t) is_s is_t ne at_first at_s apart shown =
      (more h.first at_first, subst (λ o. ShowsSecond Q h.first o h.third) (sym is_s) (more s at_s, apart, subst (ShowsThird Q h.first s) (sym is_t) (more t shown.0, shown.1, shown.2)))
  third-shown h s None is_s is_t ne at_first at_s apart shown = by (s == i) (λ e. eqb-true s i e) (λ e. eqb-false s i e)
    where
      by : (t : Bool) → (t ≡ true → s ≡ i) → (t ≡ false → s ≡ i → ⊥) → Shows Q (Some (cond t h (record h { third = Some i })))
      by true same other =
          (more h.first at_first, subst (λ o. ShowsSecond Q h.first o h.third) (sym is_s) (more s at_s, apart, subst (ShowsThird Q h.first s) (sym is_t) (λ j q. ⊎_elim (λ (p : P j). shown j p) (λ (e : j ≡ i). inr (e ∙ sym (same refl))) (fewer j q))))
      by false same other =
          (more h.first at_first, subst (λ o. ShowsSecond Q h.first o (Some i)) (sym is_s) (more s at_s, apart, (here, ne, λ e. other refl (sym e))))

  second-shown : (h : Places) (second : Option ℕ) → h.second ≡ second → (i ≡ h.first → ⊥) → P h.first → ShowsSecond P h.first second h.third → Shows Q (Some (with_second h i second))
  second-shown h None is ne at_first shown = (more h.first at_first, (here, ne, subst (ShowsThird Q h.first i) (sym shown.0) both))
    where
      both : (j : ℕ) → Q j → (j ≡ h.first) ⊎ (j ≡ i)
      both j q = ⊎_elim (λ (p : P j). inl (shown.1 j p)) (λ (e : j ≡ i). inr e) (fewer j q)
  second-shown h (Some s) is ne at_first shown = third-shown h s h.third is refl ne at_first shown.0 shown.1 shown.2

  -- a place that stands there already
  first-again : (h : Places) → h.first ≡ i → P h.first → ShowsSecond P h.first h.second h.third → Shows Q (Some h)
  first-again h same at_first shown = (more h.first at_first, by h.second h.third shown)
    where
      old : (j : ℕ) → Q j → P j
      old j q = ⊎_elim (λ (p : P j). p) (λ (e : j ≡ i). subst P (same ∙ sym e) at_first) (fewer j q)

      third : (s : ℕ) (o : Option ℕ) → ShowsThird P h.first s o → ShowsThird Q h.first s o
      third s None all = λ j q. all j (old j q)
      third s (Some t) is = (more t is.0, is.1, is.2)

      by : (o p : Option ℕ) → ShowsSecond P h.first o p → ShowsSecond Q h.first o p
      by None p is = (is.0, λ j q. is.1 j (old j q))
      by (Some s) p is = (more s is.0, is.1, third s p is.2)

  pub joined-shown : (o : Option Places) → Shows P o → Shows Q (Some (joined o i))
  joined-shown None none = (here, (refl, λ j q. ⊎_elim (λ (p : P j). absurd (none j p)) (λ (e : j ≡ i). e) (fewer j q)))
  joined-shown (Some h) shown = by (h.first == i) (λ e. eqb-true h.first i e) (λ e. eqb-false h.first i e)
    where
      by : (t : Bool) → (t ≡ true → h.first ≡ i) → (t ≡ false → h.first ≡ i → ⊥) → Shows Q (Some (cond t h (with_second h i h.second)))
      by true same other = first-again h (same refl) shown.0 shown.1
      by false same other = second-shown h h.second refl (λ e. other refl (sym e)) shown.0 shown.1

-- the same of which the same holds
module _ (P Q : ℕ → Type 0) (more : (j : ℕ) → P j → Q j) (fewer : (j : ℕ) → Q j → P j) where
  third-same : (f s : ℕ) (o : Option ℕ) → ShowsThird P f s o → ShowsThird Q f s o
  third-same f s None all = λ j q. all j (fewer j q)
  third-same f s (Some t) is = (more t is.0, is.1, is.2)

  second-same : (f : ℕ) (o p : Option ℕ) → ShowsSecond P f o p → ShowsSecond Q f o p
  second-same f None p is = (is.0, λ j q. is.1 j (fewer j q))
  second-same f (Some s) p is = (more s is.0, is.1, third-same f s p is.2)

  pub same-shown : (o : Option Places) → Shows P o → Shows Q o
  same-shown None none = λ j q. none j (fewer j q)
  same-shown (Some h) shown = (more h.first shown.0, second-same h.first h.second h.third shown.1)

-- whether a place is k, and what it counts
counted : (k i : ℕ) → ((i ≡ k) × (other_than k (Some i) ≡ 0)) ⊎ ((i ≡ k → ⊥) × (other_than k (Some i) ≡ 1))
counted k i = ⊎_elim (λ (e : i ≡ k). inl (e, cond-true _ 0 1 (eq-eqb i k e))) (λ (ne : i ≡ k → ⊥). inr (ne, cond-false _ 0 1 (ne_eqb i k ne))) (cases_eq i k)

module _ (P : ℕ → Type 0) (k : ℕ) where
  -- one of them
  pub other-shown : (h : Places) → Shows P (Some h) → 1 ≤ number_other k h → HasOther P k
  other-shown h shown some = by h.second h.third shown.1 some
    where
      by : (o p : Option ℕ) → ShowsSecond P h.first o p → 1 ≤ other_than k (Some h.first) + other_than k o + other_than k p → HasOther P k
      by None p is le = ⊎_elim
          (λ (a : (h.first ≡ k) × (other_than k (Some h.first) ≡ 0)). absurd (omega (arith, le, a.1, ap (other_than k) is.0)))
          (λ (a : (h.first ≡ k → ⊥) × (other_than k (Some h.first) ≡ 1)). (h.first, shown.0, a.0)) (counted k h.first)
      by (Some s) p is le = ⊎_elim
          (λ (a : (h.first ≡ k) × (other_than k (Some h.first) ≡ 0)). (s, is.0, λ e. is.1 (e ∙ sym a.0)))
          (λ (a : (h.first ≡ k → ⊥) × (other_than k (Some h.first) ≡ 1)). (h.first, shown.0, a.0)) (counted k h.first)

  pub shown-other : (h : Places) → Shows P (Some h) → HasOther P k → 1 ≤ number_other k h
  shown-other h shown other = by h.second h.third shown.1
    where
      by : (o p : Option ℕ) → ShowsSecond P h.first o p → 1 ≤ other_than k (Some h.first) + other_than k o + other_than k p
      by None p is = ⊎_elim
          (λ (a : (h.first ≡ k) × (other_than k (Some h.first) ≡ 0)). absurd (other.2 (is.1 other.0 other.1 ∙ a.0)))
          (λ (a : (h.first ≡ k → ⊥) × (other_than k (Some h.first) ≡ 1)). omega (arith, a.1)) (counted k h.first)
      by (Some s) p is = ⊎_elim
          (λ (a : (h.first ≡ k) × (other_than k (Some h.first) ≡ 0)). ⊎_elim
          (λ (b : (s ≡ k) × (other_than k (Some s) ≡ 0)). absurd (is.1 (b.0 ∙ sym a.0)))
          (λ (b : (s ≡ k → ⊥) × (other_than k (Some s) ≡ 1)). omega (arith, b.1)) (counted k s))
          (λ (a : (h.first ≡ k → ⊥) × (other_than k (Some h.first) ≡ 1)). omega (arith, a.1)) (counted k h.first)

  -- two of them
  pub two-shown : (h : Places) → Shows P (Some h) → 2 ≤ number_other k h → HasTwoOthers P k
  two-shown h shown some = by h.second h.third shown.1 some (counted k h.first)
    where
      First : Type 0
      First = ((h.first ≡ k) × (other_than k (Some h.first) ≡ 0)) ⊎ ((h.first ≡ k → ⊥) × (other_than k (Some h.first) ≡ 1))

      by : (o p : Option ℕ) → ShowsSecond P h.first o p → 2 ≤ other_than k (Some h.first) + other_than k o + other_than k p → First → HasTwoOthers P k
      by None p is le (inl a) = absurd (omega (arith, le, a.1, ap (other_than k) is.0))
      by None p is le (inr a) = absurd (omega (arith, le, a.1, ap (other_than k) is.0))
      by (Some s) None is le (inl a) = ⊎_elim (λ (b : (s ≡ k) × (other_than k (Some s) ≡ 0)). absurd (omega (arith, le, a.1, b.1))) (λ (b : (s ≡ k → ⊥) × (other_than k (Some s) ≡ 1)). absurd (omega (arith, le, a.1, b.1))) (counted k s)
      by (Some s) None is le (inr a) = ⊎_elim (λ (b : (s ≡ k) × (other_than k (Some s) ≡ 0)). absurd (omega (arith, le, a.1, b.1))) (λ (b : (s ≡ k → ⊥) × (other_than k (Some s) ≡ 1)). (h.first, s, shown.0, is.0, (λ e. is.1 (sym e)), a.0, b.0)) (counted k s)
      by (Some s) (Some t) is le (inl a) = (s, t, is.0, is.2.0, (λ e. is.2.2 (sym e)), (λ e. is.1 (e ∙ sym a.0)), (λ e. is.2.1 (e ∙ sym a.0)))
      by (Some s) (Some t) is le (inr a) = ⊎_elim
          (λ (b : (s ≡ k) × (other_than k (Some s) ≡ 0)). (h.first, t, shown.0, is.2.0, (λ e. is.2.1 (sym e)), a.0, (λ e. is.2.2 (e ∙ sym b.0))))
          (λ (b : (s ≡ k → ⊥) × (other_than k (Some s) ≡ 1)). (h.first, s, shown.0, is.0, (λ e. is.1 (sym e)), a.0, b.0)) (counted k s)

  pub shown-two : (h : Places) → Shows P (Some h) → HasTwoOthers P k → 2 ≤ number_other k h
  shown-two h shown two = by h.second h.third shown.1 (counted k h.first)
    where
      by : (o p : Option ℕ) → ShowsSecond P h.first o p → ((h.first ≡ k) × (other_than k (Some h.first) ≡ 0)) ⊎ ((h.first ≡ k → ⊥) × (other_than k (Some h.first) ≡ 1)) → 2 ≤ other_than k (Some h.first) + other_than k o + other_than k p
      by None p is a = absurd (two.4 (is.1 two.0 two.2 ∙ sym (is.1 two.1 two.3)))
      by (Some s) None is (inl a) = absurd (two.4 (only two.0 two.2 two.5 ∙ sym (only two.1 two.3 two.6)))
        where
          only : (i : ℕ) → P i → (i ≡ k → ⊥) → i ≡ s
          only i p ne = ⊎_elim (λ (e : i ≡ h.first). absurd (ne (e ∙ a.0))) (λ (e : i ≡ s). e) (is.2 i p)
      by (Some s) None is (inr a) = ⊎_elim
          (λ (b : (s ≡ k) × (other_than k (Some s) ≡ 0)). absurd (two.4 (only b.0 two.0 two.2 two.5 ∙ sym (only b.0 two.1 two.3 two.6))))
          (λ (b : (s ≡ k → ⊥) × (other_than k (Some s) ≡ 1)). omega (arith, a.1, b.1)) (counted k s)
        where
          only : s ≡ k → (i : ℕ) → P i → (i ≡ k → ⊥) → i ≡ h.first
          only same i p ne = ⊎_elim (λ (e : i ≡ h.first). e) (λ (e : i ≡ s). absurd (ne (e ∙ same))) (is.2 i p)
      by (Some s) (Some t) is (inl a) = ⊎_elim (λ (b : (s ≡ k) × (other_than k (Some s) ≡ 0)). absurd (is.1 (b.0 ∙ sym a.0)))
          (λ (b : (s ≡ k → ⊥) × (other_than k (Some s) ≡ 1)). ⊎_elim (λ (d : (t ≡ k) × (other_than k (Some t) ≡ 0)). absurd (is.2.1 (d.0 ∙ sym a.0))) (λ (d : (t ≡ k → ⊥) × (other_than k (Some t) ≡ 1)). omega (arith, b.1, d.1)) (counted k t)) (counted k s)
      by (Some s) (Some t) is (inr a) = ⊎_elim
          (λ (b : (s ≡ k) × (other_than k (Some s) ≡ 0)). ⊎_elim (λ (d : (t ≡ k) × (other_than k (Some t) ≡ 0)). absurd (is.2.2 (d.0 ∙ sym b.0))) (λ (d : (t ≡ k → ⊥) × (other_than k (Some t) ≡ 1)). omega (arith, a.1, d.1)) (counted k t))
          (λ (b : (s ≡ k → ⊥) × (other_than k (Some s) ≡ 1)). omega (arith, a.1, b.1)) (counted k s)

-- the tests of them
leb-true : (m n : ℕ) → nat_le m n ≡ true → m ≤ n
leb-true m n e = grind (arith, nat_tests)

true-leb : (m n : ℕ) → m ≤ n → nat_le m n ≡ true
true-leb m n h = grind (arith, nat_tests)

module _ (P : ℕ → Type 0) (k : ℕ) where
  pub one-told : (o : Option Places) → Shows P o → has_others 1 k o ≡ true → HasOther P k
  one-told None shown e = absurd (false≢true e)
  one-told (Some h) shown e = other-shown P k h shown (leb-true 1 (number_other k h) e)

  pub told-one : (o : Option Places) → Shows P o → HasOther P k → has_others 1 k o ≡ true
  told-one None shown other = absurd (shown other.0 other.1)
  told-one (Some h) shown other = true-leb 1 (number_other k h) (shown-other P k h shown other)

  pub two-told : (o : Option Places) → Shows P o → has_others 2 k o ≡ true → HasTwoOthers P k
  two-told None shown e = absurd (false≢true e)
  two-told (Some h) shown e = two-shown P k h shown (leb-true 2 (number_other k h) e)

  pub told-two : (o : Option Places) → Shows P o → HasTwoOthers P k → has_others 2 k o ≡ true
  told-two None shown two = absurd (shown two.0 two.2)
  told-two (Some h) shown two = true-leb 2 (number_other k h) (shown-two P k h shown two)
