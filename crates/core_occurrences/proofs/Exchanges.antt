-- Two ids that exchange their bodies.
use Rattle.std.proofs.Common.{◌≡◌, ℕ, ◌-◌, ◌<◌, List, length, map, get_or, set, refl, ap, sym, ◌∙◌, subst, arith, ⊎_elim}
use Rattle.std.specs.Prelude.{if◌then◌else◌, ◌==◌}
use Rattle.std.specs.List.{Contains}
use Rattle.std.proofs.lemmas.Bool.{cases_eq, eq-eqb, ne_eqb, cond-true, cond-false}
use Rattle.std.proofs.lemmas.List.{get_or-set_same, get_or-set_other, length-set}
use Rattle.core_occurrences.specs.Lists.{cores_at}
use Rattle.core_occurrences.specs.Bodies.{named_by, AreInverse, swapped, exchanged}
use Rattle.core_occurrences.specs.Laws.{ExchangedOccurs}
use Rattle.core_occurrences.proofs.Named.{get_or-maps, contains-map, body-inside}

-- a list in which two places were written
two-set : (list : List ℕ) (p q x y i : ℕ) → p < length list → q < length list → get_or (set (set list p x) q y) i i ≡ (if i == q then y else if i == p then x else get_or list i i)
two-set list p q x y i p_in q_in = ⊎_elim at_q not_q (cases_eq i q)
  where
    at_q : i ≡ q → get_or (set (set list p x) q y) i i ≡ (if i == q then y else if i == p then x else get_or list i i)
    at_q e =
        subst (λ (j : ℕ). get_or (set (set list p x) q y) j i ≡ y) (sym e) (get_or-set_same (set list p x) q y i (omega (arith, q_in, length-set list p x)))
        ∙ sym (cond-true (i == q) y _ (eq-eqb i q e))

    not_q : (i ≡ q → ⊥) → get_or (set (set list p x) q y) i i ≡ (if i == q then y else if i == p then x else get_or list i i)
    not_q ne =
        get_or-set_other (set list p x) q i y i ne ∙ ⊎_elim at_p not_p (cases_eq i p) ∙ sym (cond-false (i == q) y _ (ne_eqb i q ne))
      where
        at_p : i ≡ p → get_or (set list p x) i i ≡ (if i == p then x else get_or list i i)
        at_p e = subst (λ (j : ℕ). get_or (set list p x) j i ≡ x) (sym e) (get_or-set_same list p x i p_in) ∙ sym (cond-true (i == p) x _ (eq-eqb i p e))

        not_p : (i ≡ p → ⊥) → get_or (set list p x) i i ≡ (if i == p then x else get_or list i i)
        not_p other = get_or-set_other list p i x i other ∙ sym (cond-false (i == p) x _ (ne_eqb i p other))

module _ (first second : ℕ) where
  swapped-first : (id : ℕ) → id ≡ first → swapped first second id ≡ second
  swapped-first id e = cond-true (id == first) _ _ (eq-eqb id first e)

  swapped-second : (id : ℕ) → id ≡ second → swapped first second id ≡ first
  swapped-second id e =
      ⊎_elim (λ (f : id ≡ first). swapped-first id f ∙ sym e ∙ f) (λ (n : id ≡ first → ⊥). cond-false (id == first) _ _ (ne_eqb id first n) ∙ cond-true (id == second) _ _ (eq-eqb id second e))
      (cases_eq id first)

  pub swapped-other : (id : ℕ) → (id ≡ first → ⊥) → (id ≡ second → ⊥) → swapped first second id ≡ id
  swapped-other id not_first not_second = cond-false (id == first) _ _ (ne_eqb id first not_first) ∙ cond-false (id == second) _ _ (ne_eqb id second not_second)

  pub swapped-at-first : swapped first second first ≡ second
  swapped-at-first = swapped-first first refl

  pub swapped-at-second : swapped first second second ≡ first
  swapped-at-second = swapped-second second refl

  swapped-twice : (id : ℕ) → swapped first second (swapped first second id) ≡ id
  swapped-twice id =
      ⊎_elim (λ (e : id ≡ first). ap (swapped first second) (swapped-first id e) ∙ swapped-at-second ∙ sym e)
      (λ (n : id ≡ first → ⊥).
      ⊎_elim (λ (e : id ≡ second). ap (swapped first second) (swapped-second id e) ∙ swapped-at-first ∙ sym e)
      (λ (m : id ≡ second → ⊥). ap (swapped first second) (swapped-other id n m) ∙ swapped-other id n m) (cases_eq id second))
      (cases_eq id first)

-- a variable occurs in each of two cores where it occurred in the other
pub exchanged_occurs : ExchangedOccurs
exchanged_occurs old first second v w =
    let lists : cores_at (exchanged old first second) v ≡ map (swapped first second) (cores_at old v) = get_or-maps (swapped first second) old.lists (v - 1) in
    let both = contains-map (swapped first second) (swapped first second) (swapped-twice first second) (swapped first second w) (cores_at old v) in
    let twice : swapped first second (swapped first second w) ≡ w = swapped-twice first second w in (
      λ o. both.0 (subst (Contains (map (swapped first second) (cores_at old v))) (sym twice) (subst (λ (l : List ℕ). Contains l w) lists o)),
      λ o. subst (λ (l : List ℕ). Contains l w) (sym lists) (subst (Contains (map (swapped first second) (cores_at old v))) twice (both.1 o)),
    )

module _ (bodies cores : List ℕ) (inverse : AreInverse bodies cores) (first second : ℕ) (first_in : first < length bodies) (second_in : second < length bodies)
    (body other : ℕ) (body-is : body ≡ named_by bodies first) (other-is : other ≡ named_by bodies second)
  where
    pub body_in : body < length cores
    body_in = omega (arith, body-is, body-inside bodies cores inverse first first_in, inverse.same)

    pub other_in : other < length cores
    other_in = omega (arith, other-is, body-inside bodies cores inverse second second_in, inverse.same)

    abbrev bodies1 : List ℕ
    bodies1 = set (set bodies first other) second body

    abbrev cores1 : List ℕ
    cores1 = set (set cores body second) other first

    pub swaps-cores : (b : ℕ) → named_by cores1 b ≡ swapped first second (named_by cores b)
    swaps-cores b = two-set cores body other second first b body_in other_in ∙ ⊎_elim at_other not_other (cases_eq b other)
      where
        at_other : b ≡ other → (if b == other then first else if b == body then second else named_by cores b) ≡ swapped first second (named_by cores b)
        at_other e =
            cond-true (b == other) first _ (eq-eqb b other e)
            ∙ sym (swapped-second first second (named_by cores b) (ap (named_by cores) (e ∙ other-is) ∙ inverse.core second))

        not_other : (b ≡ other → ⊥) → (if b == other then first else if b == body then second else named_by cores b) ≡ swapped first second (named_by cores b)
        not_other n = cond-false (b == other) first _ (ne_eqb b other n) ∙ ⊎_elim at_body not_body (cases_eq b body)
          where
            at_body : b ≡ body → (if b == body then second else named_by cores b) ≡ swapped first second (named_by cores b)
            at_body e =
                cond-true (b == body) second _ (eq-eqb b body e)
                ∙ sym (swapped-first first second (named_by cores b) (ap (named_by cores) (e ∙ body-is) ∙ inverse.core first))

            not_body : (b ≡ body → ⊥) → (if b == body then second else named_by cores b) ≡ swapped first second (named_by cores b)
            not_body m =
                cond-false (b == body) second _ (ne_eqb b body m)
                ∙ sym (swapped-other first second (named_by cores b)
                (λ e. m (sym (inverse.body b) ∙ ap (named_by bodies) e ∙ sym body-is)) (λ e. n (sym (inverse.body b) ∙ ap (named_by bodies) e ∙ sym other-is)))

    swaps-bodies : (id : ℕ) → named_by bodies1 id ≡ named_by bodies (swapped first second id)
    swaps-bodies id = two-set bodies first second other body id first_in second_in ∙ ⊎_elim at_second not_second (cases_eq id second)
      where
        at_second : id ≡ second → (if id == second then body else if id == first then other else named_by bodies id) ≡ named_by bodies (swapped first second id)
        at_second e = cond-true (id == second) body _ (eq-eqb id second e) ∙ body-is ∙ ap (named_by bodies) (sym (swapped-second first second id e))

        not_second : (id ≡ second → ⊥) → (if id == second then body else if id == first then other else named_by bodies id) ≡ named_by bodies (swapped first second id)
        not_second n = cond-false (id == second) body _ (ne_eqb id second n) ∙ ⊎_elim at_first not_first (cases_eq id first)
          where
            at_first : id ≡ first → (if id == first then other else named_by bodies id) ≡ named_by bodies (swapped first second id)
            at_first e = cond-true (id == first) other _ (eq-eqb id first e) ∙ other-is ∙ ap (named_by bodies) (sym (swapped-first first second id e))

            not_first : (id ≡ first → ⊥) → (if id == first then other else named_by bodies id) ≡ named_by bodies (swapped first second id)
            not_first m = cond-false (id == first) other _ (ne_eqb id first m) ∙ ap (named_by bodies) (sym (swapped-other first second id m n))

    pub inverse-exchanged : AreInverse bodies1 cores1
    inverse-exchanged = record {
      body = λ b. swaps-bodies (named_by cores1 b) ∙ ap (λ (id : ℕ). named_by bodies (swapped first second id)) (swaps-cores b) ∙ ap (named_by bodies) (swapped-twice first second (named_by cores b)) ∙ inverse.body b;
      core = λ id. swaps-cores (named_by bodies1 id) ∙ ap (λ (b : ℕ). swapped first second (named_by cores b)) (swaps-bodies id) ∙ ap (swapped first second) (inverse.core (swapped first second id)) ∙ swapped-twice first second id;
      same = length-set (set bodies first other) second body ∙ length-set bodies first other ∙ inverse.same ∙ sym (length-set cores body second) ∙ sym (length-set (set cores body second) other first);
    }
