-- Lists of values that differ where their conditions are true; and that as many different ones as there are values take each of them.
use Rattle.std.proofs.Common.{◌≡◌, ℕ, ◌+◌, ◌≤◌, suc, Bool, true, false, not, ◌&&◌, ◌||◌, cond, List, [], ◌∷◌, length, inl, inr, ℤ, refl, sym, ap, ◌∙◌, subst, arith}
use Rattle.std.specs.Ordering.{int_eq}
use Rattle.std.proofs.lemmas.Bool.{cases_lt}
use Rattle.core_forms.specs.Values.{none_equal, all_differ}
use Rattle.core_forms.proofs.Ascending.{Among}
use Rattle.decompose.proofs.Tests.{and_first, and_second, and_made, int_eq_made}
use Rattle.decompose.proofs.Marks.{by_equal, count_at}

-- ---- none is equal where none counts

none-made : (v : ℤ) (vs : List ℤ) (cs : List Bool) → count_at v vs cs ≡ 0 → none_equal v vs cs ≡ true
none-made v [] cs h = refl
none-made v (w ∷ vs) [] h = refl
none-made v (w ∷ vs) (c ∷ cs) h =
    elim (c && int_eq v w) as (λ t. cond t 1 0 + count_at v vs cs ≡ 0 → (not t && none_equal v vs cs) ≡ true)
    [ true ↦ λ e. absurd (omega (arith, e)) | false ↦ λ e. none-made v vs cs (omega (arith, e)) ] h

none-tells : (v : ℤ) (vs : List ℤ) (cs : List Bool) → none_equal v vs cs ≡ true → count_at v vs cs ≡ 0
none-tells v [] cs h = refl
none-tells v (w ∷ vs) [] h = refl
none-tells v (w ∷ vs) (c ∷ cs) h =
    elim (c && int_eq v w) as (λ t. (not t && none_equal v vs cs) ≡ true → cond t 1 0 + count_at v vs cs ≡ 0)
    [ true ↦ λ e. absurd (cc) | false ↦ λ e. omega (arith, none-tells v vs cs e) ] h

-- ---- values differ exactly where each counts once at most

pub differ-tells : (w : ℤ) (vs : List ℤ) (cs : List Bool) → all_differ vs cs ≡ true → count_at w vs cs ≤ 1
differ-tells w [] cs h = omega arith
differ-tells w (v ∷ vs) [] h = omega arith
differ-tells w (v ∷ vs) (c ∷ cs) h =
    let rest = differ-tells w vs cs (and_second (not c || none_equal v vs cs) (all_differ vs cs) h) in
    by c (and_first (not c || none_equal v vs cs) (all_differ vs cs) h) rest
  where
    by : (c : Bool) → (not c || none_equal v vs cs) ≡ true → count_at w vs cs ≤ 1 → cond (c && int_eq w v) 1 0 + count_at w vs cs ≤ 1
    by false e rest = omega arith
    by true e rest =
        by_equal w v (λ t. cond t 1 0 + count_at w vs cs ≤ 1)
        (λ is. let none = none-tells v vs cs e in let same : count_at w vs cs ≡ 0 = ap (λ x. count_at x vs cs) is ∙ none in omega arith)
        (λ other. omega arith)

pub differ-made : (vs : List ℤ) (cs : List Bool) → ((w : ℤ) → Among w vs → count_at w vs cs ≤ 1) → all_differ vs cs ≡ true
differ-made [] cs h = refl
differ-made (v ∷ vs) [] h = refl
differ-made (v ∷ vs) (c ∷ cs) h =
    and_made (not c || none_equal v vs cs) (all_differ vs cs) (by c (h v (inl refl)))
    (differ-made vs cs (λ w m. below (cond (c && int_eq w v) 1 0) (count_at w vs cs) (h w (inr m))))
  where
    below : (x y : ℕ) → x + y ≤ 1 → y ≤ 1
    below x y h = omega arith

    by : (c : Bool) → cond (c && int_eq v v) 1 0 + count_at v vs cs ≤ 1 → (not c || none_equal v vs cs) ≡ true
    by false few = refl
    by true few =
        let e : ◌≡◌ {A = ℕ} (cond (int_eq v v) 1 0) 1 = ap (λ t. cond t 1 0) (int_eq_made v v refl) in
        none-made v vs cs (none (cond (int_eq v v) 1 0) (count_at v vs cs) e few)
      where
        none : (x y : ℕ) → x ≡ 1 → x + y ≤ 1 → y ≡ 0
        none x y e h = omega (arith, e, h)

-- ---- as many different values as there are take each of them

abbrev without : ℤ → List ℤ → List ℤ
without x [] = []
without x (v ∷ vs) = cond (int_eq x v) vs (v ∷ without x vs)

length-without : (x : ℤ) (vs : List ℤ) → Among x vs → length vs ≡ suc (length (without x vs))
length-without x [] m = absurd m
length-without x (v ∷ vs) m =
    by_equal x v (λ t. suc (length vs) ≡ suc (length (cond t vs (v ∷ without x vs)))) (λ e. refl) (λ n. other n m (λ k. length-without x vs k))
  where
    other : (x ≡ v → ⊥) → Among x (v ∷ vs) → (Among x vs → length vs ≡ suc (length (without x vs))) → suc (length vs) ≡ suc (suc (length (without x vs)))
    other n (inl e) rest = absurd (n (sym e))
    other n (inr m) rest = ap suc (rest m)

Among-without : (x u : ℤ) (vs : List ℤ) → (x ≡ u → ⊥) → Among u vs → Among u (without x vs)
Among-without x u [] n m = absurd m
Among-without x u (v ∷ vs) n m =
    by_equal x v (λ t. Among u (cond t vs (v ∷ without x vs))) (λ e. same e m) (λ k. other m (λ i. Among-without x u vs n i))
  where
    same : x ≡ v → Among u (v ∷ vs) → Among u vs
    same e (inl f) = absurd (n (e ∙ f))
    same e (inr m) = m

    other : Among u (v ∷ vs) → (Among u vs → Among u (without x vs)) → Among u (v ∷ without x vs)
    other (inl e) rest = inl e
    other (inr m) rest = inr (rest m)

-- each member differs from those behind it
abbrev pub AreDifferent : List ℤ → Type 0
AreDifferent [] = Unit {0}
AreDifferent (v ∷ vs) = (Among v vs → ⊥) × AreDifferent vs

fewer : (vs ws : List ℤ) → AreDifferent vs → ((u : ℤ) → Among u vs → Among u ws) → length vs ≤ length ws
fewer [] ws h all = omega arith
fewer (v ∷ vs) ws h all =
    let one = length-without v ws (all v (inl refl)) in
    let rest = fewer vs (without v ws) h.1 (λ u m. Among-without v u ws (λ e. h.0 (subst (λ x. Among x vs) (sym e) m)) (all u (inr m))) in
    omega arith

-- all conditions are true
abbrev pub AllTrue : List Bool → Type 0
AllTrue [] = Unit {0}
AllTrue (c ∷ cs) = (c ≡ true) × AllTrue cs

none-among : (w : ℤ) (vs : List ℤ) (cs : List Bool) → AllTrue cs → length vs ≡ length cs → count_at w vs cs ≡ 0 → Among w vs → ⊥
none-among w [] cs trues same none m = absurd m
none-among w (v ∷ vs) [] trues same none m = absurd (omega arith)
none-among w (v ∷ vs) (c ∷ cs) trues same none (inl e) =
    let t : (c && int_eq w v) ≡ true = ap (λ b. b && int_eq w v) trues.0 ∙ int_eq_made w v (sym e) in
    absurd (let f : ◌≡◌ {A = ℕ} (cond (c && int_eq w v) 1 0) 1 = ap (λ b. cond b 1 0) t in omega (arith, f, none))
none-among w (v ∷ vs) (c ∷ cs) trues same none (inr m) =
    none-among w vs cs trues.1 (omega arith) (rest (cond (c && int_eq w v) 1 0) (count_at w vs cs) none) m
  where
    rest : (x y : ℕ) → x + y ≡ 0 → y ≡ 0
    rest x y e = omega (arith, e)

different : (vs : List ℤ) (cs : List Bool) → AllTrue cs → length vs ≡ length cs → all_differ vs cs ≡ true → AreDifferent vs
different [] cs trues same h = tt
different (v ∷ vs) [] trues same h = absurd (omega arith)
different (v ∷ vs) (c ∷ cs) trues same h =
    let here : (not c || none_equal v vs cs) ≡ true = and_first (not c || none_equal v vs cs) (all_differ vs cs) h in
    let none : none_equal v vs cs ≡ true = sym (ap (λ b. not b || none_equal v vs cs) trues.0) ∙ here in
    (none-among v vs cs trues.1 (omega arith) (none-tells v vs cs none), different vs cs trues.1 (omega arith) (and_second (not c || none_equal v vs cs) (all_differ vs cs) h))

-- each of as many values counts
pub each-counts : (vs ws : List ℤ) (cs : List Bool) → AllTrue cs → length vs ≡ length cs → all_differ vs cs ≡ true
    → ((u : ℤ) → Among u vs → Among u ws) → length ws ≡ length vs → (w : ℤ) → Among w ws → 1 ≤ count_at w vs cs
each-counts vs ws cs trues same h all as_many w m =
    elim (cases_lt (count_at w vs cs) 1) [
      | inl none ↦
          let long = fewer (w ∷ vs) ws (none-among w vs cs trues same (omega arith), different vs cs trues same h) (λ u. both u) in
          absurd (omega arith)
      | inr some ↦ some
    ]
  where
    both : (u : ℤ) → Among u (w ∷ vs) → Among u ws
    both u (inl e) = subst (λ x. Among x ws) e m
    both u (inr k) = all u k
