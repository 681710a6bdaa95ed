-- Lists of numbers without repeats that lie inside others.
use Rattle.std.proofs.Common.{◌≡◌, suc, ◌+◌, ◌≤◌, Bool, true, false, cond, ◌||◌, ◌⊎◌, inl, inr, List, [], ◌∷◌, ◌++◌, length, ℤ, refl, ap, sym, ◌∙◌, subst, arith, ⊎_elim}
use Rattle.std.specs.Ordering.{int_eq}
use Rattle.std.proofs.lemmas.Bool.{true≢false, false≢true, cases_Bool, false_from_ne_true}
use Rattle.std.proofs.lemmas.Int.{ints}
use Rattle.order_ints.specs.OrderLevels.{is_among}
use Rattle.alldiff_rules.specs.Members.{number_new}

-- equality of numbers as a test
pub int_eq-same : (v w : ℤ) → int_eq v w ≡ true → v ≡ w
int_eq-same v w h = grind (arith, ints)

pub int_eq-refl : (v : ℤ) → int_eq v v ≡ true
int_eq-refl v = grind (arith, ints)

pub int_eq-other : (v w : ℤ) → (v ≡ w → ⊥) → int_eq v w ≡ false
int_eq-other v w ne = false_from_ne_true _ (λ e. ne (int_eq-same v w e))

pub or-left : (s t : Bool) → s ≡ true → (s || t) ≡ true
or-left s t e = ap (λ b. b || t) e

pub or-right : (s t : Bool) → t ≡ true → (s || t) ≡ true
or-right true t e = refl
or-right false t e = e

pub or-cases : (s t : Bool) → (s || t) ≡ true → (s ≡ true) ⊎ (t ≡ true)
or-cases true t e = inl refl
or-cases false t e = inr e

-- membership, one member after another
pub among-first : (v : ℤ) (vs : List ℤ) → is_among v (v ∷ vs) ≡ true
among-first v vs = or-left (int_eq v v) (is_among v vs) (int_eq-refl v)

pub among-later : (v w : ℤ) (vs : List ℤ) → is_among v vs ≡ true → is_among v (w ∷ vs) ≡ true
among-later v w vs e = or-right (int_eq w v) (is_among v vs) e

pub among-cases : (v w : ℤ) (vs : List ℤ) → is_among v (w ∷ vs) ≡ true → (w ≡ v) ⊎ (is_among v vs ≡ true)
among-cases v w vs e = ⊎_elim (λ h. inl (int_eq-same w v h)) (λ h. inr h) (or-cases (int_eq w v) (is_among v vs) e)

pub among-left : (v : ℤ) (vs ws : List ℤ) → is_among v vs ≡ true → is_among v (vs ++ ws) ≡ true
among-left v [] ws e = absurd (false≢true e)
among-left v (w ∷ vs) ws e = ⊎_elim (λ (h : int_eq w v ≡ true). or-left (int_eq w v) (is_among v (vs ++ ws)) h) (λ (h : is_among v vs ≡ true). or-right (int_eq w v) (is_among v (vs ++ ws)) (among-left v vs ws h)) (or-cases (int_eq w v) (is_among v vs) e)

pub among-right : (v : ℤ) (vs ws : List ℤ) → is_among v ws ≡ true → is_among v (vs ++ ws) ≡ true
among-right v [] ws e = e
among-right v (w ∷ vs) ws e = or-right (int_eq w v) (is_among v (vs ++ ws)) (among-right v vs ws e)

-- no member stands twice
abbrev pub NoRepeats : List ℤ → Type 0
NoRepeats [] = Unit {0}
NoRepeats (v ∷ vs) = (is_among v vs ≡ false) × NoRepeats vs

-- one list lies inside another
abbrev pub LiesIn : List ℤ → List ℤ → Type 0
LiesIn vs ws = (v : ℤ) → is_among v vs ≡ true → is_among v ws ≡ true

-- a list without the first place of a member
abbrev without : ℤ → List ℤ → List ℤ
without v [] = []
without v (w ∷ ws) = cond (int_eq w v) ws (w ∷ without v ws)

length-without : (v : ℤ) (ws : List ℤ) → is_among v ws ≡ true → length (without v ws) + 1 ≡ length ws
length-without v [] e = absurd (false≢true e)
length-without v (w ∷ ws) e = by (int_eq w v) (length-without v ws) e
  where
    by : (t : Bool) → (is_among v ws ≡ true → length (without v ws) + 1 ≡ length ws) → (t || is_among v ws) ≡ true → length (cond t ws (w ∷ without v ws)) + 1 ≡ suc (length ws)
    by true more h = omega arith
    by false more h = omega (arith, more h)

among-without : (v u : ℤ) (ws : List ℤ) → (u ≡ v → ⊥) → is_among u ws ≡ true → is_among u (without v ws) ≡ true
among-without v u [] ne e = absurd (false≢true e)
among-without v u (w ∷ ws) ne e = by (int_eq w v) refl (among-without v u ws ne)
  where
    by : (t : Bool) → int_eq w v ≡ t → (is_among u ws ≡ true → is_among u (without v ws) ≡ true) → is_among u (cond t ws (w ∷ without v ws)) ≡ true
    by true h more = ⊎_elim (λ (s : w ≡ u). absurd (ne (sym s ∙ int_eq-same w v h))) (λ (s : is_among u ws ≡ true). s) (among-cases u w ws e)
    by false h more = ⊎_elim (λ (s : w ≡ u). subst (λ x. is_among u (x ∷ without v ws) ≡ true) (sym s) (among-first u (without v ws))) (λ (s : is_among u ws ≡ true). among-later u w (without v ws) (more s)) (among-cases u w ws e)

-- a list without repeats that lies inside another is no longer than it
pub fits : (vs ws : List ℤ) → NoRepeats vs → LiesIn vs ws → length vs ≤ length ws
fits [] ws once inside = omega arith
fits (v ∷ vs) ws once inside =
    let here : is_among v ws ≡ true = inside v (among-first v vs) in
    let rest : LiesIn vs (without v ws) = λ u e. among-without v u ws (λ (s : u ≡ v). true≢false (sym (subst (λ x. is_among x vs ≡ true) s e) ∙ once.0)) (inside u (among-later u v vs e)) in
    omega (arith, fits vs (without v ws) once.1 rest, length-without v ws here)

-- and one that is as long has each of its members
pub takes_each : (vs ws : List ℤ) → NoRepeats vs → LiesIn vs ws → length ws ≤ length vs → LiesIn ws vs
takes_each vs ws once inside long v e = ⊎_elim (λ (h : is_among v vs ≡ true). h) (λ (h : is_among v vs ≡ false). absurd (missed h)) (cases_Bool (is_among v vs))
  where
    missed : is_among v vs ≡ false → ⊥
    missed h =
        let more : LiesIn (v ∷ vs) ws = λ u d. ⊎_elim (λ (s : v ≡ u). subst (λ x. is_among x ws ≡ true) s e) (λ (s : is_among u vs ≡ true). inside u s) (among-cases u v vs d) in
        let bound : suc (length vs) ≤ length ws = fits (v ∷ vs) ws (h, once) more in
        omega arith

-- the different members of a list beside those that were counted already
abbrev pub new_members : List ℤ → List ℤ → List ℤ
new_members counted [] = []
new_members counted (v ∷ vs) = cond (is_among v counted) (new_members counted vs) (v ∷ new_members (v ∷ counted) vs)

pub length-new : (counted vs : List ℤ) → length (new_members counted vs) ≡ number_new counted vs
length-new counted [] = refl
length-new counted (v ∷ vs) = by (is_among v counted) (length-new counted vs) (length-new (v ∷ counted) vs)
  where
    by : (t : Bool) → length (new_members counted vs) ≡ number_new counted vs → length (new_members (v ∷ counted) vs) ≡ number_new (v ∷ counted) vs → length (cond t (new_members counted vs) (v ∷ new_members (v ∷ counted) vs)) ≡ cond t (number_new counted vs) (suc (number_new (v ∷ counted) vs))
    by true old more = old
    by false old more = ap suc more

-- each member was counted or is new
abbrev Covers : List ℤ → ℤ → List ℤ → Type 0
Covers vs v counted = is_among v vs ≡ true → (is_among v counted ≡ true) ⊎ (is_among v (new_members counted vs) ≡ true)

pub new-covers : (counted vs : List ℤ) (v : ℤ) → is_among v vs ≡ true → (is_among v counted ≡ true) ⊎ (is_among v (new_members counted vs) ≡ true)
new-covers counted [] v e = absurd (false≢true e)
new-covers counted (w ∷ vs) v e = by (is_among w counted) refl (new-covers counted vs v) (new-covers (w ∷ counted) vs v)
  where
    by : (t : Bool) → is_among w counted ≡ t → Covers vs v counted → Covers vs v (w ∷ counted) → (is_among v counted ≡ true) ⊎ (is_among v (cond t (new_members counted vs) (w ∷ new_members (w ∷ counted) vs)) ≡ true)
    by true h old more = ⊎_elim (λ (s : w ≡ v). inl (subst (λ x. is_among x counted ≡ true) s h)) old (among-cases v w vs e)
    by false h old more = ⊎_elim first later (among-cases v w vs e)
      where
        first : w ≡ v → (is_among v counted ≡ true) ⊎ (is_among v (w ∷ new_members (w ∷ counted) vs) ≡ true)
        first s = inr (subst (λ x. is_among v (x ∷ new_members (w ∷ counted) vs) ≡ true) (sym s) (among-first v (new_members (w ∷ counted) vs)))

        later : is_among v vs ≡ true → (is_among v counted ≡ true) ⊎ (is_among v (w ∷ new_members (w ∷ counted) vs) ≡ true)
        later s = ⊎_elim (λ (m : is_among v (w ∷ counted) ≡ true). ⊎_elim first (λ (c : is_among v counted ≡ true). inl c) (among-cases v w counted m)) (λ (m : is_among v (new_members (w ∷ counted) vs) ≡ true). inr (among-later v w (new_members (w ∷ counted) vs) m)) (more s)

pub all-new : (vs : List ℤ) → LiesIn vs (new_members [] vs)
all-new vs v e = ⊎_elim (λ h. absurd (false≢true h)) (λ h. h) (new-covers [] vs v e)
