-- What the place of a walk tells of the value that it has gone to.
use Rattle.std.proofs.Common.{◌≡◌, ℕ, zero, suc, ◌+◌, ◌-◌, ◌<◌, ◌≤◌, ◌^◌, Bool, true, false, ◌||◌, List, [], ◌∷◌, length, get_or, take, map, ℤ, pos, ◌+ℤ◌, ◌-ℤ◌, ◌≤ℤ◌, ◌<ℤ◌, refl, sym, ap, subst, ◌∙◌, arith}
use Rattle.std.specs.Prelude.{int_le, unsigned_abs}
use Rattle.std.specs.Ordering.{int_eq}
use Rattle.std.proofs.lemmas.Int.{ints}
use Rattle.std.proofs.lemmas.List.{take_all}
use Rattle.order_ints.specs.declared.atom.Atom.{Atom}
use Rattle.order_ints.specs.declared.atom.Atom.TheVariants.{True, False}
use Rattle.order_ints.specs.declared.order_int.OrdInt.{OrdInt}
use Rattle.order_ints.specs.OrderRange.{weights, IsBounded}
use Rattle.order_ints.specs.OrderLevels.{levels, first_reaching, at_of, is_among}
use Rattle.order_ints.specs.Walk.{value_at, atom_behind, atom_at, has_value, StandsAt}
use Rattle.order_ints.proofs.Comparisons.{le_from_test, lt_from_test}
use Rattle.order_ints.proofs.Reaching.{reaching-low, reaching-above, at_of-high}

-- a step more
pub weights-more : (steps : List (Atom × ℕ)) (k : ℕ) (d : Atom × ℕ) → k < length steps → weights (take (k + 1) steps) ≡ weights (take k steps) + (get_or steps k d).1
weights-more [] k d lt = absurd (omega (arith, lt))
weights-more (s ∷ steps) zero d lt = omega arith
weights-more (s ∷ steps) (suc k) d lt =
    let next : suc k + 1 ≡ suc (k + 1) = omega arith in
    ap (λ n. weights (take n (s ∷ steps))) next ∙ ap (λ n. s.1 + n) (weights-more steps k d (omega (arith, lt))) ∙ omega arith

pub weights-take : (steps : List (Atom × ℕ)) (k : ℕ) → weights (take k steps) ≤ weights steps
weights-take steps zero = omega arith
weights-take [] (suc k) = omega arith
weights-take (s ∷ steps) (suc k) = omega (arith, weights-take steps k)

-- the atom of a place is that of the step below it
pub atom_behind-step : (x : Atom) (steps : List (Atom × ℕ)) (k : ℕ) (d : Atom × ℕ) → k < length steps → atom_behind x steps (suc k) ≡ (get_or steps k d).0
atom_behind-step x [] k d lt = absurd (omega (arith, lt))
atom_behind-step x (s ∷ steps) zero d lt = refl
atom_behind-step x (s ∷ steps) (suc k) d lt = atom_behind-step s.0 steps k d (omega (arith, lt))

pub value_at-more : (a : OrdInt) (k : ℕ) (d : Atom × ℕ) → k < length a.steps → value_at a (k + 1) ≡ value_at a k +ℤ pos (get_or a.steps k d).1
value_at-more a k d lt = omega (arith, ints, weights-more a.steps k d lt)

pub value_at-small : (a : OrdInt) (k : ℕ) → IsBounded a → unsigned_abs (value_at a k) < 2 ^ 100
value_at-small a k bounded = omega (arith, ints, weights-take a.steps k, bounded.0, bounded.1)

pub stands_small : (a : OrdInt) (k : ℕ) (v : ℤ) → StandsAt a k v → unsigned_abs v < 2 ^ 100
stands_small a k v stands = subst (λ (w : ℤ). unsigned_abs w < 2 ^ 100) (sym stands.2) (value_at-small a k stands.0)

-- one step up, and one down
pub value_at-raised : (a : OrdInt) (k : ℕ) (v : ℤ) (d : Atom × ℕ) → StandsAt a k v → k < length a.steps → v +ℤ pos (get_or a.steps k d).1 ≡ value_at a (k + 1)
value_at-raised a k v d stands lt = omega (arith, ints, stands.2, weights-more a.steps k d lt)

pub value_at-lowered : (a : OrdInt) (k : ℕ) (v : ℤ) (d : Atom × ℕ) → StandsAt a k v → 0 < k → v -ℤ pos (get_or a.steps (k - 1) d).1 ≡ value_at a (k - 1)
value_at-lowered a k v d stands some =
    let back : k - 1 + 1 ≡ k = omega (arith, some) in
    let more = value_at-more a (k - 1) d (omega (arith, some, stands.1)) in
    let here : value_at a k ≡ value_at a (k - 1) +ℤ pos (get_or a.steps (k - 1) d).1 = ap (value_at a) (sym back) ∙ more in
    omega (arith, ints, stands.2, here)

pub atom_at-step : (a : OrdInt) (k : ℕ) (d : Atom × ℕ) → 0 < k → k ≤ length a.steps → (get_or a.steps (k - 1) d).0 ≡ atom_at a k
atom_at-step a k d some le =
    let back : suc (k - 1) ≡ k = omega (arith, some) in
    sym (ap (atom_at a) (sym back) ∙ atom_behind-step True a.steps (k - 1) d (omega (arith, some, le)))

-- the first place that reaches v, a step above one that does not, has the atom that is true from v on
reaching-step : (v low : ℤ) (x : Atom) (steps : List (Atom × ℕ)) (k : ℕ) → k < length steps → (low +ℤ pos (weights (take k steps))) <ℤ v → v ≤ℤ (low +ℤ pos (weights (take (suc k) steps))) → first_reaching v (levels low x steps) ≡ atom_behind x steps (suc k)
reaching-step v low x [] k lt first reached = absurd (omega (arith, lt))
reaching-step v low x (s ∷ steps) zero lt first reached =
    reaching-above v low x s steps (omega (arith, ints, first))
    ∙ reaching-low v (low +ℤ pos s.1) s.0 steps (omega (arith, ints, reached))
reaching-step v low x (s ∷ steps) (suc k) lt first reached =
    reaching-above v low x s steps (omega (arith, ints, first))
    ∙ reaching-step v (low +ℤ pos s.1) s.0 steps k (omega (arith, lt)) (omega (arith, ints, first)) (omega (arith, ints, reached))

-- a value that is not reached at a place is above it, and at the last place above all
pub reaching-place : (a : OrdInt) (v : ℤ) (k : ℕ) → k ≤ length a.steps → (0 < k → value_at a (k - 1) <ℤ v) → v ≤ℤ value_at a k → at_of a v ≡ atom_at a k
reaching-place a v zero le first reached = reaching-low v a.base True a.steps (omega (arith, ints, reached))
reaching-place a v (suc k) le first reached =
    let before : suc k - 1 ≡ k = omega arith in
    reaching-step v a.base True a.steps k (omega (arith, le)) (subst (λ (j : ℕ). value_at a j <ℤ v) before (first (omega arith))) reached

pub reaching-none : (a : OrdInt) (v : ℤ) (k : ℕ) → k ≡ length a.steps → value_at a k <ℤ v → at_of a v ≡ False
reaching-none a v k e below =
    let all : take k a.steps ≡ a.steps = take_all k a.steps (omega (arith, e)) in
    at_of-high a v (subst (λ (ss : List (Atom × ℕ)). (a.base +ℤ pos (weights ss)) <ℤ v) all below)

-- which values stand among those of the levels
int_eq-below : (v w : ℤ) → v <ℤ w → int_eq v w ≡ false
int_eq-below v w lt = grind (arith, ints)

int_eq-above : (v w : ℤ) → w <ℤ v → int_eq v w ≡ false
int_eq-above v w lt = grind (arith, ints)

among-below : (v low : ℤ) (x : Atom) (steps : List (Atom × ℕ)) → v <ℤ low → is_among v (map (λ level. level.0) (levels low x steps)) ≡ false
among-below v low x [] lt = ap (λ b. b || false) (int_eq-above low v lt)
among-below v low x (s ∷ steps) lt =
    ap (λ b. b || is_among v (map (λ level. level.0) (levels (low +ℤ pos s.1) s.0 steps))) (int_eq-above low v lt)
    ∙ among-below v (low +ℤ pos s.1) s.0 steps (omega (arith, ints, lt))

or-false : (b : Bool) → (b || false) ≡ b
or-false true = refl
or-false false = refl

among-low : (v low : ℤ) (x : Atom) (steps : List (Atom × ℕ)) → v ≤ℤ low → is_among v (map (λ level. level.0) (levels low x steps)) ≡ int_eq low v
among-low v low x [] le = or-false (int_eq low v)
among-low v low x (s ∷ steps) le = by (int_eq low v) refl
  where
    by : (b : Bool) → int_eq low v ≡ b → (b || is_among v (map (λ level. level.0) (levels (low +ℤ pos s.1) s.0 steps))) ≡ b
    by true e = refl
    by false e = among-below v (low +ℤ pos s.1) s.0 steps (apart e)
      where
        apart : int_eq low v ≡ false → v <ℤ (low +ℤ pos s.1)
        apart e = grind (arith, ints)

among-step : (v low : ℤ) (x : Atom) (s : Atom × ℕ) (steps : List (Atom × ℕ)) → low <ℤ v → is_among v (map (λ level. level.0) (levels low x (s ∷ steps))) ≡ is_among v (map (λ level. level.0) (levels (low +ℤ pos s.1) s.0 steps))
among-step v low x s steps lt = ap (λ b. b || is_among v (map (λ level. level.0) (levels (low +ℤ pos s.1) s.0 steps))) (int_eq-below low v lt)

among-later : (v low : ℤ) (x : Atom) (steps : List (Atom × ℕ)) (k : ℕ) → k < length steps → (low +ℤ pos (weights (take k steps))) <ℤ v → v ≤ℤ (low +ℤ pos (weights (take (suc k) steps))) → is_among v (map (λ level. level.0) (levels low x steps)) ≡ int_eq (low +ℤ pos (weights (take (suc k) steps))) v
among-later v low x [] k lt first reached = absurd (omega (arith, lt))
among-later v low x (s ∷ steps) zero lt first reached =
    among-step v low x s steps (omega (arith, ints, first))
    ∙ among-low v (low +ℤ pos s.1) s.0 steps (omega (arith, ints, reached))
    ∙ ap (λ (w : ℤ). int_eq w v) (omega (arith, ints))
among-later v low x (s ∷ steps) (suc k) lt first reached =
    among-step v low x s steps (omega (arith, ints, first))
    ∙ among-later v (low +ℤ pos s.1) s.0 steps k (omega (arith, lt)) (omega (arith, ints, first)) (omega (arith, ints, reached))
    ∙ ap (λ (w : ℤ). int_eq w v) (omega (arith, ints))

among-high : (v low : ℤ) (x : Atom) (steps : List (Atom × ℕ)) → (low +ℤ pos (weights steps)) <ℤ v → is_among v (map (λ level. level.0) (levels low x steps)) ≡ false
among-high v low x [] lt = ap (λ b. b || false) (int_eq-below low v (omega (arith, ints, lt)))
among-high v low x (s ∷ steps) lt =
    among-step v low x s steps (omega (arith, ints, lt)) ∙ among-high v (low +ℤ pos s.1) s.0 steps (omega (arith, ints, lt))

-- v is a value exactly where the place that was gone to has it
pub has-place : (a : OrdInt) (v : ℤ) (k : ℕ) → k ≤ length a.steps → (0 < k → value_at a (k - 1) <ℤ v) → (value_at a k <ℤ v → k ≡ length a.steps) → has_value a v ≡ int_eq (value_at a k) v
has-place a v k le first reached = by (int_le v (value_at a k)) refl
  where
    reach : (k : ℕ) → k ≤ length a.steps → (0 < k → value_at a (k - 1) <ℤ v) → v ≤ℤ value_at a k → has_value a v ≡ int_eq (value_at a k) v
    reach zero le first here = among-low v a.base True a.steps (omega (arith, ints, here)) ∙ ap (λ (w : ℤ). int_eq w v) (omega (arith, ints))
    reach (suc k) le first here =
        let before : suc k - 1 ≡ k = omega arith in
        among-later v a.base True a.steps k (omega (arith, le)) (subst (λ (j : ℕ). value_at a j <ℤ v) before (first (omega arith))) here

    by : (b : Bool) → int_le v (value_at a k) ≡ b → has_value a v ≡ int_eq (value_at a k) v
    by true e = reach k le first (le_from_test v (value_at a k) e)
    by false e =
        let lt = lt_from_test v (value_at a k) e in
        let all : take k a.steps ≡ a.steps = take_all k a.steps (omega (arith, reached lt)) in
        among-high v a.base True a.steps (subst (λ (ss : List (Atom × ℕ)). (a.base +ℤ pos (weights ss)) <ℤ v) all lt)
        ∙ sym (int_eq-below (value_at a k) v lt)
