-- At which atom a value is reached.
use Rattle.std.proofs.Common.{◌≡◌, ℕ, ◌+◌, suc, true, false, not, ◌&&◌, cond, List, [], ◌∷◌, ◌++◌, map, Contains, ℤ, pos, ◌+ℤ◌, ◌≤ℤ◌, ◌<ℤ◌, refl, sym, ap, subst, ◌∙◌, ◌↔◌, arith}
use Rattle.std.specs.Prelude.{int_le, IsTrue}
use Rattle.std.proofs.lemmas.Int.{ints}
use Rattle.order_ints.specs.declared.atom.Atom.{Atom}
use Rattle.order_ints.specs.declared.atom.Atom.TheVariants.{True, False}
use Rattle.order_ints.specs.declared.order_int.OrdInt.{OrdInt}
use Rattle.order_ints.specs.Truth.{Valuation, atom_truth}
use Rattle.order_ints.specs.Place.{AtomBelow, StepsBelow}
use Rattle.order_ints.specs.OrderValue.{gains, value_of, none_true, in_order, IsOrdered}
use Rattle.order_ints.specs.OrderRange.{weights, low_of, high_of, AreRising, IntBelow}
use Rattle.order_ints.specs.OrderLevels.{levels, levels_of, values_of, first_reaching, at_of}
use Rattle.order_ints.proofs.Comparisons.{int_le-true, int_le-false, by_int_le, le_from_test}
use Rattle.order_ints.proofs.Gains.{gains-none_true}

-- from a false atom on, with no true step, no level is true
reaching-none_true : (σ : Valuation) (v low : ℤ) (x : Atom) (steps : List (Atom × ℕ)) → atom_truth σ x ≡ false → none_true σ steps ≡ true → atom_truth σ (first_reaching v (levels low x steps)) ≡ false
reaching-none_true σ v low x [] e h = by_int_le v low x False (λ a. atom_truth σ a ≡ false) (λ _. e) (λ _. refl)
reaching-none_true σ v low x (s ∷ steps) e h =
    by_int_le v low x (first_reaching v (levels (low +ℤ pos s.1) s.0 steps)) (λ a. atom_truth σ a ≡ false) (λ _. e)
    (λ _. elim (atom_truth σ s.0) as (λ t. atom_truth σ s.0 ≡ t → (not t && none_true σ steps) ≡ true → atom_truth σ (first_reaching v (levels (low +ℤ pos s.1) s.0 steps)) ≡ false)
    [ true ↦ λ _ r. absurd (cc) | false ↦ λ q r. reaching-none_true σ v (low +ℤ pos s.1) s.0 steps q r ] refl h)

-- from a true atom on, the atom at which v is reached is true exactly where the gains reach v
reaching-in_order : (σ : Valuation) (v low : ℤ) (x : Atom) (steps : List (Atom × ℕ)) → atom_truth σ x ≡ true → in_order σ steps ≡ true → atom_truth σ (first_reaching v (levels low x steps)) ≡ int_le v (low +ℤ pos (gains σ steps))
reaching-in_order σ v low x [] e h =
    by_int_le v low x False (λ a. atom_truth σ a ≡ int_le v (low +ℤ pos 0))
    (λ le. e ∙ sym (int_le-true v (low +ℤ pos 0) (omega (arith, ints))))
    (λ lt. sym (int_le-false v (low +ℤ pos 0) (omega (arith, ints))))
reaching-in_order σ v low x (s ∷ steps) e h =
    by_int_le v low x (first_reaching v (levels (low +ℤ pos s.1) s.0 steps)) (λ a. atom_truth σ a ≡ int_le v (low +ℤ pos (gains σ (s ∷ steps))))
    (λ le. e ∙ sym (int_le-true v (low +ℤ pos (gains σ (s ∷ steps))) (omega (arith, ints))))
    (λ lt. elim (atom_truth σ s.0) as (λ t. atom_truth σ s.0 ≡ t → cond t (in_order σ steps) (none_true σ steps) ≡ true → atom_truth σ (first_reaching v (levels (low +ℤ pos s.1) s.0 steps)) ≡ int_le v (low +ℤ pos (cond t s.1 0 + gains σ steps))) [
      | true ↦ λ q r. reaching-in_order σ v (low +ℤ pos s.1) s.0 steps q r ∙ ap (int_le v) (omega (arith, ints))
      | false ↦ λ q r. reaching-none_true σ v (low +ℤ pos s.1) s.0 steps q r ∙ sym (int_le-false v (low +ℤ pos (0 + gains σ steps)) (omega (arith, ints, gains-none_true σ steps r)))
    ] refl h)

-- on an ordered integer `at v` is true exactly where the value is at least v
pub atom_truth-at_of : (σ : Valuation) (a : OrdInt) (v : ℤ) → IsOrdered σ a → atom_truth σ (at_of a v) ≡ int_le v (value_of σ a)
atom_truth-at_of σ a v ordered = reaching-in_order σ v a.base True a.steps refl ordered

pub reaching-low : (v low : ℤ) (x : Atom) (steps : List (Atom × ℕ)) → v ≤ℤ low → first_reaching v (levels low x steps) ≡ x
reaching-low v low x [] h = ap (λ b. cond b x False) (int_le-true v low h)
reaching-low v low x (s ∷ steps) h = ap (λ b. cond b x (first_reaching v (levels (low +ℤ pos s.1) s.0 steps))) (int_le-true v low h)

pub reaching-above : (v low : ℤ) (x : Atom) (s : Atom × ℕ) (steps : List (Atom × ℕ)) → low <ℤ v → first_reaching v (levels low x (s ∷ steps)) ≡ first_reaching v (levels (low +ℤ pos s.1) s.0 steps)
reaching-above v low x s steps h = ap (λ b. cond b x (first_reaching v (levels (low +ℤ pos s.1) s.0 steps))) (int_le-false v low h)

reaching-high : (v low : ℤ) (x : Atom) (steps : List (Atom × ℕ)) → (low +ℤ pos (weights steps)) <ℤ v → first_reaching v (levels low x steps) ≡ False
reaching-high v low x [] h = ap (λ b. cond b x False) (int_le-false v low (omega (arith, ints)))
reaching-high v low x (s ∷ steps) h =
    reaching-above v low x s steps (omega (arith, ints)) ∙ reaching-high v (low +ℤ pos s.1) s.0 steps (omega (arith, ints))

-- up to the least value `at` is True, and above the greatest it is False
pub at_of-low : (a : OrdInt) (v : ℤ) → v ≤ℤ low_of a → at_of a v ≡ True
at_of-low a v h = reaching-low v a.base True a.steps h

pub at_of-high : (a : OrdInt) (v : ℤ) → high_of a <ℤ v → at_of a v ≡ False
at_of-high a v h = reaching-high v a.base True a.steps h

-- the first level of two equal lists of levels
same_value : (low v : ℤ) (z y : Atom) (above back : List (ℤ × Atom)) → (low, z) ∷ above ≡ (v, y) ∷ back → low ≡ v
same_value low v z y above back e = let q : ◌≡◌ {A = ℤ × Atom} (low, z) (v, y) = cc in ap (λ (p : ℤ × Atom). p.0) q

same_atom : (low v : ℤ) (z y : Atom) (above back : List (ℤ × Atom)) → (low, z) ∷ above ≡ (v, y) ∷ back → z ≡ y
same_atom low v z y above back e = let q : ◌≡◌ {A = ℤ × Atom} (low, z) (v, y) = cc in ap (λ (p : ℤ × Atom). p.1) q

-- a level lies at the lowest one or above it
levels-ge : (low : ℤ) (z : Atom) (steps : List (Atom × ℕ)) (front back : List (ℤ × Atom)) (v : ℤ) (y : Atom) → levels low z steps ≡ front ++ (v, y) ∷ back → low ≤ℤ v
levels-ge low z [] [] back v y e = omega (arith, ints, same_value low v z y [] back e)
levels-ge low z [] (f ∷ []) back v y e = absurd (cc)
levels-ge low z [] (f ∷ g ∷ front) back v y e = absurd (cc)
levels-ge low z (s ∷ steps) [] back v y e =
    omega (arith, ints, same_value low v z y (levels (low +ℤ pos s.1) s.0 steps) back e)
levels-ge low z (s ∷ steps) (f ∷ front) back v y e =
    omega (arith, ints, levels-ge (low +ℤ pos s.1) s.0 steps front back v y (cc))

-- what reaches a level of a list reaches it in the list behind its front
reaching-between : (low : ℤ) (z : Atom) (steps : List (Atom × ℕ)) (front back : List (ℤ × Atom)) (u v : ℤ) (x y : Atom) (t : ℤ) → levels low z steps ≡ front ++ (u, x) ∷ (v, y) ∷ back → u <ℤ t → t ≤ℤ v → first_reaching t (levels low z steps) ≡ y
reaching-between low z [] [] back u v x y t e above reached = absurd (cc)
reaching-between low z [] (f ∷ []) back u v x y t e above reached = absurd (cc)
reaching-between low z [] (f ∷ g ∷ front) back u v x y t e above reached = absurd (cc)
reaching-between low z (s ∷ steps) [] back u v x y t e above reached =
    let q : levels (low +ℤ pos s.1) s.0 steps ≡ (v, y) ∷ back = cc in
    reaching-above t low z s steps (omega (arith, ints, same_value low u z x (levels (low +ℤ pos s.1) s.0 steps) ((v, y) ∷ back) e))
    ∙ ap (first_reaching t) q ∙ ap (λ b. cond b y (first_reaching t back)) (int_le-true t v reached)
reaching-between low z (s ∷ steps) (f ∷ front) back u v x y t e above reached =
    let q : levels (low +ℤ pos s.1) s.0 steps ≡ front ++ (u, x) ∷ (v, y) ∷ back = cc in
    reaching-above t low z s steps (omega (arith, ints, levels-ge (low +ℤ pos s.1) s.0 steps front ((v, y) ∷ back) u x q))
    ∙ reaching-between (low +ℤ pos s.1) s.0 steps front back u v x y t q above reached

-- between two neighbouring values, and at the upper one, `at` is the upper one's atom
pub at_of-between : (a : OrdInt) (front back : List (ℤ × Atom)) (u v : ℤ) (x y : Atom) (t : ℤ) → levels_of a ≡ front ++ (u, x) ∷ (v, y) ∷ back → u <ℤ t → t ≤ℤ v → at_of a t ≡ y
at_of-between a front back u v x y t e above reached = reaching-between a.base True a.steps front back u v x y t e above reached

reaching-level : (low : ℤ) (z : Atom) (steps : List (Atom × ℕ)) (front back : List (ℤ × Atom)) (v : ℤ) (y : Atom) → AreRising steps → levels low z steps ≡ front ++ (v, y) ∷ back → first_reaching v (levels low z steps) ≡ y
reaching-level low z [] [] back v y rising e =
    reaching-low v low z [] (omega (arith, ints, same_value low v z y [] back e)) ∙ same_atom low v z y [] back e
reaching-level low z [] (f ∷ []) back v y rising e = absurd (cc)
reaching-level low z [] (f ∷ g ∷ front) back v y rising e = absurd (cc)
reaching-level low z (s ∷ steps) [] back v y rising e =
    let above = levels (low +ℤ pos s.1) s.0 steps in
    reaching-low v low z (s ∷ steps) (omega (arith, ints, same_value low v z y above back e)) ∙ same_atom low v z y above back e
reaching-level low z (s ∷ steps) (f ∷ front) back v y rising e =
    let q : levels (low +ℤ pos s.1) s.0 steps ≡ front ++ (v, y) ∷ back = cc in
    reaching-above v low z s steps (omega (arith, ints, rising.0, levels-ge (low +ℤ pos s.1) s.0 steps front back v y q))
    ∙ reaching-level (low +ℤ pos s.1) s.0 steps front back v y rising.1 q

-- at a value `at` is the value's atom
pub at_of-level : (a : OrdInt) (front back : List (ℤ × Atom)) (v : ℤ) (y : Atom) → AreRising a.steps → levels_of a ≡ front ++ (v, y) ∷ back → at_of a v ≡ y
at_of-level a front back v y rising e = reaching-level a.base True a.steps front back v y rising e

-- the atom of a level of an ordered integer is true exactly where the value is at least the level's
pub atom_truth-level : (σ : Valuation) (a : OrdInt) (front back : List (ℤ × Atom)) (v : ℤ) (y : Atom) → AreRising a.steps → IsOrdered σ a → levels_of a ≡ front ++ (v, y) ∷ back → atom_truth σ y ≡ int_le v (value_of σ a)
atom_truth-level σ a front back v y rising ordered e =
    ap (atom_truth σ) (sym (at_of-level a front back v y rising e)) ∙ atom_truth-at_of σ a v ordered

Contains-further : (xs : List ℤ) (x y z : ℤ) → Contains xs x → x ≡ z → Contains (y ∷ xs) z
Contains-further xs x y z c e = subst (λ t. Contains (y ∷ xs) t) e (suc c.0, omega (arith, c.1), c.2)

values-in_order : (σ : Valuation) (low : ℤ) (x : Atom) (steps : List (Atom × ℕ)) → in_order σ steps ≡ true → Contains (map (λ level. level.0) (levels low x steps)) (low +ℤ pos (gains σ steps))
values-in_order σ low x [] ordered = (0, omega arith, omega (arith, ints))
values-in_order σ low x (s ∷ steps) ordered =
    elim (atom_truth σ s.0) as (λ t. cond t (in_order σ steps) (none_true σ steps) ≡ true → Contains (map (λ level. level.0) (levels low x (s ∷ steps))) (low +ℤ pos (cond t s.1 0 + gains σ steps))) [
      | true ↦ λ r. Contains-further _ (low +ℤ pos s.1 +ℤ pos (gains σ steps)) low _ (values-in_order σ (low +ℤ pos s.1) s.0 steps r) (omega (arith, ints))
      | false ↦ λ r. (0, omega arith, omega (arith, ints, gains-none_true σ steps r))
    ] ordered

-- the value of an ordered integer is one of its values
pub Contains-value_of : (σ : Valuation) (a : OrdInt) → IsOrdered σ a → Contains (values_of a) (value_of σ a)
Contains-value_of σ a ordered = values-in_order σ a.base True a.steps ordered

-- the atom at which a value is reached is below a bound where the integer is
reaching-below : (n : ℕ) (v low : ℤ) (x : Atom) (steps : List (Atom × ℕ)) → AtomBelow n x → StepsBelow n steps → AtomBelow n (first_reaching v (levels low x steps))
reaching-below n v low x [] first below = by_int_le v low x False (λ a. AtomBelow n a) (λ _. first) (λ _. tt)
reaching-below n v low x (s ∷ steps) first below =
    by_int_le v low x (first_reaching v (levels (low +ℤ pos s.1) s.0 steps)) (λ a. AtomBelow n a) (λ _. first)
    (λ _. reaching-below n v (low +ℤ pos s.1) s.0 steps below.0 below.1)

pub AtomBelow-at_of : (n : ℕ) (a : OrdInt) (v : ℤ) → IntBelow n a → AtomBelow n (at_of a v)
AtomBelow-at_of n a v below = reaching-below n v a.base True a.steps tt below

-- the atom that `at` gives tells whether the value is at least v
pub at_tells : (a : OrdInt) (v : ℤ) (x : Atom) → x ≡ at_of a v → (σ : Valuation) → IsOrdered σ a → IsTrue (atom_truth σ x) ↔ (v ≤ℤ value_of σ a)
at_tells a v x e σ ordered =
    let truth : atom_truth σ x ≡ int_le v (value_of σ a) = ap (atom_truth σ) e ∙ atom_truth-at_of σ a v ordered in
    ((λ h. le_from_test v (value_of σ a) (sym truth ∙ h)), (λ h. truth ∙ int_le-true v (value_of σ a) h))

-- where the first level is below v, the levels behind it reach v at the same atom
pub reaches_behind : (v : ℤ) (level : ℤ × Atom) (above all : List (ℤ × Atom)) → all ≡ level ∷ above → level.0 <ℤ v → first_reaching v above ≡ first_reaching v all
reaches_behind v level above all e below =
    sym (ap (first_reaching v) e ∙ ap (λ t. cond t level.1 (first_reaching v above)) (int_le-false v level.0 below))
