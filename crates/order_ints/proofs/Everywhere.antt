-- What holds of each level of an integer.
use Rattle.std.proofs.Common.{◌≡◌, ℕ, ◌<◌, ◌^◌, Bool, true, false, cond, List, [], ◌∷◌, ◌++◌, map, ℤ, pos, ◌+ℤ◌, refl, sym, ◌∙◌, arith}
use Rattle.std.specs.Prelude.{unsigned_abs, int_le, filter}
use Rattle.std.specs.List.{AllByRecursion}
use Rattle.std.proofs.lemmas.Int.{ints}
use Rattle.std.proofs.lemmas.List.{append_assoc}
use Rattle.order_ints.specs.declared.atom.Atom.{Atom}
use Rattle.order_ints.specs.declared.atom.Atom.TheVariants.{True}
use Rattle.order_ints.specs.declared.order_int.OrdInt.{OrdInt}
use Rattle.order_ints.specs.Truth.{Valuation, atom_truth}
use Rattle.order_ints.specs.Place.{AtomBelow, StepsBelow}
use Rattle.order_ints.specs.OrderValue.{value_of, IsOrdered}
use Rattle.order_ints.specs.OrderRange.{weights, AreRising, IntBelow, IsBounded}
use Rattle.order_ints.specs.OrderLevels.{levels, levels_of, values_of, at_of}
use Rattle.order_ints.proofs.Reaching.{at_of-level, atom_truth-level}

-- what holds of each member of a list, wherever it stands
everywhere : {X : Type 0} (P : X → Type 0) (all front rest : List X) → all ≡ front ++ rest → ((front back : List X) (x : X) → all ≡ front ++ x ∷ back → P x) → AllByRecursion P rest
everywhere P all front [] e holds = tt
everywhere P all front (x ∷ rest) e holds =
    (holds front rest x e, everywhere P all (front ++ x ∷ []) rest (e ∙ sym (append_assoc front (x ∷ []) rest)) holds)

-- at each level `at` is the level's atom
pub levels_at : (a : OrdInt) → AreRising a.steps → AllByRecursion (λ (level : ℤ × Atom). at_of a level.0 ≡ level.1) (levels_of a)
levels_at a rising =
    everywhere (λ (level : ℤ × Atom). at_of a level.0 ≡ level.1) (levels_of a) [] (levels_of a) refl
    (λ front back level e. at_of-level a front back level.0 level.1 rising e)

-- and it tells, on an ordered integer, whether the value is at least the level's
pub levels_tell : (σ : Valuation) (a : OrdInt) → AreRising a.steps → IsOrdered σ a → AllByRecursion (λ (level : ℤ × Atom). atom_truth σ level.1 ≡ int_le level.0 (value_of σ a)) (levels_of a)
levels_tell σ a rising ordered =
    everywhere (λ (level : ℤ × Atom). atom_truth σ level.1 ≡ int_le level.0 (value_of σ a)) (levels_of a) [] (levels_of a) refl
    (λ front back level e. atom_truth-level σ a front back level.0 level.1 rising ordered e)

small-levels : (low : ℤ) (x : Atom) (steps : List (Atom × ℕ)) → unsigned_abs low < 2 ^ 100 → unsigned_abs (low +ℤ pos (weights steps)) < 2 ^ 100 → AllByRecursion (λ (level : ℤ × Atom). unsigned_abs level.0 < 2 ^ 100) (levels low x steps)
small-levels low x [] least greatest = (least, tt)
small-levels low x (s ∷ steps) least greatest =
    (least, small-levels (low +ℤ pos s.1) s.0 steps (omega (arith, ints)) (omega (arith, ints)))

-- each level lies within the limits
pub levels_small : (a : OrdInt) → IsBounded a → AllByRecursion (λ (level : ℤ × Atom). unsigned_abs level.0 < 2 ^ 100) (levels_of a)
levels_small a bounded = small-levels a.base True a.steps bounded.0 bounded.1

below-levels : (n : ℕ) (low : ℤ) (x : Atom) (steps : List (Atom × ℕ)) → AtomBelow n x → StepsBelow n steps → AllByRecursion (λ (level : ℤ × Atom). AtomBelow n level.1) (levels low x steps)
below-levels n low x [] first below = (first, tt)
below-levels n low x (s ∷ steps) first below = (first, below-levels n (low +ℤ pos s.1) s.0 steps below.0 below.1)

-- and its atom is below a bound where the integer is
pub levels_below : (n : ℕ) (a : OrdInt) → IntBelow n a → AllByRecursion (λ (level : ℤ × Atom). AtomBelow n level.1) (levels_of a)
levels_below n a below = below-levels n a.base True a.steps tt below

-- what is made of values and their atoms, one after another, is made of the values alone
map-levels : {X : Type 0} (f : ℤ → Atom → X) (at : ℤ → Atom) (ls : List (ℤ × Atom)) → AllByRecursion (λ (level : ℤ × Atom). at level.0 ≡ level.1) ls → map (λ (level : ℤ × Atom). f level.0 level.1) ls ≡ map (λ v. f v (at v)) (map (λ (level : ℤ × Atom). level.0) ls)
map-levels f at [] are = refl
map-levels f at (l ∷ ls) are = λ i. f l.0 (sym are.0 i) ∷ map-levels f at ls are.1 i

pub map_levels : {X : Type 0} (f : ℤ → Atom → X) (a : OrdInt) → AreRising a.steps → map (λ (level : ℤ × Atom). f level.0 level.1) (levels_of a) ≡ map (λ v. f v (at_of a v)) (values_of a)
map_levels f a rising = map-levels f (at_of a) (levels_of a) (levels_at a rising)

-- the same of those whose value passes a test
filter-levels : {X : Type 0} (f : ℤ → Atom → X) (test : ℤ → Bool) (at : ℤ → Atom) (ls : List (ℤ × Atom)) → AllByRecursion (λ (level : ℤ × Atom). at level.0 ≡ level.1) ls → map (λ (level : ℤ × Atom). f level.0 level.1) (filter (λ (level : ℤ × Atom). test level.0) ls) ≡ map (λ v. f v (at v)) (filter test (map (λ (level : ℤ × Atom). level.0) ls))
filter-levels f test at [] are = refl
filter-levels f test at (l ∷ ls) are =
    elim (test l.0) as (λ t. map (λ (level : ℤ × Atom). f level.0 level.1) (cond t (l ∷ filter (λ (level : ℤ × Atom). test level.0) ls) (filter (λ (level : ℤ × Atom). test level.0) ls)) ≡ map (λ v. f v (at v)) (cond t (l.0 ∷ filter test (map (λ (level : ℤ × Atom). level.0) ls)) (filter test (map (λ (level : ℤ × Atom). level.0) ls)))) [
      | true ↦ λ i. f l.0 (sym are.0 i) ∷ filter-levels f test at ls are.1 i
      | false ↦ filter-levels f test at ls are.1
    ]

pub filter_levels : {X : Type 0} (f : ℤ → Atom → X) (test : ℤ → Bool) (a : OrdInt) → AreRising a.steps → map (λ (level : ℤ × Atom). f level.0 level.1) (filter (λ (level : ℤ × Atom). test level.0) (levels_of a)) ≡ map (λ v. f v (at_of a v)) (filter test (values_of a))
filter_levels f test a rising = filter-levels f test (at_of a) (levels_of a) (levels_at a rising)
