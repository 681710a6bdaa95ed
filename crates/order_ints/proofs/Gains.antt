-- The weights of true steps, and the order of steps.
use Rattle.std.proofs.Common.{◌≡◌, ℕ, ◌+◌, ◌<◌, ◌≤◌, Bool, true, false, not, ◌&&◌, cond, length, get_or, drop, List, [], ◌∷◌, ◌++◌, pos, ◌+ℤ◌, ◌≤ℤ◌, refl, sym, ap, ◌∙◌, arith}
use Rattle.std.proofs.lemmas.Int.{ints}
use Rattle.std.proofs.lemmas.List.{at_drop_more}
use Rattle.order_ints.specs.declared.atom.Atom.{Atom}
use Rattle.order_ints.specs.declared.atom.Atom.TheVariants.{True, False, Of}
use Rattle.order_ints.specs.declared.order_int.OrdInt.{OrdInt}
use Rattle.order_ints.specs.Truth.{Valuation, Agree, atom_truth}
use Rattle.order_ints.specs.Place.{AtomBelow, StepsBelow}
use Rattle.order_ints.specs.OrderValue.{gains, value_of, none_true, in_order, IsOrdered}
use Rattle.order_ints.specs.OrderRange.{weights, low_of, high_of, IntBelow}
use Rattle.order_ints.proofs.Truths.{atom_truth-agree}

-- a step gains at most its weight
gain-le : (t : Bool) (w : ℕ) → cond t w 0 ≤ w
gain-le true w = omega arith
gain-le false w = omega arith

pub gains-le : (σ : Valuation) (steps : List (Atom × ℕ)) → gains σ steps ≤ weights steps
gains-le σ [] = omega arith
gains-le σ (s ∷ steps) = omega (arith, gains-le σ steps, gain-le (atom_truth σ s.0) s.1)

-- the value lies between the least and the greatest
pub low-le : (σ : Valuation) (a : OrdInt) → low_of a ≤ℤ value_of σ a
low-le σ a = omega (arith, ints)

pub high-ge : (σ : Valuation) (a : OrdInt) → value_of σ a ≤ℤ high_of a
high-ge σ a = omega (arith, ints, gains-le σ a.steps)

pub gains-append : (σ : Valuation) (xs ys : List (Atom × ℕ)) → gains σ (xs ++ ys) ≡ gains σ xs + gains σ ys
gains-append σ [] ys = omega arith
gains-append σ (s ∷ xs) ys = omega (arith, gains-append σ xs ys)

pub weights-append : (xs ys : List (Atom × ℕ)) → weights (xs ++ ys) ≡ weights xs + weights ys
weights-append [] ys = omega arith
weights-append (s ∷ xs) ys = omega (arith, weights-append xs ys)

-- where no step is true nothing is gained
pub gains-none_true : (σ : Valuation) (steps : List (Atom × ℕ)) → none_true σ steps ≡ true → gains σ steps ≡ 0
gains-none_true σ [] h = refl
gains-none_true σ (s ∷ steps) h =
    elim (atom_truth σ s.0) as (λ t. (not t && none_true σ steps) ≡ true → cond t s.1 0 + gains σ steps ≡ 0)
    [ true ↦ λ e. absurd (cc) | false ↦ λ e. omega (arith, gains-none_true σ steps e) ] h

-- value and order depend on the variables of the integer alone
pub gains-agree : (n : ℕ) (σ τ : Valuation) (steps : List (Atom × ℕ)) → Agree n σ τ → StepsBelow n steps → gains σ steps ≡ gains τ steps
gains-agree n σ τ [] same below = refl
gains-agree n σ τ (s ∷ steps) same below =
    let e = atom_truth-agree n σ τ s.0 same below.0 in
    let r = gains-agree n σ τ steps same below.1 in cc

pub none_true-agree : (n : ℕ) (σ τ : Valuation) (steps : List (Atom × ℕ)) → Agree n σ τ → StepsBelow n steps → none_true σ steps ≡ none_true τ steps
none_true-agree n σ τ [] same below = refl
none_true-agree n σ τ (s ∷ steps) same below =
    let e = atom_truth-agree n σ τ s.0 same below.0 in
    let r = none_true-agree n σ τ steps same below.1 in cc

pub in_order-agree : (n : ℕ) (σ τ : Valuation) (steps : List (Atom × ℕ)) → Agree n σ τ → StepsBelow n steps → in_order σ steps ≡ in_order τ steps
in_order-agree n σ τ [] same below = refl
in_order-agree n σ τ (s ∷ steps) same below =
    let e = atom_truth-agree n σ τ s.0 same below.0 in
    let r = in_order-agree n σ τ steps same below.1 in
    let q = none_true-agree n σ τ steps same below.1 in cc

pub value_of-agree : (n : ℕ) (σ τ : Valuation) (a : OrdInt) → Agree n σ τ → IntBelow n a → value_of σ a ≡ value_of τ a
value_of-agree n σ τ a same below = ap (λ g. a.base +ℤ pos g) (gains-agree n σ τ a.steps same below)

pub ruleset gain_bounds = (arith, ints, gains-le)

-- a true step gains its weight, and those behind it what they gain
pub gains-drop : (σ : Valuation) (steps : List (Atom × ℕ)) (i : ℕ) (d : Atom × ℕ) → i < length steps → true ≡ atom_truth σ (get_or steps i d).0 → gains σ (drop i steps) ≡ (get_or steps i d).1 + gains σ (drop (i + 1) steps)
gains-drop σ steps i d h e =
    at_drop_more (gains σ) steps i d h ∙ ap (λ t. cond t (get_or steps i d).1 0 + gains σ (drop (i + 1) steps)) (sym e)

-- what has its variables below n has them below each greater bound
pub AtomBelow-more : (n m : ℕ) (a : Atom) → n ≤ m → AtomBelow n a → AtomBelow m a
AtomBelow-more n m True le below = tt
AtomBelow-more n m False le below = tt
AtomBelow-more n m (Of l) le below = (below.0, omega (arith, below.1))

pub StepsBelow-more : (n m : ℕ) (steps : List (Atom × ℕ)) → n ≤ m → StepsBelow n steps → StepsBelow m steps
StepsBelow-more n m [] le below = tt
StepsBelow-more n m (s ∷ steps) le below = (AtomBelow-more n m s.0 le below.0, StepsBelow-more n m steps le below.1)

pub IsOrdered-agree : (n : ℕ) (σ τ : Valuation) (a : OrdInt) → Agree n σ τ → IntBelow n a → IsOrdered σ a → IsOrdered τ a
IsOrdered-agree n σ τ a same below ordered = sym (in_order-agree n σ τ a.steps same below) ∙ ordered
