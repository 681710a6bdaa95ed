-- The negation of an integer: its value, its order, its conditions, and at which atom it reaches a value.
use Rattle.std.proofs.Common.{◌≡◌, ℕ, ◌+◌, Bool, true, false, not, ◌&&◌, cond, List, [], ◌∷◌, ◌++◌, map, ℤ, pos, neg_ℤ, ◌+ℤ◌, ◌-ℤ◌, ◌≤ℤ◌, ◌<ℤ◌, refl, sym, ap, ◌∙◌, arith}
use Rattle.std.specs.Prelude.{int_le, reverse}
use Rattle.std.proofs.lemmas.Int.{ints}
use Rattle.std.proofs.lemmas.List.{reverse-append, map-append}
use mathlib.Core.Bool.{and_comm}
use Rattle.order_ints.specs.declared.atom.Atom.{Atom}
use Rattle.order_ints.specs.declared.atom.Atom.TheVariants.{True, False}
use Rattle.order_ints.specs.declared.order_int.OrdInt.{OrdInt}
use Rattle.order_ints.specs.Truth.{Valuation, atom_truth, not_atom}
use Rattle.order_ints.specs.Place.{StepsBelow}
use Rattle.order_ints.specs.OrderValue.{gains, value_of, none_true, in_order}
use Rattle.order_ints.specs.OrderRange.{weights, low_of, high_of, AreRising, IsBounded}
use Rattle.order_ints.specs.OrderLevels.{levels, first_reaching, at_of}
use Rattle.order_ints.specs.OrderChange.{negated_step, negated_of}
use Rattle.order_ints.proofs.Comparisons.{int_le-true, int_le-false, by_int_le}
use Rattle.order_ints.proofs.Truths.{atom_truth-not_atom, AtomBelow-not_atom}
use Rattle.order_ints.proofs.Gains.{gains-append, weights-append}
use Rattle.order_ints.proofs.Reaching.{reaching-low, reaching-above}

pub negated-cons : (s : Atom × ℕ) (steps : List (Atom × ℕ)) → map negated_step (reverse (s ∷ steps)) ≡ map negated_step (reverse steps) ++ negated_step s ∷ []
negated-cons s steps = ap (map negated_step) (reverse-append (s ∷ []) steps) ∙ map-append negated_step (reverse steps) (s ∷ [])

pub weights-negated : (steps : List (Atom × ℕ)) → weights (map negated_step (reverse steps)) ≡ weights steps
weights-negated [] = refl
weights-negated (s ∷ steps) =
    rw (negated-cons s steps, weights-append (map negated_step (reverse steps)) (negated_step s ∷ [])) (omega (arith, weights-negated steps))

gain-not : (t u : Bool) (w : ℕ) → u ≡ not t → cond u w 0 + cond t w 0 ≡ w
gain-not true u w e = rw e (omega arith)
gain-not false u w e = rw e (omega arith)

-- a step is true or its negation is
pub gains-negated : (σ : Valuation) (steps : List (Atom × ℕ)) → gains σ (map negated_step (reverse steps)) + gains σ steps ≡ weights steps
gains-negated σ [] = refl
gains-negated σ (s ∷ steps) =
    rw (negated-cons s steps, gains-append σ (map negated_step (reverse steps)) (negated_step s ∷ []))
    (omega (arith, gains-negated σ steps, gain-not (atom_truth σ s.0) (atom_truth σ (not_atom s.0)) s.1 (atom_truth-not_atom σ s.0)))

-- the value of the negation is minus the value
pub value_of-negated_of : (σ : Valuation) (a : OrdInt) → value_of σ (negated_of a) ≡ neg_ℤ (value_of σ a)
value_of-negated_of σ a = omega (arith, ints, gains-negated σ a.steps)

-- each step is true
abbrev all_true : Valuation → List (Atom × ℕ) → Bool
all_true σ [] = true
all_true σ (s ∷ steps) = atom_truth σ s.0 && all_true σ steps

-- one more step in the end
none_true-push : (t u r : Bool) (n : Bool) → r ≡ (n && not u) → (not t && r) ≡ ((not t && n) && not u)
none_true-push true u r n e = refl
none_true-push false u r n e = e

none_true-append : (σ : Valuation) (xs : List (Atom × ℕ)) (s : Atom × ℕ) → none_true σ (xs ++ s ∷ []) ≡ (none_true σ xs && not (atom_truth σ s.0))
none_true-append σ [] s = elim (atom_truth σ s.0) as (λ t. (not t && true) ≡ not t) [ true ↦ refl | false ↦ refl ]
none_true-append σ (x ∷ xs) s =
    none_true-push (atom_truth σ x.0) (atom_truth σ s.0) (none_true σ (xs ++ s ∷ [])) (none_true σ xs) (none_true-append σ xs s)

all_true-append : (σ : Valuation) (xs : List (Atom × ℕ)) (s : Atom × ℕ) → all_true σ (xs ++ s ∷ []) ≡ (all_true σ xs && atom_truth σ s.0)
all_true-append σ [] s = elim (atom_truth σ s.0) as (λ t. (t && true) ≡ t) [ true ↦ refl | false ↦ refl ]
all_true-append σ (x ∷ xs) s =
    elim (atom_truth σ x.0) as (λ t. (t && all_true σ (xs ++ s ∷ [])) ≡ ((t && all_true σ xs) && atom_truth σ s.0)) [ true ↦ all_true-append σ xs s | false ↦ refl ]

and-not : (n u : Bool) → (n && not u) ≡ cond u false n
and-not true true = refl
and-not true false = refl
and-not false true = refl
and-not false false = refl

in_order-append : (σ : Valuation) (xs : List (Atom × ℕ)) (s : Atom × ℕ) → in_order σ (xs ++ s ∷ []) ≡ cond (atom_truth σ s.0) (all_true σ xs) (in_order σ xs)
in_order-append σ [] s = elim (atom_truth σ s.0) as (λ t. cond t true true ≡ cond t true true) [ true ↦ refl | false ↦ refl ]
in_order-append σ (x ∷ xs) s =
    elim (atom_truth σ x.0) as (λ t. cond t (in_order σ (xs ++ s ∷ [])) (none_true σ (xs ++ s ∷ [])) ≡ cond (atom_truth σ s.0) (t && all_true σ xs) (cond t (in_order σ xs) (none_true σ xs)))
    [ true ↦ in_order-append σ xs s | false ↦ none_true-append σ xs s ∙ and-not (none_true σ xs) (atom_truth σ s.0) ]

all_true-negated : (σ : Valuation) (steps : List (Atom × ℕ)) → all_true σ (map negated_step (reverse steps)) ≡ none_true σ steps
all_true-negated σ [] = refl
all_true-negated σ (s ∷ steps) =
    rw (negated-cons s steps, all_true-append σ (map negated_step (reverse steps)) (negated_step s))
    (let e = all_true-negated σ steps in let q = atom_truth-not_atom σ s.0 in rw (e, q) (and_comm (none_true σ steps) (not (atom_truth σ s.0))))

cond-not : {X : Type 0} (t u : Bool) (x y : X) → u ≡ not t → cond u x y ≡ cond t y x
cond-not true u x y e = rw e refl
cond-not false u x y e = rw e refl

-- the negation is ordered exactly where the integer is
pub in_order-negated : (σ : Valuation) (steps : List (Atom × ℕ)) → in_order σ (map negated_step (reverse steps)) ≡ in_order σ steps
in_order-negated σ [] = refl
in_order-negated σ (s ∷ steps) =
    rw (negated-cons s steps, in_order-append σ (map negated_step (reverse steps)) (negated_step s), all_true-negated σ steps, in_order-negated σ steps)
    (cond-not (atom_truth σ s.0) (atom_truth σ (not_atom s.0)) (none_true σ steps) (in_order σ steps) (atom_truth-not_atom σ s.0))

AreRising-append : (xs ys : List (Atom × ℕ)) → AreRising xs → AreRising ys → AreRising (xs ++ ys)
AreRising-append [] ys h k = k
AreRising-append (x ∷ xs) ys h k = (h.0, AreRising-append xs ys h.1 k)

StepsBelow-append : (n : ℕ) (xs ys : List (Atom × ℕ)) → StepsBelow n xs → StepsBelow n ys → StepsBelow n (xs ++ ys)
StepsBelow-append n [] ys h k = k
StepsBelow-append n (x ∷ xs) ys h k = (h.0, StepsBelow-append n xs ys h.1 k)

-- the negation rises, and has its variables below n, where the integer does and has
pub AreRising-negated : (steps : List (Atom × ℕ)) → AreRising steps → AreRising (map negated_step (reverse steps))
AreRising-negated [] h = tt
AreRising-negated (s ∷ steps) h =
    rw (negated-cons s steps) (AreRising-append (map negated_step (reverse steps)) (negated_step s ∷ []) (AreRising-negated steps h.1) (h.0, tt))

pub StepsBelow-negated : (n : ℕ) (steps : List (Atom × ℕ)) → StepsBelow n steps → StepsBelow n (map negated_step (reverse steps))
StepsBelow-negated n [] h = tt
StepsBelow-negated n (s ∷ steps) h =
    rw (negated-cons s steps) (StepsBelow-append n (map negated_step (reverse steps)) (negated_step s ∷ []) (StepsBelow-negated n steps h.1) (AtomBelow-not_atom n s.0 h.0, tt))

pub high_of-negated_of : (a : OrdInt) → high_of (negated_of a) ≡ neg_ℤ (low_of a)
high_of-negated_of a = omega (arith, ints, weights-negated a.steps)

pub IsBounded-negated_of : (a : OrdInt) → IsBounded a → IsBounded (negated_of a)
IsBounded-negated_of a h = (omega (arith, ints, h.1), omega (arith, ints, h.0, weights-negated a.steps))

-- one more level in the end
levels-append : (low : ℤ) (x : Atom) (xs : List (Atom × ℕ)) (s : Atom × ℕ) → levels low x (xs ++ s ∷ []) ≡ levels low x xs ++ (low +ℤ pos (weights xs) +ℤ pos s.1, s.0) ∷ []
levels-append low x [] s = ap (λ v. (low, x) ∷ (v, s.0) ∷ []) (omega (arith, ints))
levels-append low x (y ∷ xs) s =
    ap (λ ls. (low, x) ∷ ls) (levels-append (low +ℤ pos y.1) y.0 xs s
    ∙ ap (λ v. levels (low +ℤ pos y.1) y.0 xs ++ (v, s.0) ∷ []) (omega (arith, ints)))

-- what is reached by the front is reached there
reaching-front : (v low : ℤ) (x : Atom) (xs : List (Atom × ℕ)) (more : List (ℤ × Atom)) → v ≤ℤ (low +ℤ pos (weights xs)) → first_reaching v (levels low x xs ++ more) ≡ first_reaching v (levels low x xs)
reaching-front v low x [] more h =
    rw (int_le-true v low (omega (arith, ints))) refl
reaching-front v low x (y ∷ xs) more h =
    ap (cond (int_le v low) x) (reaching-front v (low +ℤ pos y.1) y.0 xs more (omega (arith, ints)))

reaching-end : (v low : ℤ) (x : Atom) (xs : List (Atom × ℕ)) (more : List (ℤ × Atom)) → (low +ℤ pos (weights xs)) <ℤ v → first_reaching v (levels low x xs ++ more) ≡ first_reaching v more
reaching-end v low x [] more h =
    rw (int_le-false v low (omega (arith, ints))) refl
reaching-end v low x (y ∷ xs) more h =
    rw (int_le-false v low (omega (arith, ints))) (reaching-end v (low +ℤ pos y.1) y.0 xs more (omega (arith, ints)))

-- above the lowest level its atom does not count
reaching-first : (v low : ℤ) (x y : Atom) (xs : List (Atom × ℕ)) → low <ℤ v → first_reaching v (levels low x xs) ≡ first_reaching v (levels low y xs)
reaching-first v low x y [] h = rw (int_le-false v low h) refl
reaching-first v low x y (s ∷ xs) h = rw (int_le-false v low h) refl

-- minus the greatest value is reached by the negation up to where the value is below
reaching-negated : (v low : ℤ) (steps : List (Atom × ℕ)) → first_reaching v (levels (neg_ℤ (low +ℤ pos (weights steps))) True (map negated_step (reverse steps))) ≡ not_atom (first_reaching (pos 1 -ℤ v) (levels low True steps))
reaching-negated v low [] =
    by_int_le v (neg_ℤ (low +ℤ pos 0)) True False (λ a. a ≡ not_atom (first_reaching (pos 1 -ℤ v) (levels low True [])))
    (λ h. rw (int_le-false (pos 1 -ℤ v) low (omega (arith, ints))) refl)
    (λ h. rw (int_le-true (pos 1 -ℤ v) low (omega (arith, ints))) refl)
reaching-negated v low (s ∷ steps) =
    let least = neg_ℤ (low +ℤ pos (weights (s ∷ steps))) in
    let behind = map negated_step (reverse steps) in
    let t = pos 1 -ℤ v in
    let last = least +ℤ pos (weights behind) +ℤ pos s.1 in
    let split : levels least True (map negated_step (reverse (s ∷ steps))) ≡ levels least True behind ++ (last, not_atom s.0) ∷ [] =
    ap (levels least True) (negated-cons s steps) ∙ levels-append least True behind (negated_step s) in
    let w : weights behind ≡ weights steps = weights-negated steps in
    let all = levels least True behind ++ (last, not_atom s.0) ∷ [] in
    ap (first_reaching v) split
    ∙ by_int_le v (least +ℤ pos (weights behind)) true false (λ b. first_reaching v all ≡ not_atom (first_reaching t (levels low True (s ∷ steps))))
    (λ h.
    let above : (low +ℤ pos s.1) <ℤ t = omega (arith, ints) in
    reaching-front v least True behind ((last, not_atom s.0) ∷ []) h
    ∙ ap (λ b. first_reaching v (levels b True behind)) (omega (arith, ints))
    ∙ reaching-negated v (low +ℤ pos s.1) steps
    ∙ ap not_atom (reaching-first t (low +ℤ pos s.1) True s.0 steps above ∙ sym (reaching-above t low True s steps (omega (arith, ints)))))
    (λ h.
    reaching-end v least True behind ((last, not_atom s.0) ∷ []) h
    ∙ by_int_le v last (not_atom s.0) False (λ a. a ≡ not_atom (first_reaching t (levels low True (s ∷ steps))))
    (λ k. ap not_atom (sym (reaching-above t low True s steps (omega (arith, ints)) ∙ reaching-low t (low +ℤ pos s.1) s.0 steps (omega (arith, ints)))))
    (λ k. ap not_atom (sym (reaching-low t low True (s ∷ steps) (omega (arith, ints))))))

-- minus the integer is at least v exactly where the integer is not at least 1 - v
pub at_of-negated_of : (a : OrdInt) (v : ℤ) → at_of (negated_of a) v ≡ not_atom (at_of a (pos 1 -ℤ v))
at_of-negated_of a v = reaching-negated v a.base a.steps
