-- What tidying an integer keeps: its gains and its order, and its limits.
use Rattle.std.proofs.Common.{◌≡◌, ℕ, ◌+◌, ◌<◌, ◌≤◌, ◌^◌, Bool, true, false, not, ◌&&◌, cond, List, [], ◌∷◌, ℤ, pos, ◌+ℤ◌, ◌≤ℤ◌, refl, sym, ap, subst, ◌∙◌, arith}
use Rattle.std.specs.Prelude.{unsigned_abs}
use Rattle.std.proofs.lemmas.Int.{ints}
use Rattle.order_ints.specs.declared.atom.Atom.{Atom}
use Rattle.order_ints.specs.declared.atom.Atom.TheVariants.{True, False, Of}
use Rattle.order_ints.specs.declared.order_int.OrdInt.{OrdInt}
use Rattle.order_ints.specs.Truth.{Valuation, atom_truth}
use Rattle.order_ints.specs.OrderValue.{gains, value_of, none_true, in_order}
use Rattle.order_ints.specs.OrderRange.{weights, low_of, high_of, IsBounded}
use Rattle.order_ints.specs.Same.{is_true, is_false, same_atom}
use Rattle.order_ints.specs.Equality.{same_atom-true, is_true-True}
use Rattle.core_forms.specs.Resolved.{map_steps, map_int}
use Rattle.core_forms.specs.Trimmed.{merged_steps, raised_by, tidied_int}

-- a choice, case by case
pub by_test : {X : Type 0} (b : Bool) (x y : X) (P : X → Type 0) → (b ≡ true → P x) → (b ≡ false → P y) → P (cond b x y)
by_test {X} b x y P when unless = elim b as (λ t. b ≡ t → P (cond t x y)) [ true ↦ when | false ↦ unless ] refl

-- the weights
pub weights-merged : (a : Atom) (w : ℕ) (steps : List (Atom × ℕ)) → weights (merged_steps a w steps) ≤ w + weights steps
weights-merged a w [] = by_test (is_false a) [] ((a, w) ∷ []) (λ xs. weights xs ≤ w + 0) (λ _. omega arith) (λ _. omega arith)
weights-merged a w (s ∷ steps) =
    by_test (same_atom a s.0) (merged_steps a (w + s.1) steps) ((a, w) ∷ merged_steps s.0 s.1 steps) (λ xs. weights xs ≤ w + (s.1 + weights steps))
    (λ _. omega (arith, weights-merged a (w + s.1) steps)) (λ _. omega (arith, weights-merged s.0 s.1 steps))

pub weights-map_steps : (f : Atom → Atom) (steps : List (Atom × ℕ)) → weights (map_steps f steps) ≡ weights steps
weights-map_steps f [] = refl
weights-map_steps f (s ∷ steps) = ap (λ n. s.1 + n) (weights-map_steps f steps)

-- the least and the greatest value
pub low-raised_by : (base : ℤ) (steps : List (Atom × ℕ)) → base ≤ℤ low_of (raised_by base steps)
low-raised_by base [] = omega (arith, ints)
low-raised_by base (s ∷ steps) =
    by_test (is_true s.0) (raised_by (base +ℤ pos s.1) steps) (record { base = base; steps = merged_steps s.0 s.1 steps }) (λ a. base ≤ℤ low_of a)
    (λ _. omega (arith, ints, low-raised_by (base +ℤ pos s.1) steps)) (λ _. omega (arith, ints))

pub high-raised_by : (base : ℤ) (steps : List (Atom × ℕ)) → high_of (raised_by base steps) ≤ℤ (base +ℤ pos (weights steps))
high-raised_by base [] = omega (arith, ints)
high-raised_by base (s ∷ steps) =
    by_test (is_true s.0) (raised_by (base +ℤ pos s.1) steps) (record { base = base; steps = merged_steps s.0 s.1 steps }) (λ a. high_of a ≤ℤ (base +ℤ pos (s.1 + weights steps)))
    (λ _. omega (arith, ints, high-raised_by (base +ℤ pos s.1) steps)) (λ _. omega (arith, ints, weights-merged s.0 s.1 steps))

pub IsBounded-tidied : (a : OrdInt) → IsBounded a → IsBounded (tidied_int a)
IsBounded-tidied a bounded =
    let low = low-raised_by a.base a.steps in
    let high = high-raised_by a.base a.steps in
    (omega (arith, ints, low, high, bounded.0, bounded.1), omega (arith, ints, low, high, bounded.0, bounded.1))

pub IsBounded-map : (f : Atom → Atom) (a : OrdInt) → IsBounded a → IsBounded (map_int f a)
IsBounded-map f a bounded = (bounded.0, subst (λ n. unsigned_abs (a.base +ℤ pos n) < 2 ^ 100) (sym (weights-map_steps f a.steps)) bounded.1)

pub IsBounded-trimmed : (f : Atom → Atom) (a : OrdInt) → IsBounded a → IsBounded (tidied_int (map_int f a))
IsBounded-trimmed f a bounded = IsBounded-tidied (map_int f a) (IsBounded-map f a bounded)

-- gains and order
module _ (σ : Valuation) where
  pub gains-merged : (a : Atom) (w : ℕ) (steps : List (Atom × ℕ)) → gains σ (merged_steps a w steps) ≡ cond (atom_truth σ a) w 0 + gains σ steps
  gains-merged True w [] = refl
  gains-merged False w [] = refl
  gains-merged (Of l) w [] = refl
  gains-merged a w (s ∷ steps) =
      by_test (same_atom a s.0) (merged_steps a (w + s.1) steps) ((a, w) ∷ merged_steps s.0 s.1 steps) (λ xs. gains σ xs ≡ cond (atom_truth σ a) w 0 + (cond (atom_truth σ s.0) s.1 0 + gains σ steps))
      (λ e. gains-merged a (w + s.1) steps ∙ joined (atom_truth σ a) (atom_truth σ s.0) (ap (atom_truth σ) (same_atom-true a s.0 e)))
      (λ _. ap (λ n. cond (atom_truth σ a) w 0 + n) (gains-merged s.0 s.1 steps))
    where
      joined : (t u : Bool) → t ≡ u → cond t (w + s.1) 0 + gains σ steps ≡ cond t w 0 + (cond u s.1 0 + gains σ steps)
      joined true true e = omega arith
      joined false false e = omega arith
      joined true false e = absurd (cc)
      joined false true e = absurd (cc)

  pub none_true-merged : (a : Atom) (w : ℕ) (steps : List (Atom × ℕ)) → none_true σ (merged_steps a w steps) ≡ (not (atom_truth σ a) && none_true σ steps)
  none_true-merged True w [] = refl
  none_true-merged False w [] = refl
  none_true-merged (Of l) w [] = refl
  none_true-merged a w (s ∷ steps) =
      by_test (same_atom a s.0) (merged_steps a (w + s.1) steps) ((a, w) ∷ merged_steps s.0 s.1 steps) (λ xs. none_true σ xs ≡ (not (atom_truth σ a) && (not (atom_truth σ s.0) && none_true σ steps)))
      (λ e. none_true-merged a (w + s.1) steps ∙ joined (atom_truth σ a) (atom_truth σ s.0) (ap (atom_truth σ) (same_atom-true a s.0 e)))
      (λ _. ap (λ b. not (atom_truth σ a) && b) (none_true-merged s.0 s.1 steps))
    where
      joined : (t u : Bool) → t ≡ u → (not t && none_true σ steps) ≡ (not t && (not u && none_true σ steps))
      joined true u e = refl
      joined false false e = refl
      joined false true e = absurd (cc)

  pub in_order-merged : (a : Atom) (w : ℕ) (steps : List (Atom × ℕ)) → in_order σ (merged_steps a w steps) ≡ cond (atom_truth σ a) (in_order σ steps) (none_true σ steps)
  in_order-merged True w [] = refl
  in_order-merged False w [] = refl
  in_order-merged (Of l) w [] = refl
  in_order-merged a w (s ∷ steps) =
      by_test (same_atom a s.0) (merged_steps a (w + s.1) steps) ((a, w) ∷ merged_steps s.0 s.1 steps) (λ xs. in_order σ xs ≡ cond (atom_truth σ a) (cond (atom_truth σ s.0) (in_order σ steps) (none_true σ steps)) (not (atom_truth σ s.0) && none_true σ steps))
      (λ e. in_order-merged a (w + s.1) steps ∙ joined (atom_truth σ a) (atom_truth σ s.0) (ap (atom_truth σ) (same_atom-true a s.0 e)))
      (λ _. apart (atom_truth σ a) (in_order-merged s.0 s.1 steps) (none_true-merged s.0 s.1 steps))
    where
      joined : (t u : Bool) → t ≡ u → cond t (in_order σ steps) (none_true σ steps) ≡ cond t (cond u (in_order σ steps) (none_true σ steps)) (not u && none_true σ steps)
      joined true true e = refl
      joined false false e = refl
      joined true false e = absurd (cc)
      joined false true e = absurd (cc)

      apart : (t : Bool) {o n o' n' : Bool} → o ≡ o' → n ≡ n' → cond t o n ≡ cond t o' n'
      apart true eo en = eo
      apart false eo en = en

  pub value-raised_by : (base : ℤ) (steps : List (Atom × ℕ)) → value_of σ (raised_by base steps) ≡ base +ℤ pos (gains σ steps)
  value-raised_by base [] = refl
  value-raised_by base (s ∷ steps) =
      by_test (is_true s.0) (raised_by (base +ℤ pos s.1) steps) (record { base = base; steps = merged_steps s.0 s.1 steps }) (λ a. value_of σ a ≡ base +ℤ pos (cond (atom_truth σ s.0) s.1 0 + gains σ steps))
      (λ e. value-raised_by (base +ℤ pos s.1) steps ∙ added (atom_truth σ s.0) (ap (atom_truth σ) (is_true-True s.0 e)))
      (λ _. ap (λ n. base +ℤ pos n) (gains-merged s.0 s.1 steps))
    where
      added : (t : Bool) → t ≡ true → base +ℤ pos s.1 +ℤ pos (gains σ steps) ≡ base +ℤ pos (cond t s.1 0 + gains σ steps)
      added true e = omega (arith, ints)
      added false e = absurd (cc)

  pub in_order-raised_by : (base : ℤ) (steps : List (Atom × ℕ)) → in_order σ (raised_by base steps).steps ≡ in_order σ steps
  in_order-raised_by base [] = refl
  in_order-raised_by base (s ∷ steps) =
      by_test (is_true s.0) (raised_by (base +ℤ pos s.1) steps) (record { base = base; steps = merged_steps s.0 s.1 steps }) (λ a. in_order σ a.steps ≡ cond (atom_truth σ s.0) (in_order σ steps) (none_true σ steps))
      (λ e. in_order-raised_by (base +ℤ pos s.1) steps ∙ sym (ap (λ t. cond t (in_order σ steps) (none_true σ steps)) (ap (atom_truth σ) (is_true-True s.0 e))))
      (λ _. in_order-merged s.0 s.1 steps)

  -- a tidied integer has the value of the integer, and is ordered where it is
  pub value-tidied : (a : OrdInt) → value_of σ (tidied_int a) ≡ value_of σ a
  value-tidied a = value-raised_by a.base a.steps

  pub in_order-tidied : (a : OrdInt) → in_order σ (tidied_int a).steps ≡ in_order σ a.steps
  in_order-tidied a = in_order-raised_by a.base a.steps
