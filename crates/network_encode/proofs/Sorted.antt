-- Lists of atoms that are in order under a valuation, the true ones first: how many are true, and what follows for steps of
-- them, for their odd and even places, and for units of steps.
use Rattle.std.proofs.Common.{◌≡◌, ℕ, zero, suc, ◌+◌, ◌*◌, ◌/◌, Bool, true, false, not, ◌&&◌, cond, List, [], ◌∷◌, ◌++◌, length, refl, sym, ap, subst, ◌∙◌, arith}
use Rattle.order_ints.specs.Label.{own_labels, variable}
use Rattle.order_ints.specs.declared.atom.Atom.{Atom}
use Rattle.order_ints.specs.Truth.{Valuation, Agree, atom_truth}
use Rattle.order_ints.specs.Place.{AtomsBelow}
use Rattle.order_ints.specs.OrderValue.{gains, none_true, in_order}
use Rattle.order_ints.specs.OrderRange.{weights}
use Rattle.order_ints.specs.OrderMade.{unit_steps}
use Rattle.order_ints.proofs.TruthLaws.{atom_agrees}
use Rattle.core_cost.specs.Network.{half_up, half_down}
use Rattle.core_forms.specs.Truths.{true_count}
use Rattle.network_encode.specs.MergeParts.{copies, units_of, odd_places, even_places, weighted}
use Rattle.network_encode.proofs.Halves.{and-left, and-right}

-- the first k atoms are true, and the others are false
abbrev pub Sorted : Valuation → ℕ → List Atom → Type 0
Sorted σ k [] = k ≡ 0
Sorted σ zero (l ∷ ls) = (atom_truth σ l ≡ false) × Sorted σ zero ls
Sorted σ (suc k) (l ∷ ls) = (atom_truth σ l ≡ true) × Sorted σ k ls

-- so many are true
pub sorted-count : (σ : Valuation) (k : ℕ) (ls : List Atom) → Sorted σ k ls → true_count σ ls ≡ k
sorted-count σ k [] h = sym h
sorted-count σ zero (l ∷ ls) h =
    ap (λ t. cond t (suc (true_count σ ls)) (true_count σ ls)) h.0 ∙ sorted-count σ zero ls h.1
sorted-count σ (suc k) (l ∷ ls) h =
    ap (λ t. cond t (suc (true_count σ ls)) (true_count σ ls)) h.0 ∙ ap suc (sorted-count σ k ls h.1)

pub sorted-same : (σ : Valuation) (j k : ℕ) (ls : List Atom) → j ≡ k → Sorted σ j ls → Sorted σ k ls
sorted-same σ j k ls e h = subst (λ (n : ℕ). Sorted σ n ls) e h

-- order depends on the atoms' variables
pub sorted-agree : (n : ℕ) (σ τ : Valuation) (k : ℕ) (ls : List Atom) → Agree n σ τ → AtomsBelow n ls → Sorted σ k ls → Sorted τ k ls
sorted-agree n σ τ k [] same below h = h
sorted-agree n σ τ zero (l ∷ ls) same below h =
    (sym (atom_agrees n σ τ same l below.0) ∙ h.0, sorted-agree n σ τ zero ls same below.1 h.1)
sorted-agree n σ τ (suc k) (l ∷ ls) same below h =
    (sym (atom_agrees n σ τ same l below.0) ∙ h.0, sorted-agree n σ τ k ls same below.1 h.1)

-- ---- steps of the atoms

untrue : (t : Bool) → not t ≡ true → t ≡ false
untrue true h = absurd (cc)
untrue false h = refl

pub none-sorted : (σ : Valuation) (w : ℕ) (ls : List Atom) → none_true σ (weighted w ls) ≡ true → Sorted σ 0 ls
none-sorted σ w [] h = refl
none-sorted σ w (l ∷ ls) h = (
  untrue (atom_truth σ l) (and-left (not (atom_truth σ l)) (none_true σ (weighted w ls)) h),
  none-sorted σ w ls (and-right (not (atom_truth σ l)) (none_true σ (weighted w ls)) h),
)

ordered-first : (σ : Valuation) (w : ℕ) (l : Atom) (ls : List Atom) (t : Bool) → atom_truth σ l ≡ t → (in_order σ (weighted w ls) ≡ true → Sorted σ (true_count σ ls) ls) → cond t (in_order σ (weighted w ls)) (none_true σ (weighted w ls)) ≡ true → Sorted σ (cond t (suc (true_count σ ls)) (true_count σ ls)) (l ∷ ls)
ordered-first σ w l ls true e rest h = (e, rest h)
ordered-first σ w l ls false e rest h =
    let none = none-sorted σ w ls h in
    sorted-same σ 0 (true_count σ ls) (l ∷ ls) (sym (sorted-count σ 0 ls none)) (e, none)

-- steps of any one weight are in order exactly where the atoms are
pub ordered-sorted : (σ : Valuation) (w : ℕ) (ls : List Atom) → in_order σ (weighted w ls) ≡ true → Sorted σ (true_count σ ls) ls
ordered-sorted σ w [] h = refl
ordered-sorted σ w (l ∷ ls) h = ordered-first σ w l ls (atom_truth σ l) refl (ordered-sorted σ w ls) h

pub sorted-none : (σ : Valuation) (w : ℕ) (ls : List Atom) → Sorted σ 0 ls → none_true σ (weighted w ls) ≡ true
sorted-none σ w [] h = refl
sorted-none σ w (l ∷ ls) h = ap (λ t. not t && none_true σ (weighted w ls)) h.0 ∙ sorted-none σ w ls h.1

pub sorted-ordered : (σ : Valuation) (w k : ℕ) (ls : List Atom) → Sorted σ k ls → in_order σ (weighted w ls) ≡ true
sorted-ordered σ w k [] h = refl
sorted-ordered σ w zero (l ∷ ls) h =
    ap (λ t. cond t (in_order σ (weighted w ls)) (none_true σ (weighted w ls))) h.0 ∙ sorted-none σ w ls h.1
sorted-ordered σ w (suc k) (l ∷ ls) h =
    ap (λ t. cond t (in_order σ (weighted w ls)) (none_true σ (weighted w ls))) h.0 ∙ sorted-ordered σ w k ls h.1

-- what steps of one weight gain, and weigh together
one-gain : (w n : ℕ) (t : Bool) → cond t w 0 + w * n ≡ w * cond t (suc n) n
one-gain w n true = omega arith
one-gain w n false = omega arith

pub gains-weighted : (σ : Valuation) (w : ℕ) (ls : List Atom) → gains σ (weighted w ls) ≡ w * true_count σ ls
gains-weighted σ w [] = omega arith
gains-weighted σ w (l ∷ ls) =
    ap (λ n. cond (atom_truth σ l) w 0 + n) (gains-weighted σ w ls) ∙ one-gain w (true_count σ ls) (atom_truth σ l)

pub weights-weighted : (w : ℕ) (ls : List Atom) → weights (weighted w ls) ≡ w * length ls
weights-weighted w [] = omega arith
weights-weighted w (l ∷ ls) = ap (λ n. w + n) (weights-weighted w ls) ∙ one-gain w (length ls) true

-- the steps of fresh variables
pub weighted-vars : (first count : ℕ) → unit_steps first count ≡ weighted 1 (own_labels first count)
weighted-vars first zero = refl
weighted-vars first (suc count) = ap (λ steps. (variable first, 1) ∷ steps) (weighted-vars (first + 1) count)

-- ---- odd and even places

pub sorted-odd : (σ : Valuation) (k : ℕ) (ls : List Atom) → Sorted σ k ls → Sorted σ (half_up k) (odd_places ls)
sorted-odd σ k [] h = omega (arith, h)
sorted-odd σ zero (l ∷ []) h = (h.0, refl)
sorted-odd σ (suc zero) (l ∷ []) h = (h.0, refl)
sorted-odd σ (suc (suc k)) (l ∷ []) h = absurd (omega (arith, h.1))
sorted-odd σ zero (l ∷ m ∷ ls) h = (h.0, sorted-odd σ zero ls h.1.1)
sorted-odd σ (suc zero) (l ∷ m ∷ ls) h = (h.0, sorted-odd σ zero ls h.1.1)
sorted-odd σ (suc (suc k)) (l ∷ m ∷ ls) h =
    sorted-same σ (suc (half_up k)) (half_up (suc (suc k))) (l ∷ odd_places ls) (omega arith) (h.0, sorted-odd σ k ls h.1.1)

pub sorted-even : (σ : Valuation) (k : ℕ) (ls : List Atom) → Sorted σ k ls → Sorted σ (half_down k) (even_places ls)
sorted-even σ k [] h = omega (arith, h)
sorted-even σ zero (l ∷ []) h = refl
sorted-even σ (suc zero) (l ∷ []) h = refl
sorted-even σ (suc (suc k)) (l ∷ []) h = absurd (omega (arith, h.1))
sorted-even σ zero (l ∷ m ∷ ls) h = (h.1.0, sorted-even σ zero ls h.1.1)
sorted-even σ (suc zero) (l ∷ m ∷ ls) h = (h.1.0, sorted-even σ zero ls h.1.1)
sorted-even σ (suc (suc k)) (l ∷ m ∷ ls) h =
    sorted-same σ (suc (half_down k)) (half_down (suc (suc k))) (m ∷ even_places ls) (omega arith) (h.1.0, sorted-even σ k ls h.1.1)

-- ---- units of steps

-- copies of a true atom in front of a list in order
copies-true : (σ : Valuation) (n k : ℕ) (l : Atom) (ls : List Atom) → atom_truth σ l ≡ true → Sorted σ k ls → (m : ℕ) × Sorted σ m (copies n l ++ ls)
copies-true σ zero k l ls e h = (k, h)
copies-true σ (suc n) k l ls e h = let rest = copies-true σ n k l ls e h in (suc rest.0, (e, rest.1))

copies-false : (σ : Valuation) (n : ℕ) (l : Atom) (ls : List Atom) → atom_truth σ l ≡ false → Sorted σ 0 ls → Sorted σ 0 (copies n l ++ ls)
copies-false σ zero l ls e h = h
copies-false σ (suc n) l ls e h = (e, copies-false σ n l ls e h)

units-none : (σ : Valuation) (g : ℕ) (steps : List (Atom × ℕ)) → none_true σ steps ≡ true → Sorted σ 0 (units_of g steps)
units-none σ g [] h = refl
units-none σ g (s ∷ steps) h =
    copies-false σ (s.1 / g) s.0 (units_of g steps) (untrue (atom_truth σ s.0) (and-left (not (atom_truth σ s.0)) (none_true σ steps) h))
    (units-none σ g steps (and-right (not (atom_truth σ s.0)) (none_true σ steps) h))

units-first : (σ : Valuation) (g : ℕ) (s : Atom × ℕ) (steps : List (Atom × ℕ)) (t : Bool) → atom_truth σ s.0 ≡ t → (in_order σ steps ≡ true → (k : ℕ) × Sorted σ k (units_of g steps)) → cond t (in_order σ steps) (none_true σ steps) ≡ true → (k : ℕ) × Sorted σ k (units_of g (s ∷ steps))
units-first σ g s steps true e rest h =
    let r = rest h in copies-true σ (s.1 / g) r.0 s.0 (units_of g steps) e r.1
units-first σ g s steps false e rest h = (0, copies-false σ (s.1 / g) s.0 (units_of g steps) e (units-none σ g steps h))

units-in_order : (σ : Valuation) (g : ℕ) (steps : List (Atom × ℕ)) → in_order σ steps ≡ true → (k : ℕ) × Sorted σ k (units_of g steps)
units-in_order σ g [] h = (0, refl)
units-in_order σ g (s ∷ steps) h = units-first σ g s steps (atom_truth σ s.0) refl (units-in_order σ g steps) h

-- the units of steps in order are in order
pub units-sorted : (σ : Valuation) (g : ℕ) (steps : List (Atom × ℕ)) → in_order σ steps ≡ true → Sorted σ (true_count σ (units_of g steps)) (units_of g steps)
units-sorted σ g steps h =
    let r = units-in_order σ g steps h in
    sorted-same σ r.0 (true_count σ (units_of g steps)) (units_of g steps) (sym (sorted-count σ r.0 (units_of g steps) r.1)) r.1
