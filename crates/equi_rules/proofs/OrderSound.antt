-- The equations of the order of steps hold where the integers are ordered.
use Rattle.std.proofs.Common.{◌≡◌, ℕ, Bool, true, false, not, ◌&&◌, cond, List, [], ◌∷◌, ◌++◌, refl, ap, ◌∙◌}
use Rattle.order_ints.specs.declared.atom.Atom.{Atom}
use Rattle.order_ints.specs.declared.atom.Atom.TheVariants.{True, False}
use Rattle.order_ints.specs.declared.order_int.OrdInt.{OrdInt}
use Rattle.order_ints.specs.Truth.{Valuation, atom_truth, not_atom}
use Rattle.order_ints.specs.OrderValue.{none_true, in_order}
use Rattle.order_ints.specs.Same.{is_true, is_false, same_atom}
use Rattle.order_ints.specs.Equality.{is_true-True, is_false-False, same_atom-true}
use Rattle.order_ints.proofs.Truths.{atom_truth-not_atom}
use Rattle.core_forms.specs.Values.{all_ordered}
use Rattle.rule_base.specs.Pairs.{only_if, AreEqual}
use Rattle.rule_base.proofs.PairLaws.{AreEqual-append, AreEqual-only_if}
use Rattle.equi_rules.specs.OrderRows.{neighbour_equations, equations_above, step_equations, int_equations}

unless : (s t : Bool) → (s ≡ true → t ≡ true) → t ≡ false → s ≡ false
unless true t when is = absurd (let e : t ≡ true = when refl in cc)
unless false t when is = refl

opposite : (s t : Bool) → (s ≡ true → t ≡ true) → s ≡ not t → t ≡ true
opposite s true when is = refl
opposite s false when is = absurd (let e : false ≡ true = when is in cc)

-- of neighbours of which the lower one is true where the upper one is
neighbours-equal : (σ : Valuation) (lower upper : Atom) → (atom_truth σ upper ≡ true → atom_truth σ lower ≡ true) → AreEqual σ (neighbour_equations lower upper)
neighbours-equal σ lower upper when =
    let first = only_if (is_true upper) ((lower, True) ∷ []) in
    let second = only_if (is_false lower) ((upper, False) ∷ []) in
    let third = only_if (same_atom upper (not_atom lower)) ((lower, True) ∷ []) in
    AreEqual-append σ (first ++ second) third
    (AreEqual-append σ first second
    (AreEqual-only_if σ (is_true upper) ((lower, True) ∷ []) (λ e. (when (ap (atom_truth σ) (is_true-True upper e)), tt)))
    (AreEqual-only_if σ (is_false lower) ((upper, False) ∷ []) (λ e. (unless (atom_truth σ upper) (atom_truth σ lower) when (ap (atom_truth σ) (is_false-False lower e)), tt))))
    (AreEqual-only_if σ (same_atom upper (not_atom lower)) ((lower, True) ∷ [])
    (λ e. (opposite (atom_truth σ upper) (atom_truth σ lower) when (ap (atom_truth σ) (same_atom-true upper (not_atom lower) e) ∙ atom_truth-not_atom σ lower), tt)))

and-left : (s t : Bool) → (s && t) ≡ true → s ≡ true
and-left true t h = refl
and-left false t h = absurd (cc)

and-right : (s t : Bool) → (s && t) ≡ true → t ≡ true
and-right true t h = h
and-right false t h = absurd (cc)

not-false : (s : Bool) → not s ≡ true → s ≡ false
not-false true h = absurd (cc)
not-false false h = refl

-- the steps above one are in order with it
above-equal : (σ : Valuation) (lower : Atom) (steps : List (Atom × ℕ)) → cond (atom_truth σ lower) (in_order σ steps) (none_true σ steps) ≡ true → AreEqual σ (equations_above lower steps)
above-equal σ lower [] h = tt
above-equal σ lower (s ∷ steps) h = by_lower (atom_truth σ lower) refl h (above-equal σ s.0 steps)
  where
    by_lower : (t : Bool) → atom_truth σ lower ≡ t → cond t (cond (atom_truth σ s.0) (in_order σ steps) (none_true σ steps)) (not (atom_truth σ s.0) && none_true σ steps) ≡ true → (cond (atom_truth σ s.0) (in_order σ steps) (none_true σ steps) ≡ true → AreEqual σ (equations_above s.0 steps)) → AreEqual σ (neighbour_equations lower s.0 ++ equations_above s.0 steps)
    by_lower true is up rest =
        AreEqual-append σ (neighbour_equations lower s.0) (equations_above s.0 steps) (neighbours-equal σ lower s.0 (λ _. is)) (rest up)
    by_lower false is up rest =
        let off : atom_truth σ s.0 ≡ false = not-false (atom_truth σ s.0) (and-left (not (atom_truth σ s.0)) (none_true σ steps) up) in
        AreEqual-append σ (neighbour_equations lower s.0) (equations_above s.0 steps)
        (neighbours-equal σ lower s.0 (λ on. absurd (cc)))
        (rest (ap (λ t. cond t (in_order σ steps) (none_true σ steps)) off ∙ and-right (not (atom_truth σ s.0)) (none_true σ steps) up))

steps-equal : (σ : Valuation) (steps : List (Atom × ℕ)) → in_order σ steps ≡ true → AreEqual σ (step_equations steps)
steps-equal σ [] h = tt
steps-equal σ (s ∷ steps) h = above-equal σ s.0 steps h

pub ints-equal : (σ : Valuation) (ints : List OrdInt) → all_ordered σ ints ≡ true → AreEqual σ (int_equations ints)
ints-equal σ [] h = tt
ints-equal σ (a ∷ ints) h =
    AreEqual-append σ (step_equations a.steps) (int_equations ints)
    (steps-equal σ a.steps (and-left (in_order σ a.steps) (all_ordered σ ints) h))
    (ints-equal σ ints (and-right (in_order σ a.steps) (all_ordered σ ints) h))
