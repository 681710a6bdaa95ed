-- The equations at a value.
use Rattle.std.proofs.Common.{◌≡◌, Bool, true, false, cond, inl, inr, List, [], ◌∷◌, ◌++◌, map, ℤ, pos, ◌+ℤ◌, sym, ◌∙◌, refl, subst, arith, ⊎_elim}
use Rattle.std.specs.Prelude.{int_le}
use Rattle.std.proofs.lemmas.Bool.{true≢false, false_from_ne_true}
use Rattle.std.proofs.lemmas.Int.{ints}
use Rattle.order_ints.specs.declared.atom.Atom.{Atom}
use Rattle.order_ints.specs.declared.atom.Atom.TheVariants.{True, False}
use Rattle.order_ints.specs.declared.order_int.OrdInt.{OrdInt}
use Rattle.order_ints.specs.OrderLevels.{levels_of, values_of, first_reaching, at_of, is_among}
use Rattle.rule_base.specs.Pairs.{only_if}
use Rattle.alldiff_rules.specs.RowLists.{value_equations}
use Rattle.alldiff_rules.specs.Instances.{IsOneOf}
use Rattle.alldiff_rules.proofs.Pigeonhole.{among-first, among-later}
use Rattle.alldiff_rules.proofs.FindsLaws.{one-left, one-right, one-cases}

-- where an integer does not have a value, it is above it where it has reached it
not-between : (v w : ℤ) → (w ≡ v → ⊥) → int_le v w ≡ int_le (v +ℤ pos 1) w
not-between v w differ = grind (arith, ints)

same-reaching : (v : ℤ) (ls : List (ℤ × Atom)) → is_among v (map (λ (l : ℤ × Atom). l.0) ls) ≡ false → first_reaching v ls ≡ first_reaching (v +ℤ pos 1) ls
same-reaching v [] none = refl
same-reaching v (l ∷ ls) none =
    let first : l.0 ≡ v → ⊥ = λ e. true≢false (sym (subst (λ (u : ℤ). is_among v (u ∷ map (λ (m : ℤ × Atom). m.0) ls) ≡ true) (sym e) (among-first v (map (λ (m : ℤ × Atom). m.0) ls))) ∙ none) in
    let others : is_among v (map (λ (m : ℤ × Atom). m.0) ls) ≡ false = false_from_ne_true (is_among v (map (λ (m : ℤ × Atom). m.0) ls)) (λ e. true≢false (sym (among-later v l.0 (map (λ (m : ℤ × Atom). m.0) ls) e) ∙ none)) in
    λ i. cond (not-between v l.0 first i) l.1 (same-reaching v ls others i)

pub at_of-skipped : (a : OrdInt) (v : ℤ) → is_among v (values_of a) ≡ false → at_of a v ≡ at_of a (v +ℤ pos 1)
at_of-skipped a v none = same-reaching v (levels_of a) none

-- an equation under a test
pub one-if : (a b x y : Atom) (t : Bool) → t ≡ true → a ≡ x → b ≡ y → IsOneOf a b (only_if t ((x, y) ∷ []))
one-if a b x y t e f g = subst (λ (s : Bool). IsOneOf a b (only_if s ((x, y) ∷ []))) (sym e) (inl (f, g))

pub if-one : (a b x y : Atom) (t : Bool) → IsOneOf a b (only_if t ((x, y) ∷ [])) → (t ≡ true) × (a ≡ x) × (b ≡ y)
if-one a b x y true (inl h) = (refl, h.0, h.1)
if-one a b x y true (inr h) = absurd h
if-one a b x y false h = absurd h

-- at a value one of three things is so
pub data AtValue (needed alone : Bool) (here above a b : Atom) : Type 0 where
  by_need : needed ≡ true → a ≡ here → b ≡ above → AtValue needed alone here above a b
  by_reaching : alone ≡ true → a ≡ here → b ≡ True → AtValue needed alone here above a b
  by_passing : alone ≡ true → a ≡ above → b ≡ False → AtValue needed alone here above a b

pub value-cases : (needed alone : Bool) (here above a b : Atom) → IsOneOf a b (value_equations needed alone here above) → AtValue needed alone here above a b
value-cases needed alone here above a b h = ⊎_elim
    (λ (f : IsOneOf a b (only_if needed ((here, above) ∷ []) ++ only_if alone ((here, True) ∷ []))). ⊎_elim
    (λ (g : IsOneOf a b (only_if needed ((here, above) ∷ []))). let e = if-one a b here above needed g in by_need e.0 e.1 e.2)
    (λ (g : IsOneOf a b (only_if alone ((here, True) ∷ []))). let e = if-one a b here True alone g in by_reaching e.0 e.1 e.2)
    (one-cases a b (only_if needed ((here, above) ∷ [])) (only_if alone ((here, True) ∷ [])) f))
    (λ (f : IsOneOf a b (only_if alone ((above, False) ∷ []))). let e = if-one a b above False alone f in by_passing e.0 e.1 e.2)
    (one-cases a b (only_if needed ((here, above) ∷ []) ++ only_if alone ((here, True) ∷ [])) (only_if alone ((above, False) ∷ [])) h)

pub cases-value : (needed alone : Bool) (here above a b : Atom) → AtValue needed alone here above a b → IsOneOf a b (value_equations needed alone here above)
cases-value needed alone here above a b (by_need e f g) =
    one-left a b (only_if needed ((here, above) ∷ []) ++ only_if alone ((here, True) ∷ [])) (only_if alone ((above, False) ∷ []))
    (one-left a b (only_if needed ((here, above) ∷ [])) (only_if alone ((here, True) ∷ [])) (one-if a b here above needed e f g))
cases-value needed alone here above a b (by_reaching e f g) =
    one-left a b (only_if needed ((here, above) ∷ []) ++ only_if alone ((here, True) ∷ [])) (only_if alone ((above, False) ∷ []))
    (one-right a b (only_if needed ((here, above) ∷ [])) (only_if alone ((here, True) ∷ [])) (one-if a b here True alone e f g))
cases-value needed alone here above a b (by_passing e f g) =
    one-right a b (only_if needed ((here, above) ∷ []) ++ only_if alone ((here, True) ∷ [])) (only_if alone ((above, False) ∷ [])) (one-if a b above False alone e f g)
