-- A plain core's order states no equation, and of the forms only a parity states one.
use Rattle.std.proofs.Common.{◌≡◌, ℕ, Bool, true, false, List, [], ◌∷◌, ◌++◌, refl, sym, ap, ◌∙◌}
use Rattle.std.specs.Prelude.{Option, None, Some, if◌then◌else◌}
use Rattle.std.specs.Option.{option_or}
use Rattle.order_ints.specs.declared.atom.Atom.{Atom}
use Rattle.order_ints.specs.declared.atom.Atom.TheVariants.{True, False, Of}
use Rattle.order_ints.specs.declared.order_int.OrdInt.{OrdInt}
use Rattle.order_ints.specs.Truth.{not_atom}
use Rattle.order_ints.specs.Same.{is_true, same_atom}
use Rattle.core_forms.specs.declared.equation.Rule.TheVariants.{Order, Form}
use Rattle.core_forms.specs.declared.equation.Equation.{Equation}
use Rattle.core_forms.specs.declared.form.Core.{Core}
use Rattle.core_forms.specs.declared.form.Core.TheVariants.{Ladder, Clause, Parity, Conj, Comp, LeqR, EqR, Sum3, Count, Sum, Max, AllDiff, Amo, Prod, DivMod, Lex}
use Rattle.core_forms.specs.Plain.{IsLiteral, AreLiterals, ArePlainBehind, ArePlainInts, IsPlain}
use Rattle.core_forms.specs.Trimmed.{has_true}
use Rattle.rule_base.specs.declared.sought.SoughtEquation.TheVariants.{Apart}
use Rattle.rule_base.specs.Pairs.{first_sought, only_if}
use Rattle.rule_base.specs.Found.{stated_by}
use Rattle.rule_base.specs.Stated.{all_equal}
use Rattle.equi_rules.specs.OrderRows.{neighbour_equations, equations_above, step_equations, int_equations, order_equations}
use Rattle.equi_rules.specs.AtomRows.{beside_true, amo_equations}
use Rattle.equi_rules.specs.Instances.{form_equations, found_at}

never_true : (a : Atom) → IsLiteral a → is_true a ≡ false
never_true True is = absurd is
never_true False is = absurd is
never_true (Of l) is = refl

-- two literals of which neither is the negation of the other
neighbours-apart : (lower upper : Atom) → IsLiteral lower → IsLiteral upper → same_atom upper (not_atom lower) ≡ false → neighbour_equations lower upper ≡ []
neighbours-apart True upper is up apart = absurd is
neighbours-apart False upper is up apart = absurd is
neighbours-apart (Of l) True is up apart = absurd up
neighbours-apart (Of l) False is up apart = absurd up
neighbours-apart (Of l) (Of m) is up apart = ap (λ (t : Bool). only_if t ((Of l, True) ∷ [])) apart

plain-above : (lower : Atom) (steps : List (Atom × ℕ)) → IsLiteral lower → ArePlainBehind lower steps → equations_above lower steps ≡ []
plain-above lower [] is plain = refl
plain-above lower (s ∷ steps) is plain =
    ap (λ (pairs : List (Atom × Atom)). pairs ++ equations_above s.0 steps) (neighbours-apart lower s.0 is plain.2 plain.1) ∙ plain-above s.0 steps plain.2 plain.3

plain-steps : (steps : List (Atom × ℕ)) → ArePlainBehind False steps → step_equations steps ≡ []
plain-steps [] plain = refl
plain-steps (s ∷ steps) plain = plain-above s.0 steps plain.2 plain.3

pub plain-ints : (ints : List OrdInt) → ArePlainInts ints → int_equations ints ≡ []
plain-ints [] plain = refl
plain-ints (a ∷ ints) plain =
    ap (λ (pairs : List (Atom × Atom)). pairs ++ int_equations ints) (plain-steps a.steps plain.0) ∙ plain-ints ints plain.1

both-plain : (front back : List OrdInt) → ArePlainInts front → ArePlainInts back → ArePlainInts (front ++ back)
both-plain [] back f b = b
both-plain (a ∷ front) back f b = (f.0, both-plain front back f.1 b)

-- the order of a plain core states nothing
pub plain-order : (core : Core) → IsPlain core → order_equations core ≡ []
plain-order (Ladder a) plain = absurd plain
plain-order (Clause ls) plain = absurd plain
plain-order (Parity ls odd) plain = refl
plain-order (Conj r ls) plain = absurd plain
plain-order (Comp a b hi lo) plain = absurd plain
plain-order (LeqR r a b) plain = absurd plain
plain-order (EqR r a b) plain = absurd plain
plain-order (Sum3 a b c) plain = absurd plain
plain-order (Count ls c) plain = plain-ints (c ∷ []) (plain.1, tt)
plain-order (Sum ints k) plain = plain-ints ints plain
plain-order (Max ints c) plain = absurd plain
plain-order (AllDiff ints cs) plain = plain-ints ints plain
plain-order (Amo ls) plain = refl
plain-order (Prod a b c) plain = absurd plain
plain-order (DivMod a b q r) plain = absurd plain
plain-order (Lex r strict front back) plain = plain-ints (front ++ back) (both-plain front back plain.0 plain.1)

none-true : (ls : List Atom) → AreLiterals ls → has_true ls ≡ false
none-true [] is = refl
none-true (l ∷ ls) is = ap (λ (t : Bool). if t then true else has_true ls) (never_true l is.0) ∙ none-true ls is.1

none-beside : (ls : List Atom) → AreLiterals ls → beside_true ls ≡ []
none-beside [] is = refl
none-beside (l ∷ ls) is =
    ap (λ (t : Bool). if t then ls else (if has_true ls then l ∷ beside_true ls else [])) (never_true l is.0)
    ∙ ap (λ (t : Bool). if t then l ∷ beside_true ls else []) (none-true ls is.1)

-- nor does at-most-one of literals
pub plain-amo : (ls : List Atom) → AreLiterals ls → amo_equations ls ≡ []
plain-amo ls is = ap (λ (rest : List Atom). all_equal rest False) (none-beside ls is)

-- nor does any form but a parity
pub plain-form : (core : Core) → IsPlain core → ((ls : List Atom) (odd : Bool) → core ≡ Parity ls odd → ⊥) → form_equations core ≡ []
plain-form (Ladder a) plain other = absurd plain
plain-form (Clause ls) plain other = absurd plain
plain-form (Parity ls odd) plain other = absurd (other ls odd refl)
plain-form (Conj r ls) plain other = absurd plain
plain-form (Comp a b hi lo) plain other = absurd plain
plain-form (LeqR r a b) plain other = absurd plain
plain-form (EqR r a b) plain other = absurd plain
plain-form (Sum3 a b c) plain other = absurd plain
plain-form (Count ls c) plain other = refl
plain-form (Sum ints k) plain other = refl
plain-form (Max ints c) plain other = absurd plain
plain-form (AllDiff ints cs) plain other = refl
plain-form (Amo ls) plain other = plain-amo ls plain
plain-form (Prod a b c) plain other = absurd plain
plain-form (DivMod a b q r) plain other = absurd plain
plain-form (Lex r strict front back) plain other = refl

pub or-none : {X : Type 0} (o : Option X) → o ≡ option_or o None
or-none None = refl
or-none (Some x) = refl

-- so what is found of a plain core is what its form states
pub plain-found : (core : Core) (o : Option (Atom × Atom)) → IsPlain core → o ≡ first_sought Apart (form_equations core) → stated_by Form o ≡ found_at core
plain-found core o plain is =
    ap (stated_by Form) is
    ∙ or-none (stated_by Form (first_sought Apart (form_equations core)))
    ∙ ap {B = Option Equation} (λ (pairs : List (Atom × Atom)). option_or (stated_by Order (first_sought Apart pairs)) (option_or (stated_by Form (first_sought Apart (form_equations core))) None))
    (sym (plain-order core plain))
