-- A core that is neither an all-different nor an order of words is stated nothing by those rules.
use Rattle.std.proofs.Common.{◌≡◌, ◌≢◌, Bool, true, false, ◌&&◌, ◌||◌, not, refl, sym, ap, ◌∙◌, List, [], Option, None, Some}
use Rattle.std.specs.Prelude.{IfSome, IfNone}
use Rattle.std.proofs.lemmas.Bool.{false≢true}
use Rattle.order_ints.specs.declared.atom.Atom.{Atom}
use Rattle.order_ints.specs.declared.order_int.OrdInt.{OrdInt}
use Rattle.core_forms.specs.declared.equation.Rule.{Rule}
use Rattle.core_forms.specs.declared.equation.Rule.TheVariants.{Order, Form, Table}
use Rattle.core_forms.specs.declared.equation.Equation.{Equation}
use Rattle.core_forms.specs.declared.form.Core.{Core}
use Rattle.core_forms.specs.declared.form.Core.TheVariants.{Ladder, Clause, Parity, Conj, Comp, LeqR, EqR, Sum3, Count, Sum, Max, AllDiff, Amo, Prod, DivMod, Lex}
use Rattle.rule_base.specs.Pairs.{is_listed}
use Rattle.order_ints.specs.Same.{same_atom}
use Rattle.arith_rules.specs.Instances.{is_instance_of as is_arith_instance}
use Rattle.alldiff_rules.specs.Instances.{equations_of, form_equations, is_instance_of as is_alldiff_instance}
use Rattle.core_rules.specs.Instances.{is_form_instance}

abbrev pub NotDifferent : Core → Type 0
NotDifferent core = (rule : Rule) → equations_of core rule ≡ []

by_rule : (core : Core) → form_equations core ≡ [] → NotDifferent core
by_rule core h Order = refl
by_rule core h Form = h
by_rule core h Table = refl

pub not-different : (core : Core) → ((ints : List OrdInt) (cs : List Atom) → core ≢ AllDiff ints cs)
    → ((r : Atom) (strict : Bool) (front back : List OrdInt) → core ≢ Lex r strict front back) → NotDifferent core
not-different (Ladder c) a l = by_rule (Ladder c) refl
not-different (Clause ls) a l = by_rule (Clause ls) refl
not-different (Parity ls odd) a l = by_rule (Parity ls odd) refl
not-different (Conj r ls) a l = by_rule (Conj r ls) refl
not-different (Comp x y hi lo) a l = by_rule (Comp x y hi lo) refl
not-different (LeqR r x y) a l = by_rule (LeqR r x y) refl
not-different (EqR r x y) a l = by_rule (EqR r x y) refl
not-different (Sum3 x y z) a l = by_rule (Sum3 x y z) refl
not-different (Count ls c) a l = by_rule (Count ls c) refl
not-different (Sum ints k) a l = by_rule (Sum ints k) refl
not-different (Max ints c) a l = by_rule (Max ints c) refl
not-different (AllDiff ints cs) a l = absurd (a ints cs refl)
not-different (Amo ls) a l = by_rule (Amo ls) refl
not-different (Prod x y z) a l = by_rule (Prod x y z) refl
not-different (DivMod x y q r) a l = by_rule (DivMod x y q r) refl
not-different (Lex r strict front back) a l = absurd (l r strict front back refl)

none-different : (core : Core) → NotDifferent core → (e : Equation) → is_alldiff_instance core e ≡ false
none-different core h e = right (not (same_atom e.a e.b)) (is_listed e.a e.b (equations_of core e.rule)) (ap (is_listed e.a e.b) (h e.rule))
  where
    right : (a b : Bool) → b ≡ false → (a && b) ≡ false
    right true b h = h
    right false b h = refl

left : (a b : Bool) → b ≡ false → (a || b) ≡ true → a ≡ true
left true b f h = refl
left false b f h = absurd (false≢true (sym f ∙ h))

or_more : (a b : Bool) → a ≡ true → (a || b) ≡ true
or_more true b h = refl
or_more false b h = absurd (false≢true h)

-- what is told by the arithmetic rules alone is what the form tells
pub form-some : (core : Core) (found : Option Equation) → IfSome found (λ e. is_arith_instance core e ≡ true) → IfSome found (λ e. is_form_instance core e ≡ true)
form-some core (Some e) h = or_more (is_arith_instance core e) (is_alldiff_instance core e) h
form-some core None h = tt

pub form-none : (core : Core) → NotDifferent core → (found : Option Equation) → IfNone found ((e : Equation) → is_arith_instance core e ≡ true → ⊥) → IfNone found ((e : Equation) → is_form_instance core e ≡ true → ⊥)
form-none core n (Some e) h = tt
form-none core n None h = λ e is. h e (left (is_arith_instance core e) (is_alldiff_instance core e) (none-different core n e) is)
