-- What the order of the last of some integers states, and that it is all that is stated where the others are plain.
use Rattle.std.proofs.Common.{◌≡◌, true, List, [], ◌∷◌, ◌++◌, ℤ, refl, sym, ap, subst, ◌∙◌}
use Rattle.std.specs.Prelude.{Option, None, Some}
use Rattle.std.specs.Option.{option_or, is_some}
use Rattle.order_ints.specs.declared.atom.Atom.{Atom}
use Rattle.order_ints.specs.declared.order_int.OrdInt.{OrdInt}
use Rattle.core_forms.specs.declared.edges.Known.TheVariants.{ButLast}
use Rattle.core_forms.specs.declared.equation.Rule.TheVariants.{Order}
use Rattle.core_forms.specs.declared.form.Core.{Core}
use Rattle.core_forms.specs.declared.form.Core.TheVariants.{Sum}
use Rattle.core_forms.specs.Edges.{IsKnown}
use Rattle.core_forms.specs.Plain.{ArePlainInts}
use Rattle.core_forms.specs.Totals.{before_last}
use Rattle.rule_base.specs.declared.sought.SoughtEquation.{SoughtEquation}
use Rattle.rule_base.specs.declared.sought.SoughtEquation.TheVariants.{Apart}
use Rattle.rule_base.specs.Pairs.{first_sought}
use Rattle.rule_base.specs.Found.{stated_by}
use Rattle.rule_base.proofs.PairLaws.{first_sought-append}
use Rattle.equi_rules.specs.OrderRows.{step_equations, int_equations, last_equations}
use Rattle.equi_rules.specs.Instances.{found_at}
use Rattle.equi_rules.proofs.PlainLaws.{plain-ints, or-none}

last-behind : (xs : List OrdInt) (a : OrdInt) → last_equations (xs ++ a ∷ []) ≡ step_equations a.steps
last-behind [] a = refl
last-behind (x ∷ []) a = refl
last-behind (x ∷ y ∷ xs) a = last-behind (y ∷ xs) a

-- a list that ends with an integer
pub last-is : (xs rest : List OrdInt) (a : OrdInt) → xs ≡ rest ++ a ∷ [] → last_equations xs ≡ step_equations a.steps
last-is xs rest a e = ap last_equations e ∙ last-behind rest a

none-behind : (pairs : List (Atom × Atom)) → pairs ++ [] ≡ pairs
none-behind [] = refl
none-behind (p ∷ pairs) = ap (λ (ps : List (Atom × Atom)). p ∷ ps) (none-behind pairs)

three : (ps qs rs : List (Atom × Atom)) → ps ++ (qs ++ rs) ≡ (ps ++ qs) ++ rs
three [] qs rs = refl
three (p ∷ ps) qs rs = ap (λ (xs : List (Atom × Atom)). p ∷ xs) (three ps qs rs)

-- the equations of all are those before the last one, and those of the last one
pub ends-last : (xs : List OrdInt) → int_equations xs ≡ int_equations (before_last xs) ++ last_equations xs
ends-last [] = refl
ends-last (a ∷ []) = none-behind (step_equations a.steps)
ends-last (a ∷ b ∷ xs) =
    ap (λ (ps : List (Atom × Atom)). step_equations a.steps ++ ps) (ends-last (b ∷ xs))
    ∙ three (step_equations a.steps) (int_equations (before_last (b ∷ xs))) (last_equations (b ∷ xs))

-- where the others are plain, they are those of the last one
pub last-alone : (xs : List OrdInt) → ArePlainInts (before_last xs) → int_equations xs ≡ last_equations xs
last-alone xs plain =
    ends-last xs ∙ ap (λ (ps : List (Atom × Atom)). ps ++ last_equations xs) (plain-ints (before_last xs) plain)

some-behind : {X : Type 0} (o p : Option X) → is_some p ≡ true → is_some (option_or o p) ≡ true
some-behind None p h = h
some-behind (Some x) p h = refl

-- what the last one states is stated
pub last-stated : (sought : SoughtEquation) (xs : List OrdInt) (o : Option (Atom × Atom)) → o ≡ first_sought sought (last_equations xs) → is_some o ≡ true
    → is_some (first_sought sought (int_equations xs)) ≡ true
last-stated sought xs o found some =
    ap (λ (ps : List (Atom × Atom)). is_some (first_sought sought ps)) (ends-last xs)
    ∙ ap is_some (first_sought-append sought (int_equations (before_last xs)) (last_equations xs))
    ∙ some-behind (first_sought sought (int_equations (before_last xs))) (first_sought sought (last_equations xs)) (ap is_some (sym found) ∙ some)

-- a sum whose other members are plain
pub last-found : (core : Core) (xs : List OrdInt) (k : ℤ) (o : Option (Atom × Atom)) → core ≡ Sum xs k → IsKnown ButLast core
    → o ≡ first_sought Apart (last_equations xs) → stated_by Order o ≡ found_at core
last-found core xs k o is known found =
    let plain : ArePlainInts (before_last xs) = subst (IsKnown ButLast) is known in
    ap (stated_by Order) (found ∙ ap (first_sought Apart) (sym (last-alone xs plain)))
    ∙ or-none (stated_by Order (first_sought Apart (int_equations xs)))
    ∙ ap found_at (sym is)
