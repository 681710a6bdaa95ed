-- The equations that the rule Form states of all-different and of lexicographic order, and their instances.
use Rattle.std.specs.Prelude.{◌≡◌, ◌≢◌, ◌⊎◌, Bool, List, [], ◌∷◌}
use Rattle.order_ints.specs.declared.atom.Atom.{Atom}
use Rattle.core_forms.specs.declared.equation.Rule.{Rule}
use Rattle.core_forms.specs.declared.equation.Rule.TheVariants.{Order, Form, Table}
use Rattle.core_forms.specs.declared.equation.Equation.{Equation}
use Rattle.core_forms.specs.declared.form.Core.{Core}
use Rattle.core_forms.specs.declared.form.Core.TheVariants.{Ladder, Clause, Parity, Conj, Comp, LeqR, EqR, Sum3, Count}
use Rattle.core_forms.specs.declared.form.Core.TheVariants.{Sum, Max, AllDiff, Amo, Prod, DivMod, Lex}
use Rattle.rule_base.specs.Found.{is_instance_by}
use Rattle.alldiff_rules.specs.Rows.{IsRow, lex_equations}
use Rattle.alldiff_rules.specs.RowLists.{row_equations}

-- the pair of two atoms is one of a list
abbrev pub IsOneOf : Atom → Atom → List (Atom × Atom) → Type 0
IsOneOf a b [] = ⊥
IsOneOf a b (p ∷ pairs) = ((a ≡ p.0) × (b ≡ p.1)) ⊎ IsOneOf a b pairs

-- the equation of two atoms is stated of a core; the other forms have rules elsewhere or none
abbrev pub IsStated : Core → Atom → Atom → Type 0
IsStated (Ladder c) a b = ⊥
IsStated (Clause ls) a b = ⊥
IsStated (Parity ls odd) a b = ⊥
IsStated (Conj r ls) a b = ⊥
IsStated (Comp x y hi lo) a b = ⊥
IsStated (LeqR r x y) a b = ⊥
IsStated (EqR r x y) a b = ⊥
IsStated (Sum3 x y z) a b = ⊥
IsStated (Count ls c) a b = ⊥
IsStated (Sum ints k) a b = ⊥
IsStated (Max ints c) a b = ⊥
IsStated (AllDiff ints cs) a b = IsRow ints cs a b
IsStated (Amo ls) a b = ⊥
IsStated (Prod x y z) a b = ⊥
IsStated (DivMod x y q r) a b = ⊥
IsStated (Lex r strict front back) a b = IsOneOf a b (lex_equations r strict front back)

-- an equation of the rule Form is an instance where its two atoms are different, and the core states it in either order
pub record IsInstance (core : Core) (e : Equation) : Type 0 where
  pub form : e.rule ≡ Form
  pub differ : e.a ≢ e.b
  pub stated : IsStated core e.a e.b ⊎ IsStated core e.b e.a

-- beside it, the same as a test: over the list of the equations

abbrev pub form_equations : Core → List (Atom × Atom)
form_equations (Ladder c) = []
form_equations (Clause ls) = []
form_equations (Parity ls odd) = []
form_equations (Conj r ls) = []
form_equations (Comp x y hi lo) = []
form_equations (LeqR r x y) = []
form_equations (EqR r x y) = []
form_equations (Sum3 x y z) = []
form_equations (Count ls c) = []
form_equations (Sum ints k) = []
form_equations (Max ints c) = []
form_equations (AllDiff ints cs) = row_equations ints cs
form_equations (Amo ls) = []
form_equations (Prod x y z) = []
form_equations (DivMod x y q r) = []
form_equations (Lex r strict front back) = lex_equations r strict front back

-- the equations of a core by each rule
abbrev pub equations_of : Core → Rule → List (Atom × Atom)
equations_of core Order = []
equations_of core Form = form_equations core
equations_of core Table = []

-- whether an equation is an instance
abbrev pub is_instance_of : Core → Equation → Bool
is_instance_of core e = is_instance_by (equations_of core) e
