-- The equations that the rule Form states of sums, counts, maxima, products and divisions, and their instances.
use Rattle.std.specs.Prelude.{Bool, List, [], Option}
use Rattle.order_ints.specs.declared.atom.Atom.{Atom}
use Rattle.core_forms.specs.declared.equation.Rule.{Rule}
use Rattle.core_forms.specs.declared.equation.Rule.TheVariants.{Order, Form, Table}
use Rattle.core_forms.specs.declared.equation.Equation.{Equation}
use Rattle.core_forms.specs.declared.form.Core.{Core}
use Rattle.core_forms.specs.declared.form.Core.TheVariants.{Ladder, Clause, Parity, Conj, Comp, LeqR, EqR, Sum3, Count}
use Rattle.core_forms.specs.declared.form.Core.TheVariants.{Sum, Max, AllDiff, Amo, Prod, DivMod, Lex}
use Rattle.rule_base.specs.Found.{found_by, is_instance_by}
use Rattle.arith_rules.specs.SumRows.{sum3_equations, count_equations, sum_equations}
use Rattle.arith_rules.specs.MaxRows.{max_equations}
use Rattle.arith_rules.specs.ProductRows.{prod_equations, div_mod_equations}

-- by Form, form by form; the other forms have rules elsewhere or none
abbrev pub form_equations : Core → List (Atom × Atom)
form_equations (Ladder a) = []
form_equations (Clause ls) = []
form_equations (Parity ls odd) = []
form_equations (Conj r ls) = []
form_equations (Comp a b hi lo) = []
form_equations (LeqR r a b) = []
form_equations (EqR r a b) = []
form_equations (Sum3 a b c) = sum3_equations a b c
form_equations (Count ls c) = count_equations ls c
form_equations (Sum ints k) = sum_equations ints k
form_equations (Max ints c) = max_equations ints c
form_equations (AllDiff ints cs) = []
form_equations (Amo ls) = []
form_equations (Prod a b c) = prod_equations a b c
form_equations (DivMod a b q r) = div_mod_equations a b q r
form_equations (Lex r strict front back) = []

-- Order and Table state nothing here
abbrev pub equations_of : Core → Rule → List (Atom × Atom)
equations_of core Order = []
equations_of core Form = form_equations core
equations_of core Table = []

-- the first equation of two different atoms
abbrev pub found_at : Core → Option Equation
found_at core = found_by (equations_of core)

-- whether an equation is an instance at a core
abbrev pub is_instance_of : Core → Equation → Bool
is_instance_of core e = is_instance_by (equations_of core) e
