-- The equations that the rules Order and Form state of a core, and their instances.
use Rattle.std.specs.Prelude.{Bool, List, [], Option}
use Rattle.order_ints.specs.declared.atom.Atom.{Atom}
use Rattle.core_forms.specs.declared.equation.Rule.{Rule}
use Rattle.core_forms.specs.declared.equation.Rule.TheVariants.{Order, Form, Table}
use Rattle.core_forms.specs.declared.equation.Equation.{Equation}
use Rattle.core_forms.specs.declared.form.Core.{Core}
use Rattle.core_forms.specs.declared.form.Core.TheVariants.{Ladder, Clause, Parity, Conj, Comp, LeqR, EqR, Sum3, Count}
use Rattle.core_forms.specs.declared.form.Core.TheVariants.{Sum, Max, AllDiff, Amo, Prod, DivMod, Lex}
use Rattle.rule_base.specs.Found.{found_by, is_instance_by}
use Rattle.equi_rules.specs.OrderRows.{order_equations}
use Rattle.equi_rules.specs.AtomRows.{clause_equations, parity_equations, conj_equations, amo_equations}
use Rattle.equi_rules.specs.CompareRows.{leq_equations, eq_equations}

-- by Form, form by form; the other forms have rules elsewhere or none
abbrev pub form_equations : Core → List (Atom × Atom)
form_equations (Ladder a) = []
form_equations (Clause ls) = clause_equations ls
form_equations (Parity ls odd) = parity_equations ls odd
form_equations (Conj r ls) = conj_equations r ls
form_equations (Comp a b hi lo) = []
form_equations (LeqR r a b) = leq_equations r a b
form_equations (EqR r a b) = eq_equations r a b
form_equations (Sum3 a b c) = []
form_equations (Count ls c) = []
form_equations (Sum ints k) = []
form_equations (Max ints c) = []
form_equations (AllDiff ints cs) = []
form_equations (Amo ls) = amo_equations ls
form_equations (Prod a b c) = []
form_equations (DivMod a b q r) = []
form_equations (Lex r strict front back) = []

-- the equations of a core by each rule
abbrev pub equations_of : Core → Rule → List (Atom × Atom)
equations_of core Order = order_equations core
equations_of core Form = form_equations core
equations_of core Table = []

-- what is found
abbrev pub found_at : Core → Option Equation
found_at core = found_by (equations_of core)

-- whether an equation is an instance
abbrev pub is_instance_of : Core → Equation → Bool
is_instance_of core e = is_instance_by (equations_of core) e
