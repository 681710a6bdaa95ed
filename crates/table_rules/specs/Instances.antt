-- The equations that a core of at most eight variables implies.
use Rattle.std.specs.Prelude.{◌≡◌, ℕ, ◌^◌, ◌≤◌, nat_eq, nat_le, Bool, true, false, not, ◌&&◌}
use Rattle.std.specs.Prelude.{◌||◌, List, [], ◌∷◌, length, Option, None, Some, if◌then◌else◌}
use Rattle.order_ints.specs.declared.atom.Atom.{Atom}
use Rattle.order_ints.specs.declared.atom.Atom.TheVariants.{True, False, Of}
use Rattle.order_ints.specs.Same.{same_atom}
use Rattle.core_forms.specs.declared.equation.Rule.{Rule}
use Rattle.core_forms.specs.declared.equation.Rule.TheVariants.{Order, Form, Table}
use Rattle.core_forms.specs.declared.equation.Equation.{Equation}
use Rattle.core_forms.specs.declared.form.Core.{Core}
use Rattle.core_forms.specs.Variables.{atom_vars, core_vars, AreAmong}
use Rattle.core_forms.specs.OwnVars.{own_vars}
use Rattle.rule_base.specs.Found.{IsImplied}
use Rattle.table_rules.specs.Rows.{are_equal_below, left_below}
use Rattle.table_rules.specs.Pairs.{pairs_over}

-- an equation that the rule Table states of a core: the core has few variables, both atoms are constants or literals
-- over them, they are different, and each valuation that meets the core makes them equally true
pub record IsInstance (core : Core) (e : Equation) : Type 0 where
  pub rule : e.rule ≡ Table
  pub few : length (own_vars core) ≤ 8
  pub different : e.a ≡ e.b → ⊥
  pub a_over : AreAmong (atom_vars e.a) (core_vars core)
  pub b_over : AreAmong (atom_vars e.b) (core_vars core)
  pub implied : IsImplied core e

-- beside it, the same as a test: over the rows of the core's own variables

abbrev pub is_table : Rule → Bool
is_table Order = false
is_table Form = false
is_table Table = true

abbrev pub has_var : List ℕ → ℕ → Bool
has_var [] v = false
has_var (w ∷ vars) v = nat_eq w v || has_var vars v

-- an atom is a constant, or a literal over listed variables
abbrev pub is_over : List ℕ → Atom → Bool
is_over vars True = true
is_over vars False = true
is_over vars (Of l) = has_var vars l.var

-- two atoms are over listed variables, and equally true in each row in which the core is met
abbrev pub are_equal_over : Core → List ℕ → Atom → Atom → Bool
are_equal_over core vars a b =
    (is_over vars a && is_over vars b) && are_equal_below core vars (a, b) (2 ^ length vars)

abbrev pub is_instance_of : Core → Equation → Bool
is_instance_of core e =
    (is_table e.rule && not (same_atom e.a e.b))
    && (nat_le (length (own_vars core)) 8 && are_equal_over core (own_vars core) e.a e.b)

-- the first of listed pairs, as an equation
abbrev pub first_equation : List (Atom × Atom) → Option Equation
first_equation [] = None
first_equation (p ∷ pairs) = Some (record { rule = Table; a = p.0; b = p.1 })

-- what is found: the first pair that the rows leave
abbrev pub found_over : Core → List ℕ → Option Equation
found_over core vars = first_equation (left_below core vars (pairs_over vars) (2 ^ length vars))

abbrev pub found_at : Core → Option Equation
found_at core = if nat_le (length (own_vars core)) 8 then found_over core (own_vars core) else None
