-- The equations that the rules state of a core.
use Rattle.std.specs.Prelude.{Bool, ◌||◌}
use Rattle.core_forms.specs.declared.equation.Equation.{Equation}
use Rattle.core_forms.specs.declared.form.Core.{Core}
use Rattle.equi_rules.specs.Instances.{is_instance_of as is_equi_instance}
use Rattle.arith_rules.specs.Instances.{is_instance_of as is_arith_instance}
use Rattle.alldiff_rules.specs.Instances.{is_instance_of as is_alldiff_instance}
use Rattle.table_rules.specs.Instances.{is_instance_of as is_table_instance}

-- an equation is an instance at a core where it is one by the rules of any crate
abbrev pub is_instance_at : Core → Equation → Bool
is_instance_at core e = is_equi_instance core e
    || (is_arith_instance core e || (is_alldiff_instance core e || is_table_instance core e))

-- by the core's form, beside what equi_rules states
abbrev pub is_form_instance : Core → Equation → Bool
is_form_instance core e = is_arith_instance core e || is_alldiff_instance core e
