-- What each of the rules states is stated.
use Rattle.std.proofs.Common.{◌≡◌, true, ◌||◌}
use Rattle.core_forms.specs.declared.equation.Equation.{Equation}
use Rattle.core_forms.specs.declared.form.Core.{Core}
use Rattle.equi_rules.specs.Instances.{is_instance_of as is_equi_instance}
use Rattle.arith_rules.specs.Instances.{is_instance_of as is_arith_instance}
use Rattle.alldiff_rules.specs.Instances.{is_instance_of as is_alldiff_instance}
use Rattle.equation_runs.specs.Turns.{is_stated}
use Rattle.equation_runs.proofs.NextValue.{or-left, or-right}

module _ (core : Core) (e : Equation) where
  pub by-equi : is_equi_instance core e ≡ true → is_stated core e ≡ true
  by-equi is = or-left (is_equi_instance core e) (is_arith_instance core e || is_alldiff_instance core e) is

  pub by-arith : is_arith_instance core e ≡ true → is_stated core e ≡ true
  by-arith is =
      or-right (is_equi_instance core e) (is_arith_instance core e || is_alldiff_instance core e)
      (or-left (is_arith_instance core e) (is_alldiff_instance core e) is)

  pub by-alldiff : is_alldiff_instance core e ≡ true → is_stated core e ≡ true
  by-alldiff is =
      or-right (is_equi_instance core e) (is_arith_instance core e || is_alldiff_instance core e)
      (or-right (is_arith_instance core e) (is_alldiff_instance core e) is)
