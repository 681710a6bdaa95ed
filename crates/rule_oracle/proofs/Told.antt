-- Where no rule states an equation, none is told.
use Rattle.std.proofs.Common.{◌≡◌, ◌↔◌, true, false, refl, sym, ◌∙◌, Option, None, Some, Result, Ok, Err}
use Rattle.std.specs.Prelude.{IfOk, IfSome, IfNone, IsNone}
use Rattle.std.proofs.lemmas.Bool.{false≢true, or_left, or_right}
use Rattle.core_forms.specs.declared.equation.Equation.{Equation}
use Rattle.core_forms.specs.declared.form.Core.{Core}
use Rattle.equi_rules.specs.Instances.{is_instance_of as is_equi_instance}
use Rattle.arith_rules.specs.Instances.{is_instance_of as is_arith_instance}
use Rattle.alldiff_rules.specs.Instances.{IsInstance as IsAlldiff, is_instance_of as is_alldiff_instance}
use Rattle.alldiff_rules.proofs.ExactLaws.{instance-exact}
use Rattle.table_rules.specs.Instances.{is_instance_of as is_table_instance}
use Rattle.equation_runs.specs.Turns.{is_stated}
use Rattle.core_rules.specs.Instances.{is_instance_at, is_form_instance}
use Rattle.core_rules.proofs.InstanceLaws.{by_rules}

-- where no rule states an equation, none is told
pub none-told : (core : Core) → ((e : Equation) → is_stated core e ≡ true → ⊥) → ((e : Equation) → is_table_instance core e ≡ false) → (e : Equation) → is_instance_at core e ≡ true → ⊥
none-told core none table e =
    by_rules core e ⊥ (λ is. none e (or_left (is_equi_instance core e) (is_form_instance core e) is))
    (λ is. none e (or_right (is_equi_instance core e) (is_form_instance core e) (or_left (is_arith_instance core e) (is_alldiff_instance core e) is)))
    (λ is. none e (or_right (is_equi_instance core e) (is_form_instance core e) (or_right (is_arith_instance core e) (is_alldiff_instance core e) is)))
    (λ is. absurd (false≢true (sym (table e) ∙ is)))

-- what is found of all-different and of lexicographic order, by the test
pub alldiff-some : {E : Type 0} (core : Core) (r : Result (Option Equation) E) → IfOk r (λ found. IfSome found (IsAlldiff core)) → IfOk r (λ found. IfSome found (λ e. is_alldiff_instance core e ≡ true))
alldiff-some core (Ok (Some e)) h = (instance-exact core e).1 h
alldiff-some core (Ok None) h = tt
alldiff-some core (Err e) h = tt

pub alldiff-none : {E : Type 0} (core : Core) (r : Result (Option Equation) E) → IfOk r (λ found. IsNone found ↔ ((e : Equation) → IsAlldiff core e → ⊥)) → IfOk r (λ found. IfNone found ((e : Equation) → is_alldiff_instance core e ≡ true → ⊥))
alldiff-none core (Ok (Some e)) h = tt
alldiff-none core (Ok None) h = λ e is. h.0 refl e ((instance-exact core e).0 is)
alldiff-none core (Err e) h = tt
