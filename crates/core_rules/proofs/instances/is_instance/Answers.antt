use Rattle.std.proofs.Common.{◌≡◌, Bool, true, false, ◌||◌, refl, sym, ◌∙◌}
use Rattle.std.proofs.lemmas.Bool.{or_right}
use Rattle.equi_rules.specs.Instances.{is_instance_of as is_equi_instance}
use Rattle.arith_rules.specs.Instances.{is_instance_of as is_arith_instance}
use Rattle.alldiff_rules.specs.Instances.{is_instance_of as is_alldiff_instance}
use Rattle.table_rules.specs.Instances.{is_instance_of as is_table_instance}
use Rattle.core_rules.proofs.instances.is_instance.Goals as goal

with_third : (a b c d : Bool) → (a || (b || d)) ≡ true → true ≡ (a || (b || (c || d)))
with_third true b c d h = refl
with_third false true c d h = refl
with_third false false c d h = sym (or_right c d h)

pub returns-then-is_stated : goal.returns-then-is_stated
returns-then-is_stated c =
    with_third (is_equi_instance c.args.core.now c.args.e.now) (is_arith_instance c.args.core.now c.args.e.now) (is_alldiff_instance c.args.core.now c.args.e.now) (is_table_instance c.args.core.now c.args.e.now)
    (sym c.is_stated.ensures ∙ c.if-is_stated.true)
