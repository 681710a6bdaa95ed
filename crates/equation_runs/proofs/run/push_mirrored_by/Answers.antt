use Rattle.std.proofs.Common.{Bool, ℤ, rules, sym, ap, ◌∙◌, ◌++◌, map}
use mir.Syntax.{w128}
use Rattle.std.proofs.lemmas.Int.{to_z-of_z}
use Rattle.order_ints.specs.OrderRange.{low_of}
use Rattle.core_forms.specs.declared.equation.Rule.TheVariants.{Form}
use Rattle.rule_base.specs.Pairs.{only_if}
use Rattle.arith_rules.specs.SumRows.{mirrored_equations}
use Rattle.equation_runs.specs.RunRows.{equation_of}
use Rattle.equation_runs.proofs.run.push_mirrored_by.Goals as goal

pub returns-in_ok-push_mirrored : goal.returns-in_ok-push_mirrored
returns-in_ok-push_mirrored c =
    let a = c.args.a.now in
    let b = c.args.b.now in
    c.in_ok-push_mirrored.ensures
    ∙ ap (λ (n : ℤ). c.args.run.now.items ++ map (equation_of Form) (mirrored_equations n a b)) (to_z-of_z w128 c.low-k.result (search rules) ∙ c.low-k.ensures.value)
    ∙ ap (λ (t : Bool). c.args.run.now.items ++ map (equation_of Form) (only_if t (mirrored_equations (low_of c.args.by.now) a b))) (sym c.if-is_constant.true ∙ c.is_constant.ensures)
