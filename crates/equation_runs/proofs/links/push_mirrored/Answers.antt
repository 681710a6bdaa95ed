use Rattle.std.proofs.Common.{ℤ, pos, ◌+ℤ◌, ◌-ℤ◌, ap, ◌∙◌, ◌++◌, map}
use mir.Syntax.{w128}
use Rattle.std.proofs.lemmas.Int.{to_z-of_z}
use Rattle.core_forms.specs.declared.equation.Rule.TheVariants.{Form}
use Rattle.arith_rules.specs.Links.{opposed, opposed_above}
use Rattle.equation_runs.specs.RunRows.{equation_of}
use Rattle.equation_runs.proofs.LinkSteps.{both-parts}
use Rattle.equation_runs.proofs.links.push_mirrored.Goals as goal

pub returns : goal.returns
returns c =
    let a = c.args.a.now in
    let b = c.args.b.now in
    let k = to_z-of_z w128 c.args.k c.ranges.k in
    both-parts (opposed (λ v. c.args.k -ℤ v +ℤ pos 1) a b) (opposed_above (λ w. c.args.k -ℤ w) b a) c.args.run.now.items c.push_opposed.new.run.items c.push_opposed_above.new.run.items
    (c.in_ok-push_opposed.ensures ∙ ap (λ (n : ℤ). c.args.run.now.items ++ map (equation_of Form) (opposed (λ v. n -ℤ v +ℤ pos 1) a b)) k)
    (c.in_ok-push_opposed_above.ensures ∙ ap (λ (n : ℤ). c.push_opposed.new.run.items ++ map (equation_of Form) (opposed_above (λ w. n -ℤ w) b a)) k)
