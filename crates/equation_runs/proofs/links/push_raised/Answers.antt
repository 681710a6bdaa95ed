use Rattle.std.proofs.Common.{ap, ◌∙◌, ◌++◌, map, ℤ, ◌+ℤ◌, ◌-ℤ◌}
use mir.Syntax.{w128}
use Rattle.std.proofs.lemmas.Int.{to_z-of_z}
use Rattle.core_forms.specs.declared.equation.Rule.TheVariants.{Form}
use Rattle.arith_rules.specs.Links.{linked, linked_back}
use Rattle.equation_runs.specs.RunRows.{equation_of}
use Rattle.equation_runs.proofs.LinkSteps.{both-parts}
use Rattle.equation_runs.proofs.links.push_raised.Goals as goal

pub returns : goal.returns
returns c =
    let a = c.args.a.now in
    let b = c.args.b.now in
    let k = to_z-of_z w128 c.args.k c.ranges.k in
    both-parts (linked (λ v. v +ℤ c.args.k) a b) (linked_back (λ w. w -ℤ c.args.k) b a) c.args.run.now.items c.push_linked.new.run.items c.push_linked_back.new.run.items
    (c.in_ok-push_linked.ensures ∙ ap (λ (n : ℤ). c.args.run.now.items ++ map (equation_of Form) (linked (λ v. v +ℤ n) a b)) k)
    (c.in_ok-push_linked_back.ensures ∙ ap (λ (n : ℤ). c.push_linked.new.run.items ++ map (equation_of Form) (linked_back (λ v. v -ℤ n) b a)) k)
