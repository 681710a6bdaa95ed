use Rattle.std.proofs.Common.{◌≡◌, ℕ, List, ◌∷◌, sym, ap, ◌∙◌, rules}
use Rattle.order_ints.specs.declared.atom.Atom.{Atom}
use Rattle.order_ints.specs.declared.atom.Atom.TheVariants.{True}
use Rattle.rule_base.specs.Pairs.{first_sought}
use Rattle.equi_rules.specs.OrderRows.{step_equations}
use Rattle.equi_rules.proofs.OrderFound.{above-stop, above-next}
use Rattle.equi_rules.proofs.order.among_steps.Goals as goal

pub returns-then-is_some : goal.returns-then-is_some
returns-then-is_some c =
    let split : c.args.steps.now ≡ c.in_ok-first.first.now ∷ c.in_ok-first.above.now = search rules in
    above-stop c.args.sought c.loop-step.lower c.in_ok-first.above.now c.loop-step.step-index (True, 0) c.neighbours-pair.result c.loop-step-test.true c.neighbours-pair.ensures (sym c.is_some.ensures ∙ c.if-is_some.true)
    ∙ c.loop-step.invariant ∙ ap (λ (xs : List (Atom × ℕ)). first_sought c.args.sought (step_equations xs)) (sym split)

pub loop-step-preserved : goal.loop-step-preserved
loop-step-preserved c =
    above-next c.args.sought c.loop-step.lower c.in_ok-first.above.now c.loop-step.step-index (True, 0) c.neighbours-pair.result c.loop-step-test.true c.neighbours-pair.ensures (sym c.is_some.ensures ∙ c.if-is_some.false)
    ∙ c.loop-step.invariant
