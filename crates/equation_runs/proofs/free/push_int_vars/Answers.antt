use Rattle.std.proofs.Common.{◌≡◌, ◌+◌, ◌∷◌, drop, sym, ap, ◌∙◌}
use Rattle.std.proofs.lemmas.List.{at_drop_more}
use Rattle.order_ints.specs.declared.order_int.OrdInt.{OrdInt}
use Rattle.equation_runs.proofs.BoundSteps.{ints-more}
use Rattle.equation_runs.proofs.free.push_int_vars.Goals as goal

pub loop-a-preserved : goal.loop-a-preserved
loop-a-preserved c =
    let xs = c.args.ints.now in
    let rest = drop (c.loop-a.a-index + 1) xs in
    let is : drop c.loop-a.a-index xs ≡ c.a-item.result ∷ rest = at_drop_more (λ ys. ys) xs c.loop-a.a-index c.a-item.result c.loop-a-test.true ∙ ap (λ (x : OrdInt). x ∷ rest) (sym c.a-item.is) in
    ints-more c.loop-a.vars.items c.push_step_vars.new.vars.items _ (drop c.loop-a.a-index xs) rest c.a-item.result is c.in_ok-push_step_vars.ensures c.loop-a.invariant
