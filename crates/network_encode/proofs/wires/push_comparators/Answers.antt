use Rattle.std.proofs.Common.{◌+◌, ◌-◌, ◌∙◌, arith}
use Rattle.core_forms.specs.declared.form.Core.TheVariants.{Comp}
use Rattle.network_encode.proofs.Turns.{row-turn, row-done}
use Rattle.network_encode.proofs.wires.push_comparators.Goals as goal

pub loop-k-preserved : goal.loop-k-preserved
loop-k-preserved c =
    row-turn _ _ _ _ (c.args.next + c.args.odd + c.args.even) (c.args.next + 1) (c.args.next + c.args.odd) (c.args.odd - 1) c.args.even c.loop-k.k
    (omega (arith, c.loop-k-test.true, c.pairs-k-end.ensures)) c.in_ok-push.ensures.items
    (c.in_ok-core.ensures ∙ (λ i. Comp (c.fresh_atom-first.ensures i) (c.fresh_atom-second.ensures i) (c.fresh_atom-above.ensures i) (c.fresh_atom-below.ensures i)))
    c.loop-k.invariant

pub returns : goal.returns
returns c =
    row-done _ _ (c.args.next + c.args.odd + c.args.even) (c.args.next + 1) (c.args.next + c.args.odd) (c.args.odd - 1) c.args.even c.loop-k.k
    (omega (arith, c.loop-k-test.false, c.pairs-k-end.ensures)) c.loop-k.invariant
