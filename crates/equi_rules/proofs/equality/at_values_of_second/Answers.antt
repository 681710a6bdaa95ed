use Rattle.std.proofs.Common.{to_z, of_z, ap, sym, ◌∙◌, rules}
use mir.Syntax.{w128}
use Rattle.std.proofs.lemmas.Int.{to_z-of_z}
use Rattle.order_ints.specs.declared.order_int.OrdInt.{OrdInt}
use Rattle.order_ints.specs.OrderLevels.{at_of}
use Rattle.rule_base.specs.Pairs.{first_sought}
use Rattle.equi_rules.proofs.Beside.{second_beside, second_is, second-stop}
use Rattle.equi_rules.proofs.equality.at_values_of_second.Goals as goal

pub loop-value-init : goal.loop-value-init
loop-value-init c = record {
  found = ap (first_sought c.args.sought) (ap (second_beside c.args.a.now) (c.into_iter-value-iterator.ensures.into_iter_gives ∙ c.levels-value-items.ensures.shape) ∙ second_is c.args.a.now c.args.b.now c.requires.b);
  same = c.along-walk.ensures;
}

pub returns-then-is_some : goal.returns-then-is_some
returns-then-is_some c =
    second-stop c.args.sought c.args.a.now c.loop-value.value-iterator c.next.new.self c.in-Some.value c.in-Some.atom c.at.result c.one-pair.result
    (search rules)
    (c.at.ensures.atom ∙ ap (λ (w : OrdInt). at_of w (to_z w128 (of_z w128 c.in-Some.value))) c.loop-value.invariant.same ∙ ap (at_of c.args.a.now) (to_z-of_z w128 c.in-Some.value (search rules)))
    c.one-pair.ensures (sym c.is_some.ensures ∙ c.if-is_some.true)
    ∙ c.loop-value.invariant.found
