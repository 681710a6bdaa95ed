use Rattle.order_ints.specs.OrderRange.{IntBelow}
use Rattle.order_ints.proofs.Negation.{StepsBelow-negated}
use Rattle.std.proofs.Common.{◌≡◌, sym, ap, subst, ◌∙◌, arith, to_z, of_z}
use mir.Syntax.{w128}
use Rattle.std.proofs.lemmas.Int.{ints}
use Rattle.order_ints.specs.declared.order_int.OrdInt.{OrdInt}
use Rattle.order_ints.specs.OrderValue.{value_of, IsOrdered}
use Rattle.order_ints.specs.OrderRange.{IsBounded, AreRising}
use Rattle.order_ints.specs.OrderChange.{negated_of, negated_step}
use Rattle.order_ints.proofs.Made.{int_is}
use Rattle.std.proofs.Common.{map}
use Rattle.std.specs.Prelude.{reverse}
use Rattle.order_ints.proofs.Negation.{value_of-negated_of, in_order-negated, IsBounded-negated_of, AreRising-negated}
use Rattle.order_ints.proofs.order_int.OrdInt.negated.Goals as goal

shape : (c : goal.In_ok-negated_steps) → record { base = to_z w128 (of_z w128 c.minus.result); steps = c.in_ok-negated_steps.field-0 } ≡ negated_of c.args.self.now
shape c =
    int_is (negated_of c.args.self.now) _ _ (omega (arith, ints, c.high.ensures.value))
    (c.in_ok-negated_steps.ensures ∙ ap (λ steps. map negated_step (reverse steps)) c.as_slice.ensures)

pub returns-clause-shape : goal.returns-clause-shape
returns-clause-shape c = shape c

pub returns-clause-value : goal.returns-clause-value
returns-clause-value c = λ σ. ap (value_of σ) (shape c) ∙ value_of-negated_of σ c.args.self.now

pub returns-clause-ordered : goal.returns-clause-ordered
returns-clause-ordered c = λ σ h. subst (λ (a : OrdInt). IsOrdered σ a) (sym (shape c)) (in_order-negated σ c.args.self.now.steps ∙ h)

pub returns-clause-bounded : goal.returns-clause-bounded
returns-clause-bounded c = subst (λ (a : OrdInt). IsBounded a) (sym (shape c)) (IsBounded-negated_of c.args.self.now c.requires)

pub returns-clause-rising : goal.returns-clause-rising
returns-clause-rising c = λ h. subst (λ (a : OrdInt). AreRising a.steps) (sym (shape c)) (AreRising-negated c.args.self.now.steps h)

pub returns-clause-below : goal.returns-clause-below
returns-clause-below c = λ n below. subst (λ (a : OrdInt). IntBelow n a) (sym (shape c)) (StepsBelow-negated n c.args.self.now.steps below)
