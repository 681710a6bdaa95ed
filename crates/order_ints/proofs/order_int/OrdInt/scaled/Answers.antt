use Rattle.order_ints.specs.OrderRange.{IntBelow}
use Rattle.order_ints.proofs.Multiples.{IntBelow-scaled_of}
use Rattle.std.proofs.Common.{◌≡◌, ℤ, sym, ap, subst, ◌∙◌, rules, to_z, of_z}
use mir.Syntax.{w128}
use Rattle.std.proofs.lemmas.Int.{to_z-of_z}
use Rattle.order_ints.specs.declared.order_int.OrdInt.{OrdInt}
use Rattle.order_ints.specs.OrderValue.{value_of, IsOrdered}
use Rattle.order_ints.specs.OrderRange.{IsBounded, AreRising}
use Rattle.order_ints.specs.OrderChange.{scaled_of}
use Rattle.order_ints.proofs.Made.{int_is}
use Rattle.order_ints.proofs.Multiples.{value_of-scaled_of, IsOrdered-scaled_of, AreRising-scaled_of}
use Rattle.order_ints.proofs.order_int.OrdInt.scaled.Goals as goal

shape : (c : goal.In_ok-scaled_steps) → record { base = to_z w128 (of_z w128 c.scaled_base.result); steps = c.in_ok-scaled_steps.field-0 } ≡ scaled_of c.args.self.now c.args.by
shape c =
    let a = c.args.self.now in
    let same = to_z-of_z w128 c.args.by c.ranges.by in
    int_is (scaled_of a c.args.by) _ _
    (to_z-of_z w128 c.scaled_base.result (search rules) ∙ c.scaled_base.ensures ∙ ap (λ (by : ℤ). (scaled_of a by).base) same)
    (c.in_ok-scaled_steps.ensures ∙ ap (λ (by : ℤ). (scaled_of a by).steps) same)

pub returns-clause-shape : goal.returns-clause-shape
returns-clause-shape c = shape c

pub returns-clause-value : goal.returns-clause-value
returns-clause-value c = λ σ. ap (value_of σ) (shape c) ∙ value_of-scaled_of σ c.args.self.now c.args.by

pub returns-clause-ordered : goal.returns-clause-ordered
returns-clause-ordered c = λ σ h. subst (λ (a : OrdInt). IsOrdered σ a) (sym (shape c)) (IsOrdered-scaled_of σ c.args.self.now c.args.by h)

pub returns-clause-bounded : goal.returns-clause-bounded
returns-clause-bounded c = subst (λ (a : OrdInt). IsBounded a) (sym (shape c)) c.requires.after

pub returns-clause-rising : goal.returns-clause-rising
returns-clause-rising c = λ h. subst (λ (a : OrdInt). AreRising a.steps) (sym (shape c)) (AreRising-scaled_of c.args.self.now c.args.by h)

pub returns-clause-below : goal.returns-clause-below
returns-clause-below c = λ n below. subst (λ (a : OrdInt). IntBelow n a) (sym (shape c)) (IntBelow-scaled_of n c.args.self.now c.args.by below)
