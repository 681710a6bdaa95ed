use Rattle.order_ints.specs.OrderRange.{IntBelow}
use Rattle.std.proofs.Common.{◌≡◌, sym, ap, subst, ◌∙◌, arith, to_z, of_z}
use mir.Syntax.{w128}
use Rattle.std.proofs.lemmas.Int.{ints}
use Rattle.order_ints.specs.declared.order_int.OrdInt.{OrdInt}
use Rattle.order_ints.specs.OrderValue.{value_of, IsOrdered}
use Rattle.order_ints.specs.OrderRange.{IsBounded, AreRising}
use Rattle.order_ints.specs.OrderChange.{shifted_of}
use Rattle.order_ints.proofs.Made.{int_is}
use Rattle.order_ints.proofs.Multiples.{value_of-shifted_of}
use Rattle.order_ints.proofs.order_int.OrdInt.shifted.Goals as goal

shape : (c : goal.In_ok-copied) → record { base = to_z w128 (of_z w128 c.sum.result); steps = c.in_ok-copied.field-0 } ≡ shifted_of c.args.self.now c.args.by
shape c = int_is (shifted_of c.args.self.now c.args.by) _ _ (omega (arith, ints)) c.in_ok-copied.ensures

pub returns-clause-shape : goal.returns-clause-shape
returns-clause-shape c = shape c

pub returns-clause-value : goal.returns-clause-value
returns-clause-value c = λ σ. ap (value_of σ) (shape c) ∙ value_of-shifted_of σ c.args.self.now c.args.by

pub returns-clause-ordered : goal.returns-clause-ordered
returns-clause-ordered c = λ σ h. subst (λ (a : OrdInt). IsOrdered σ a) (sym (shape c)) h

pub returns-clause-bounded : goal.returns-clause-bounded
returns-clause-bounded c = subst (λ (a : OrdInt). IsBounded a) (sym (shape c)) c.requires.after

pub returns-clause-rising : goal.returns-clause-rising
returns-clause-rising c = λ h. subst (λ (a : OrdInt). AreRising a.steps) (sym (shape c)) h

pub returns-clause-below : goal.returns-clause-below
returns-clause-below c = λ n below. subst (λ (a : OrdInt). IntBelow n a) (sym (shape c)) (below)
