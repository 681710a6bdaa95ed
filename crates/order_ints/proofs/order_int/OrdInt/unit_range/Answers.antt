use Rattle.std.proofs.Common.{◌≡◌, ℕ, sym, ap, subst, ◌∙◌, to_z, of_z, map}
use mir.Syntax.{w128}
use Rattle.std.proofs.lemmas.Int.{to_z-of_z}
use Rattle.order_ints.specs.declared.atom.Atom.{Atom}
use Rattle.order_ints.specs.declared.order_int.OrdInt.{OrdInt}
use Rattle.order_ints.specs.OrderRange.{IsBounded, AreRising, IntBelow}
use Rattle.order_ints.specs.OrderLevels.{values_of}
use Rattle.order_ints.specs.OrderMade.{unit_range_of, unit_steps}
use Rattle.order_ints.proofs.Made.{int_is}
use Rattle.order_ints.proofs.Fresh.{values_of-unit_range_of, atoms-unit_steps, AreRising-unit_steps, IsBounded-unit_range_of, StepsBelow-vars}
use Rattle.order_ints.proofs.order_int.OrdInt.unit_range.Goals as goal

shape : (c : goal.In_ok-steps_of_ones) → record { base = to_z w128 (of_z w128 c.args.low); steps = c.in_ok-steps_of_ones.field-0 } ≡ unit_range_of c.args.low c.args.first_var c.args.count
shape c =
    int_is (unit_range_of c.args.low c.args.first_var c.args.count) _ _ (to_z-of_z w128 c.args.low c.ranges.low) c.in_ok-steps_of_ones.ensures

pub returns-clause-values : goal.returns-clause-values
returns-clause-values c = ap values_of (shape c) ∙ values_of-unit_range_of c.args.low c.args.first_var c.args.count

pub returns-clause-variables : goal.returns-clause-variables
returns-clause-variables c =
    ap (λ (a : OrdInt). map (λ (s : Atom × ℕ). s.0) a.steps) (shape c) ∙ atoms-unit_steps c.args.first_var c.args.count

pub returns-clause-bounded : goal.returns-clause-bounded
returns-clause-bounded c =
    subst (λ (a : OrdInt). IsBounded a) (sym (shape c)) (IsBounded-unit_range_of c.args.low c.args.first_var c.args.count c.requires.least c.requires.greatest)

pub returns-clause-rising : goal.returns-clause-rising
returns-clause-rising c =
    subst (λ (a : OrdInt). AreRising a.steps) (sym (shape c)) (AreRising-unit_steps c.args.first_var c.args.count)

pub returns-clause-below : goal.returns-clause-below
returns-clause-below c = λ n h.
    subst (λ (a : OrdInt). IntBelow n a) (sym (shape c))
    (StepsBelow-vars n c.args.first_var c.args.count (unit_steps c.args.first_var c.args.count) (atoms-unit_steps c.args.first_var c.args.count) (λ some. (c.requires.variables some).0) h)
