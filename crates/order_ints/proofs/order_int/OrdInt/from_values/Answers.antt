use Rattle.std.proofs.Common.{◌≡◌, ℤ, ℕ, pos, get_or, length, take, drop, ◌-◌, sym, ap, subst, ◌∙◌, to_z, of_z, FitsSigned, map, rules}
use mir.Syntax.{w128}
use Rattle.std.proofs.lemmas.Int.{to_z-of_z}
use Rattle.order_ints.proofs.Made.{int_is}
use Rattle.order_ints.specs.declared.atom.Atom.{Atom}
use Rattle.order_ints.specs.declared.order_int.OrdInt.{OrdInt}
use Rattle.order_ints.specs.OrderRange.{IsBounded, AreRising, IntBelow}
use Rattle.order_ints.specs.OrderLevels.{values_of}
use Rattle.order_ints.specs.OrderMade.{integer_of_values, steps_between}
use Rattle.order_ints.proofs.Fresh.{least-integer_of_values, further-integer_of_values, values_of-integer_of_values, atoms-integer_of_values, IsBounded-integer_of_values, AreRising-integer_of_values, IntBelow-integer_of_values}
use Rattle.order_ints.proofs.order_int.OrdInt.from_values.Goals as goal

shape : (c : goal.In_ok-steps_upwards) → record { base = to_z w128 (of_z w128 (get_or c.args.values.now 0 (pos 0))); steps = c.in_ok-steps_upwards.field-0 } ≡ integer_of_values c.args.values.now c.args.first_var
shape c =
    let values = c.args.values.now in
    let fits : FitsSigned w128 (get_or values 0 (pos 0)) = search rules in
    let same = to_z-of_z w128 (get_or values 0 (pos 0)) fits in
    int_is (integer_of_values values c.args.first_var) _ _ (same ∙ least-integer_of_values values c.args.first_var c.requires.some)
    (c.in_ok-steps_upwards.ensures ∙ ap (λ (least : ℤ). steps_between least (take (length values - 1) (drop 1 values)) c.args.first_var) same ∙ further-integer_of_values values c.args.first_var c.requires.some)

pub returns-clause-values : goal.returns-clause-values
returns-clause-values c =
    ap values_of (shape c) ∙ values_of-integer_of_values c.args.values.now c.args.first_var c.requires.some c.requires.ascending

pub returns-clause-variables : goal.returns-clause-variables
returns-clause-variables c =
    ap (λ (a : OrdInt). map (λ (s : Atom × ℕ). s.0) a.steps) (shape c) ∙ atoms-integer_of_values c.args.values.now c.args.first_var

pub returns-clause-bounded : goal.returns-clause-bounded
returns-clause-bounded c =
    subst (λ (a : OrdInt). IsBounded a) (sym (shape c)) (IsBounded-integer_of_values c.args.values.now c.args.first_var c.requires.ascending c.requires.bounded)

pub returns-clause-rising : goal.returns-clause-rising
returns-clause-rising c =
    subst (λ (a : OrdInt). AreRising a.steps) (sym (shape c)) (AreRising-integer_of_values c.args.values.now c.args.first_var c.requires.ascending)

pub returns-clause-below : goal.returns-clause-below
returns-clause-below c = λ n h.
    subst (λ (a : OrdInt). IntBelow n a) (sym (shape c))
    (IntBelow-integer_of_values n c.args.values.now c.args.first_var c.requires.variables h)
