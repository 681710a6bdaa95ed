use Rattle.std.proofs.Common.{◌≡◌, Bool, cond, ℤ, pos, get_or, to_z, of_z, w64, FitsSigned, arith, rules}
use Rattle.std.proofs.lemmas.Int.{ints, to_z-of_z}
use Rattle.model_meaning.proofs.Sums.{weight_of_true-drop, weight_of_true-past}
use Rattle.model_meaning.proofs.integers.weight_of_true.Goals as goal

chosen_is : (t u : Bool) (x r : ℤ) → FitsSigned w64 x → t ≡ u → r ≡ cond t (to_z w64 (of_z w64 x)) (pos 0) → r ≡ cond u x (pos 0)
chosen_is t u x r f e h = rw (← e, ← to_z-of_z w64 x f) h

pub loop-i-preserved : goal.loop-i-preserved
loop-i-preserved c =
    let cs = c.args.coefficients.now in
    let i = c.loop-i.i in
    let e = weight_of_true-drop c.args.values.now cs c.args.members.now i (omega arith) (omega arith) in
    let f : FitsSigned w64 (get_or cs i (pos 0)) = search rules in
    let h = chosen_is c.truth_of.result _ (get_or cs i (pos 0)) c.coefficient_where.result f c.truth_of.ensures c.coefficient_where.ensures.value in
    record { sum = omega (arith, ints, e, h); low = omega (arith, ints); high = omega (arith, ints) }

pub returns-then-i-members : goal.returns-then-i-members
returns-then-i-members c =
    let e = weight_of_true-past c.args.values.now c.args.coefficients.now c.args.members.now c.loop-i.i (omega arith) in
    omega (arith, ints, e)
