use Rattle.std.proofs.Common.{arith}
use Rattle.std.proofs.lemmas.Nat.Gcd.{IsGcd-from_zero, IsGcd-from_mod}
use Rattle.core_cost.proofs.DivisorLaws.{common_from_IsGcd}
use Rattle.core_cost.proofs.divisor.common_divisor.Goals as goal

pub returns-clause-value : goal.returns-clause-value
returns-clause-value c =
    common_from_IsGcd c.args.first c.args.second c.loop-rest.divisor
    (c.loop-rest.invariant c.loop-rest.divisor (IsGcd-from_zero c.loop-rest.divisor c.loop-rest.rest (omega arith)))

pub returns-clause-greatest : goal.returns-clause-greatest
returns-clause-greatest c =
    c.loop-rest.invariant c.loop-rest.divisor (IsGcd-from_zero c.loop-rest.divisor c.loop-rest.rest (omega arith))

pub loop-rest-preserved : goal.loop-rest-preserved
loop-rest-preserved c = λ g h.
    c.loop-rest.invariant g (IsGcd-from_mod c.loop-rest.divisor c.loop-rest.rest g h)
