use Rattle.std.proofs.Common.{sym, subst}
use Rattle.std.proofs.lemmas.Int.{to_z-of_z}
use mir.Syntax.{w128}
use Rattle.order_ints.specs.declared.order_int.OrdInt.{OrdInt}
use Rattle.order_ints.specs.OrderRange.{IsBounded}
use Rattle.order_ints.specs.OrderChange.{shifted_of}
use Rattle.decompose.proofs.SumLaws.{bounded-less}
use Rattle.decompose.proofs.sums.less.Goals as goal

pub shifted-requires-clause-after : goal.shifted-requires-clause-after
shifted-requires-clause-after c =
    rw (to_z-of_z w128 c.args.k c.ranges.k) (subst (λ (b : OrdInt). IsBounded (shifted_of b c.args.k)) (sym c.in_ok-negated.ensures.shape) (bounded-less c.args.k c.args.a.now c.requires.limit))
