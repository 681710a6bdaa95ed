use Rattle.std.proofs.Common.{◌≡◌, ap, sym, ◌∙◌, arith}
use Rattle.std.proofs.lemmas.Int.{ints}
use Rattle.order_ints.specs.OrderRange.{low_of, high_of}
use Rattle.rule_base.specs.declared.sought.SoughtEquation.{SoughtEquation}
use Rattle.rule_base.specs.Pairs.{first_sought}
use Rattle.arith_rules.specs.declared.ranges.Range.{Range}
use Rattle.arith_rules.specs.Links.{within}
use Rattle.arith_rules.proofs.Unbound.{unbound}
use Rattle.arith_rules.proofs.ranges.Range.binds.Goals as goal

pub returns-then-own-self : goal.returns-then-own-self
returns-then-own-self c =
    let low : c.args.own.now.low ≡ low_of c.args.a.now = ap (λ (r : Range). r.low) c.requires.own in
    let high : c.args.own.now.high ≡ high_of c.args.a.now = ap (λ (r : Range). r.high) c.requires.own in
    unbound c.args.a.now c.args.self.now.low c.args.self.now.high
    (omega (arith, ints, c.if-self-own.true, low)) (omega (arith, ints, c.if-own-self.true, high))
    ∙ ap (λ (s : SoughtEquation). first_sought s (within c.args.a.now c.args.self.now.low c.args.self.now.high)) (sym c.in-Apart.is)
