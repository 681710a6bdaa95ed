use Rattle.std.proofs.Common.{sym, ap, ◌∙◌}
use Rattle.rule_base.specs.Pairs.{first_sought}
use Rattle.rule_base.proofs.PairLaws.{front-found, back-found}
use Rattle.arith_rules.specs.declared.ranges.Range.{Range}
use Rattle.arith_rules.specs.Links.{within}
use Rattle.arith_rules.specs.DivisionRanges.{quotients_of, rest_within}
use Rattle.arith_rules.proofs.divisions.by_quotient.Goals as goal

pub returns-then-is_some : goal.returns-then-is_some
returns-then-is_some c =
    let s = c.args.sought in
    let q = c.args.q.now in
    let x = c.args.x.now in
    let y = c.args.y.now in
    let on_quotient = c.holds-on_quotient.ensures ∙ ap (λ (z : Range). first_sought s (within q z.low z.high)) c.quotients_of-quotients.ensures.shape in
    front-found s (within q (quotients_of x y).low (quotients_of x y).high) (rest_within c.args.r.now x y) c.holds-on_quotient.result on_quotient (sym c.is_some.ensures ∙ c.if-is_some.true)

pub returns : goal.returns
returns c =
    let s = c.args.sought in
    let q = c.args.q.now in
    let x = c.args.x.now in
    let y = c.args.y.now in
    let on_quotient = c.holds-on_quotient.ensures ∙ ap (λ (z : Range). first_sought s (within q z.low z.high)) c.quotients_of-quotients.ensures.shape in
    back-found s (within q (quotients_of x y).low (quotients_of x y).high) (rest_within c.args.r.now x y) c.holds-on_quotient.result c.by_rest.result on_quotient (sym c.is_some.ensures ∙ c.if-is_some.false) c.by_rest.ensures
