use Rattle.std.proofs.Common.{[], ◌∷◌, pos, ◌+ℤ◌, to_z, of_z, sym, ap, ◌∙◌, arith}
use mir.Syntax.{w128}
use Rattle.std.proofs.lemmas.Int.{ints}
use Rattle.core_forms.proofs.Bounds.{wide_bits}
use Rattle.rule_base.specs.Pairs.{first_sought}
use Rattle.rule_base.specs.Stated.{at_least, is_below}
use Rattle.rule_base.proofs.PairLaws.{front-found, back-found}
use Rattle.arith_rules.proofs.ranges.Range.holds.Goals as goal

pub returns-then-is_some : goal.returns-then-is_some
returns-then-is_some c =
    let s = c.args.sought in
    let a = c.args.a.now in
    let low = c.args.self.now.low in
    let high = c.args.self.now.high in
    let from = c.at_least-from.ensures ∙ ap (λ v. first_sought s (at_least a v ∷ [])) (wide_bits low (omega (arith, c.requires.small.0))) in
    front-found s (at_least a low ∷ []) (is_below a (high +ℤ pos 1) ∷ []) c.at_least-from.result from (sym c.is_some.ensures ∙ c.if-is_some.true)

pub returns : goal.returns
returns c =
    let s = c.args.sought in
    let a = c.args.a.now in
    let low = c.args.self.now.low in
    let high = c.args.self.now.high in
    let from = c.at_least-from.ensures ∙ ap (λ v. first_sought s (at_least a v ∷ [])) (wide_bits low (omega (arith, c.requires.small.0))) in
    let to = c.is_below.ensures ∙ ap (λ v. first_sought s (is_below a v ∷ [])) (ap (λ v. to_z w128 (of_z w128 v)) (c.next.ensures ∙ ap (λ v. v +ℤ pos 1) (wide_bits high (omega (arith, c.requires.small.1)))) ∙ wide_bits (high +ℤ pos 1) (omega (arith, ints, c.requires.small.1))) in
    back-found s (at_least a low ∷ []) (is_below a (high +ℤ pos 1) ∷ []) c.at_least-from.result c.is_below.result from (sym c.is_some.ensures ∙ c.if-is_some.false) to
