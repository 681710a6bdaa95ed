use Rattle.std.proofs.Common.{[], ◌∷◌, pos, ◌+ℤ◌, to_z, of_z, rules, sym, ap, ◌∙◌, arith}
use mir.Syntax.{w128}
use Rattle.std.proofs.lemmas.Int.{ints, to_z-of_z}
use Rattle.core_forms.proofs.Bounds.{small_bits, wide_bits}
use Rattle.rule_base.specs.Pairs.{first_sought}
use Rattle.rule_base.specs.Stated.{at_least, is_below}
use Rattle.rule_base.proofs.PairLaws.{first-of-three, second-of-three, third-of-three}
use Rattle.arith_rules.proofs.divisions.by_rest.Goals as goal

pub returns-then-is_some : goal.returns-then-is_some
returns-then-is_some c =
    let s = c.args.sought in
    let r = c.args.r.now in
    let divisor = c.args.y.now.high in
    let dividend = c.args.x.now.high in
    first-of-three s (at_least r (pos 0) ∷ []) (is_below r divisor ∷ []) (is_below r (dividend +ℤ pos 1) ∷ []) c.at_least-from.result c.at_least-from.ensures (sym c.is_some.ensures ∙ c.if-is_some.true)

pub returns-then-is_some-2 : goal.returns-then-is_some-2
returns-then-is_some-2 c =
    let s = c.args.sought in
    let r = c.args.r.now in
    let divisor = c.args.y.now.high in
    let dividend = c.args.x.now.high in
    let below = c.is_below-below.ensures ∙ ap (λ v. first_sought s (is_below r v ∷ [])) (to_z-of_z w128 divisor (search rules)) in
    second-of-three s (at_least r (pos 0) ∷ []) (is_below r divisor ∷ []) (is_below r (dividend +ℤ pos 1) ∷ []) c.at_least-from.result c.at_least-from.ensures c.is_below-below.result (sym c.is_some.ensures ∙ c.if-is_some.false) below (sym c.is_some-2.ensures ∙ c.if-is_some-2.true)

pub returns : goal.returns
returns c =
    let s = c.args.sought in
    let r = c.args.r.now in
    let divisor = c.args.y.now.high in
    let dividend = c.args.x.now.high in
    let below = c.is_below-below.ensures ∙ ap (λ v. first_sought s (is_below r v ∷ [])) (to_z-of_z w128 divisor (search rules)) in
    let up_to = c.is_below.ensures ∙ ap (λ v. first_sought s (is_below r v ∷ [])) (ap (λ v. to_z w128 (of_z w128 v)) (c.next.ensures ∙ ap (λ v. v +ℤ pos 1) (small_bits dividend c.requires.dividend)) ∙ wide_bits (dividend +ℤ pos 1) (omega (arith, ints, c.requires.dividend))) in
    third-of-three s (at_least r (pos 0) ∷ []) (is_below r divisor ∷ []) (is_below r (dividend +ℤ pos 1) ∷ []) c.at_least-from.result c.at_least-from.ensures c.is_below-below.result c.is_below.result (sym c.is_some.ensures ∙ c.if-is_some.false) below (sym c.is_some-2.ensures ∙ c.if-is_some-2.false) up_to
