use Rattle.std.proofs.Common.{◌≡◌, ◌+◌, List, [], ◌∷◌, drop, pos, ◌+ℤ◌, to_z, of_z, refl, sym, ap, subst, ◌∙◌}
use mir.Syntax.{w128}
use Rattle.std.proofs.lemmas.List.{at_drop_more}
use Rattle.order_ints.specs.declared.atom.Atom.TheVariants.{True}
use Rattle.order_ints.specs.declared.order_int.OrdInt.{OrdInt}
use Rattle.order_ints.specs.OrderRange.{low_of, high_of}
use Rattle.order_ints.specs.OrderLevels.{at_of}
use Rattle.core_forms.specs.WellFormed.{AreSound}
use Rattle.core_forms.proofs.Bounds.{small_bits}
use Rattle.rule_base.specs.Pairs.{first_sought}
use Rattle.rule_base.specs.Stated.{at_least, is_below}
use Rattle.rule_base.proofs.PairLaws.{both-found, front-found, back-found}
use Rattle.arith_rules.specs.MaxRows.{member_ranges}
use Rattle.arith_rules.proofs.maxima.on_ranges.Goals as goal

pub returns-then-is_some : goal.returns-then-is_some
returns-then-is_some c =
    let s = c.args.sought in
    let z = c.args.c.now in
    let a = c.a-item.result in
    let xs = c.args.ints.now in
    let rest = drop (c.loop-a.a-index + 1) xs in
    let is : drop c.loop-a.a-index xs ≡ a ∷ rest = at_drop_more (λ ys. ys) xs c.loop-a.a-index a c.loop-a-test.true ∙ ap (λ (x : OrdInt). x ∷ rest) (sym c.a-item.is) in
    let from : c.at-from.result ≡ at_of z (low_of a) =
    c.at-from.ensures.atom ∙ ap (λ (w : OrdInt). at_of w (to_z w128 (of_z w128 c.low-low.result))) c.loop-a.invariant.same ∙ ap (at_of z) (small_bits c.low-low.result c.low-low.ensures.range ∙ c.low-low.ensures.value) in
    let low = c.one.ensures ∙ ap (λ x. first_sought s ((x, True) ∷ [])) from in
    let high = c.is_at_most.ensures ∙ ap (λ v. first_sought s (is_below a (v +ℤ pos 1) ∷ [])) (small_bits c.high-high.result c.high-high.ensures.range ∙ c.high-high.ensures.value) in
    let found = c.or-pair.ensures ∙ both-found s (at_least z (low_of a) ∷ []) (is_below a (high_of z +ℤ pos 1) ∷ []) c.one.result c.is_at_most.result low high in
    front-found s (at_least z (low_of a) ∷ is_below a (high_of z +ℤ pos 1) ∷ []) (member_ranges z rest) c.or-pair.result found (sym c.is_some.ensures ∙ c.if-is_some.true)
    ∙ ap (λ ys. first_sought s (member_ranges z ys)) (sym is) ∙ c.loop-a.invariant.found

pub loop-a-preserved : goal.loop-a-preserved
loop-a-preserved c =
    let s = c.args.sought in
    let z = c.args.c.now in
    let a = c.a-item.result in
    let xs = c.args.ints.now in
    let rest = drop (c.loop-a.a-index + 1) xs in
    let is : drop c.loop-a.a-index xs ≡ a ∷ rest = at_drop_more (λ ys. ys) xs c.loop-a.a-index a c.loop-a-test.true ∙ ap (λ (x : OrdInt). x ∷ rest) (sym c.a-item.is) in
    let from : c.at-from.result ≡ at_of z (low_of a) =
    c.at-from.ensures.atom ∙ ap (λ (w : OrdInt). at_of w (to_z w128 (of_z w128 c.low-low.result))) c.loop-a.invariant.same ∙ ap (at_of z) (small_bits c.low-low.result c.low-low.ensures.range ∙ c.low-low.ensures.value) in
    let low = c.one.ensures ∙ ap (λ x. first_sought s ((x, True) ∷ [])) from in
    let high = c.is_at_most.ensures ∙ ap (λ v. first_sought s (is_below a (v +ℤ pos 1) ∷ [])) (small_bits c.high-high.result c.high-high.ensures.range ∙ c.high-high.ensures.value) in
    let found = c.or-pair.ensures ∙ both-found s (at_least z (low_of a) ∷ []) (is_below a (high_of z +ℤ pos 1) ∷ []) c.one.result c.is_at_most.result low high in
    record {
      found = back-found s (at_least z (low_of a) ∷ is_below a (high_of z +ℤ pos 1) ∷ []) (member_ranges z rest) c.or-pair.result (first_sought s (member_ranges z rest)) found (sym c.is_some.ensures ∙ c.if-is_some.false) refl
          ∙ ap (λ ys. first_sought s (member_ranges z ys)) (sym is) ∙ c.loop-a.invariant.found;
      sound = (subst (λ (ys : List OrdInt). AreSound ys) is c.loop-a.invariant.sound).1;
      same = c.at-from.ensures.same ∙ c.loop-a.invariant.same;
    }
