use Rattle.std.proofs.Common.{◌≡◌, ◌+◌, List, ◌∷◌, drop, sym, ap, subst, ◌∙◌}
use Rattle.std.proofs.lemmas.List.{at_drop_more}
use Rattle.order_ints.specs.declared.order_int.OrdInt.{OrdInt}
use Rattle.core_forms.specs.WellFormed.{AreSound}
use Rattle.rule_base.specs.Pairs.{first_sought}
use Rattle.arith_rules.specs.declared.ranges.Range.{Range}
use Rattle.arith_rules.specs.Links.{within}
use Rattle.arith_rules.specs.SumRows.{lows_of, highs_of}
use Rattle.arith_rules.specs.Ranges.{share_of}
use Rattle.arith_rules.proofs.SumFound.{some-sum, share-stop, share-next}
use Rattle.arith_rules.proofs.sums.by_shares.Goals as goal

pub returns-then-is_some : goal.returns-then-is_some
returns-then-is_some c =
    let s = c.args.sought in
    let xs = c.args.ints.now in
    let k = c.args.k.now in
    let is : drop c.loop-a.a-index xs ≡ c.a-item.result ∷ drop (c.loop-a.a-index + 1) xs = at_drop_more (λ ys. ys) xs c.loop-a.a-index c.a-item.result c.loop-a-test.true ∙ ap (λ (x : OrdInt). x ∷ drop (c.loop-a.a-index + 1) xs) (sym c.a-item.is) in
    let found = c.binds-pair.ensures ∙ ap (λ (r : Range). first_sought s (within c.a-item.result r.low r.high)) (c.share-share.ensures.shape ∙ (λ i. share_of (c.of-own.ensures.shape i) (c.requires.shape i) k)) in
    share-stop s k (lows_of xs) (highs_of xs) (drop c.loop-a.a-index xs) (drop (c.loop-a.a-index + 1) xs) c.a-item.result c.binds-pair.result is found (sym c.is_some.ensures ∙ c.if-is_some.true)
    ∙ c.loop-a.invariant.found ∙ ap (first_sought s) (some-sum xs k (sym c.is_empty.ensures ∙ c.if-is_empty.false))

pub loop-a-preserved : goal.loop-a-preserved
loop-a-preserved c =
    let s = c.args.sought in
    let xs = c.args.ints.now in
    let k = c.args.k.now in
    let is : drop c.loop-a.a-index xs ≡ c.a-item.result ∷ drop (c.loop-a.a-index + 1) xs = at_drop_more (λ ys. ys) xs c.loop-a.a-index c.a-item.result c.loop-a-test.true ∙ ap (λ (x : OrdInt). x ∷ drop (c.loop-a.a-index + 1) xs) (sym c.a-item.is) in
    let found = c.binds-pair.ensures ∙ ap (λ (r : Range). first_sought s (within c.a-item.result r.low r.high)) (c.share-share.ensures.shape ∙ (λ i. share_of (c.of-own.ensures.shape i) (c.requires.shape i) k)) in
    record {
      found = share-next s k (lows_of xs) (highs_of xs) (drop c.loop-a.a-index xs) (drop (c.loop-a.a-index + 1) xs) c.a-item.result c.binds-pair.result is found (sym c.is_some.ensures ∙ c.if-is_some.false)
          ∙ c.loop-a.invariant.found;
      sound = (subst (λ (ys : List OrdInt). AreSound ys) is c.loop-a.invariant.sound).1;
    }
