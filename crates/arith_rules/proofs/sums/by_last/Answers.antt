use Rattle.std.proofs.Common.{sym, ap, ◌∙◌}
use Rattle.rule_base.specs.Pairs.{first_sought}
use Rattle.arith_rules.specs.declared.ranges.Range.{Range}
use Rattle.arith_rules.specs.Links.{within}
use Rattle.arith_rules.specs.Ranges.{share_of}
use Rattle.arith_rules.specs.SumRows.{lows_of, highs_of}
use Rattle.arith_rules.proofs.LastMember.{last-is, sound-last}
use Rattle.arith_rules.proofs.sums.by_last.Goals as goal

pub of-own-requires : goal.of-own-requires
of-own-requires c = (sound-last c.args.ints.now _ c.in-Some.last.now c.in-Some.ensures.cases.0 c.requires.sound).0

pub returns-in-Some : goal.returns-in-Some
returns-in-Some c =
    let s = c.args.sought in
    let xs = c.args.ints.now in
    let k = c.args.k.now in
    c.binds.ensures
    ∙ ap (λ (r : Range). first_sought s (within c.in-Some.last.now r.low r.high)) (c.share-share.ensures.shape ∙ (λ i. share_of (c.of-own.ensures.shape i) (c.requires.shape i) k))
    ∙ ap (first_sought s) (sym (last-is k (lows_of xs) (highs_of xs) xs _ c.in-Some.last.now c.in-Some.ensures.cases.0))
