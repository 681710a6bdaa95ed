use Rattle.std.proofs.Common.{pos, ◌+ℤ◌, ◌≤ℤ◌, subst}
use Rattle.core_forms.specs.Totals.{before_last}
use Rattle.arith_rules.specs.declared.ranges.Range.{Range}
use Rattle.arith_rules.specs.SumRows.{lows_of, highs_of}
use Rattle.arith_rules.proofs.LastMember.{all-values}
use Rattle.arith_rules.proofs.sums.binds_last_alone.Goals as goal

pub returns-in-Some : goal.returns-in-Some
returns-in-Some c = λ yes.
    let xs = c.args.ints.now in
    let k = c.args.k.now in
    let n = c.in-Some.known.widest in
    all-values k (lows_of xs) (highs_of xs) n (before_last xs)
    (subst (λ (r : Range). (r.low +ℤ pos n) ≤ℤ k) c.requires.shape (c.is_far.ensures.low yes))
    (subst (λ (r : Range). (k +ℤ pos n) ≤ℤ r.high) c.requires.shape (c.is_far.ensures.high yes))
    c.in-Some.ensures.narrow
