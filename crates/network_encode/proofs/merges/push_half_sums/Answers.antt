use Rattle.std.proofs.Common.{sym, ◌∙◌}
use Rattle.network_encode.proofs.Turns.{odd-lengths, even-lengths, half_sums-made}
use Rattle.network_encode.proofs.merges.push_half_sums.Goals as goal

pub half_sum-requires-clause-steps : goal.half_sum-requires-clause-steps
half_sum-requires-clause-steps c = c.requires.odd ∙ sym (odd-lengths c.args.first.now c.args.second.now)

pub half_sum-requires-2-clause-steps : goal.half_sum-requires-2-clause-steps
half_sum-requires-2-clause-steps c = c.requires.even ∙ sym (even-lengths c.args.first.now c.args.second.now)

pub returns : goal.returns
returns c =
    half_sums-made _ _ _ _ _ c.args.next c.args.odd c.args.first.now c.args.second.now c.in_ok-push.ensures.items c.in_ok-push-2.ensures.items c.in_ok-odd_sum.ensures c.in_ok-even_sum.ensures c.requires.odd
