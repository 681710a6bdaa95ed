use Rattle.std.proofs.lemmas.List.{drop_more}
use Rattle.opb_front.proofs.Values.{counted_past}
use Rattle.opb_front.proofs.tokens.value_within.Goals as goal

pub returns-then-value-most : goal.returns-then-value-most
returns-then-value-most c =
    counted_past c.args.most c.args.digits.now c.loop-byte.value _ _ _ c.with_digit-value.result c.loop-byte.invariant (drop_more c.args.digits.now c.loop-byte.byte-index 0 c.loop-byte-test.true) c.with_digit-value.ensures c.if-value-most.true
