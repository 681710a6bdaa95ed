use Rattle.std.proofs.Common.{drop}
use Rattle.opb_front.proofs.Values.{Counted}
use Rattle.opb_front.proofs.tokens.value_within.Given as goal

abbrev pub invariant-loop-byte : goal.invariant-loop-byte
invariant-loop-byte l = Counted l.most l.digits l.value (drop l.byte-index l.digits)
