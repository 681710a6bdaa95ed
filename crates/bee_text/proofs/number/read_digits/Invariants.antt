use Rattle.std.proofs.Common.{◌≡◌, drop}
use Rattle.bee_text.specs.Digits.{digits_after}
use Rattle.bee_text.proofs.number.read_digits.Given as goal

abbrev pub invariant-loop-byte : goal.invariant-loop-byte
invariant-loop-byte l = digits_after l.most l.value (drop l.byte-index l.bytes) ≡ digits_after l.most 0 l.bytes
