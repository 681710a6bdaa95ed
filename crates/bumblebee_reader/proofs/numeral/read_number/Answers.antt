use Rattle.std.proofs.Common.{refl, arith}
use Rattle.bumblebee_reader.proofs.Numerals.{number_behind-passes}
use Rattle.bumblebee_reader.proofs.numeral.read_number.Goals as goal

-- src/numeral.rt:21:13
pub returns-then-number-gt-GREATEST : goal.returns-then-number-gt-GREATEST
returns-then-number-gt-GREATEST c =
    (refl, omega (arith, number_behind-passes c.loop-digit.number c.args.digits.now c.loop-digit.digit-index (omega arith)))
