use Rattle.std.proofs.Common.{◌≡◌, ◌≤◌, drop}
use Rattle.bumblebee_reader.specs.Numeral.{number_of, number_behind}
use Rattle.bumblebee_reader.proofs.numeral.read_number.Given as goal

abbrev pub invariant-loop-digit : goal.invariant-loop-digit
invariant-loop-digit l =
    (l.number ≤ 1073741824) × (number_behind l.number (drop l.digit-index l.digits) ≡ number_of l.digits)
