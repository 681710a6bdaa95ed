-- Integers of one value.
use Rattle.std.specs.Prelude.{◌==◌, Bool, length}
use Rattle.order_ints.specs.declared.order_int.OrdInt.{OrdInt}

-- the integer has no steps, and so one value
abbrev pub is_constant : OrdInt → Bool
is_constant a = length a.steps == 0
