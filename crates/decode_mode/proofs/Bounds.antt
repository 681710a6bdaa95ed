-- Values in the limit of what can be read are bounded.
use Rattle.std.proofs.Common.{List, [], ◌∷◌, arith}
use Rattle.order_ints.specs.declared.order_int.MapValue.{MapValue}
use Rattle.order_ints.specs.declared.order_int.MapValue.TheVariants.{Bool, Int}
use Rattle.name_map.specs.declared.entries.MapEntry.{MapEntry}
use Rattle.name_map.specs.Values.{values_of, IsBoundedValue, AreBounded}
use Rattle.dimacs_read.specs.TextLines.{IsInLimit, AreReadableEntries}

bounded_value : (v : MapValue) → IsInLimit v → IsBoundedValue v
bounded_value (Bool a) h = tt
bounded_value (Int a) h = (omega (arith, h.0), omega (arith, h.1))

pub bounded : (entries : List MapEntry) → AreReadableEntries entries → AreBounded (values_of entries)
bounded [] h = tt
bounded (e ∷ entries) h = (bounded_value e.value h.0.in_limit, bounded entries h.1)
