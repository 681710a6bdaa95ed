use Rattle.std.proofs.Common.{length, ap, arith}
use Rattle.core_forms.specs.declared.taken.Taken.{Taken}
use Rattle.core_forms.specs.Shapes.{steps_of}
use Rattle.network_encode.specs.NetworkParts.{cost_by_parts}
use Rattle.network_encode.specs.TakenParts.{core_of}
use Rattle.network_encode.proofs.CountLaws.{count-floor}
use Rattle.network_encode.proofs.split.taken_parts.Goals as goal

pub of_count-requires-clause-room : goal.of_count-requires-clause-room
of_count-requires-clause-room c =
    let cost = ap (λ (taken : Taken). cost_by_parts (core_of taken)) c.in-Counted.is in
    omega (arith, c.requires.room, cost, count-floor (length c.in-Counted.atoms) (steps_of c.in-Counted.c), ap length c.as_slice-in-Counted.ensures)
