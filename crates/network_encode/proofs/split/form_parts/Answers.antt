use Rattle.std.proofs.Common.{length, ap, arith}
use Rattle.core_forms.specs.Shapes.{steps_of}
use Rattle.network_encode.specs.NetworkParts.{cost_by_parts}
use Rattle.network_encode.proofs.CountLaws.{count-floor}
use Rattle.network_encode.proofs.split.form_parts.Goals as goal

pub of_lent_count-requires-clause-room : goal.of_lent_count-requires-clause-room
of_lent_count-requires-clause-room c =
    omega (arith, c.requires.room, ap cost_by_parts c.in-Count.is, count-floor (length c.in-Count.atoms) (steps_of c.in-Count.c), ap length c.as_slice-in-Count.ensures)
