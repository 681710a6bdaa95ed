use Rattle.std.proofs.Common.{length, ap, arith}
use Rattle.decompose.specs.DifferingParts.{all_values}
use Rattle.decompose.proofs.FormLaws.{kept-room}
use Rattle.decompose.proofs.forms.kept_parts.Goals as goal

pub differing_parts-requires-clause-room : goal.differing_parts-requires-clause-room
differing_parts-requires-clause-room c =
    let room = kept-room c.args.core.now c.in-AllDiff.ints c.in-AllDiff.conditions c.args.next_var _ c.in-AllDiff.is c.requires.room in
    omega (arith, room, ap (λ ints. length (all_values ints)) c.in_ok-copied_ints-in-AllDiff.ensures)
