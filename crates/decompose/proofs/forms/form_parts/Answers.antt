use Rattle.std.proofs.Common.{length, sym, ap, ◌∙◌, arith}
use Rattle.decompose.specs.DifferingParts.{all_values}
use Rattle.decompose.proofs.FormLaws.{differing-room}
use Rattle.decompose.proofs.forms.form_parts.Goals as goal

pub differing_parts-requires-clause-room : goal.differing_parts-requires-clause-room
differing_parts-requires-clause-room c =
    let taken = sym c.in-Differing.is ∙ c.take_apart.ensures in
    let room = differing-room c.args.core c.in-Differing.ints c.in-Differing.conditions c.args.next_var _ c.requires.form taken c.requires.room in
    omega (arith, room, ap (λ ints. length (all_values ints)) c.into_vec-in-Differing.ensures)
