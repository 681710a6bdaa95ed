use Rattle.std.proofs.Common.{◌∙◌}
use Rattle.std.specs.Int.{w64}
use Rattle.std.proofs.lemmas.Int.{to_z-of_z}
use Rattle.model_meaning.proofs.DomainLaws.{is_member-listed}
use Rattle.certificate_lines.proofs.values.is_value.Goals as goal

pub returns-in-Listed : goal.returns-in-Listed
returns-in-Listed c =
    rw c.in-Listed.is (rw c.contains.ensures (rw (to_z-of_z w64 c.args.number c.ranges.number) (is_member-listed c.in-Listed.values c.args.number)))
