use Rattle.std.proofs.Common.{◌+◌, ◌≤◌, length, refl, arith}
use Rattle.conflict_check.specs.Readings.{standing_of}
use Rattle.conflict_check.proofs.checking.judge.Goals as goal

pub returns-in-Ok-None : goal.returns-in-Ok-None
returns-in-Ok-None c = (standing_of c.args.model.now c.read_text.new.reading, rw c.in-Ok-None.field-0-is at c.in-Ok-None.ensures.read, refl)

pub line_behind-requires : goal.line_behind-requires
line_behind-requires c =
    let few : c.in-Ok-Some.line ≤ length c.args.rest.now + 1 = rw c.in-Ok-Some.field-0-is at c.in-Ok-Some.ensures.few in
    let small = c.requires.small in
    omega (arith, few, small)

pub returns-in-Ok-Some : goal.returns-in-Ok-Some
returns-in-Ok-Some c = (c.in-Ok-Some.line, rw c.in-Ok-Some.field-0-is at c.in-Ok-Some.ensures.read, c.line_behind.ensures)
