use Rattle.std.proofs.Common.{refl}
use Rattle.conflict_check.specs.Readings.{standing_of}
use Rattle.conflict_check.proofs.Placing.{no-proof, derived-taken}
use Rattle.conflict_check.proofs.reading.Reading.derived_line.Goals as goal

pub returns-in-None : goal.returns-in-None
returns-in-None c = no-proof (standing_of c.args.model.now c.args.self.now) c.args.line.now c.in-None.is

pub returns-in_ok-taken-in-Some : goal.returns-in_ok-taken-in-Some
returns-in_ok-taken-in-Some c =
    derived-taken (standing_of c.args.model.now c.args.self.now) c.args.line.now _ c.in_ok-taken-in-Some.taken c.in-Some.proof c.take_derived.new.checker c.in-Some.is c.requires refl c.in_ok-taken-in-Some.ensures.taken
