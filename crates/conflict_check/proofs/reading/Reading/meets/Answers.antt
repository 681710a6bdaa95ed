use Rattle.std.proofs.Common.{◌↔◌, sym, subst}
use Rattle.std.specs.Prelude.{IsTrue}
use Rattle.conflict_text.specs.declared.verdict.CoreVerdict.{CoreVerdict}
use Rattle.conflict_text.specs.ConflictLines.{MeetsStatements}
use Rattle.conflict_check.specs.Readings.{standing_of}
use Rattle.conflict_check.proofs.reading.Reading.meets.Goals as goal

pub returns-in-Satisfiable : goal.returns-in-Satisfiable
returns-in-Satisfiable c =
    subst (λ (v : CoreVerdict). IsTrue c.breaks_none.result ↔ MeetsStatements (standing_of c.args.model.now c.args.self.now) v) (sym c.in-Satisfiable.is) c.breaks_none.ensures

pub returns-in-Core : goal.returns-in-Core
returns-in-Core c =
    subst (λ (v : CoreVerdict). IsTrue c.breaks_no_other.result ↔ MeetsStatements (standing_of c.args.model.now c.args.self.now) v) (sym c.in-Core.is) c.breaks_no_other.ensures
