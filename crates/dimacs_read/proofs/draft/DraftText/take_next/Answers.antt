use Rattle.std.proofs.Common.{sym, ap, ◌∙◌}
use Rattle.dimacs_read.specs.declared.draft.TextStage.TheVariants.{Names}
use Rattle.dimacs_read.specs.TextSteps.{Draft}
use Rattle.dimacs_read.proofs.Taken.{stage_taken}
use Rattle.dimacs_read.proofs.draft.DraftText.take_next.Goals as goal

pub returns-in_ok-taken-in-Names : goal.returns-in_ok-taken-in-Names
returns-in_ok-taken-in-Names c =
    stage_taken c.in_ok-taken-in-Names.taken Names c.args.self.now c.take_among_names.new.self c.args.line.now (ap (λ (d : Draft). d.stage) (sym c.self.view_is) ∙ c.in-Names.is) c.in_ok-taken-in-Names.ensures
