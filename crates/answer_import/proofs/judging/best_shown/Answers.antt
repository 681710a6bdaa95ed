use Rattle.std.proofs.Common.{◌+◌}
use Rattle.answer_import.proofs.Belows.{better-is}
use Rattle.answer_import.proofs.judging.best_shown.Goals as goal

pub refutation-requires-clause-below : goal.refutation-requires-clause-below
refutation-requires-clause-below c =
    better-is (c.args.task.cnf.vars + 1) c.args.task.goal c.args.task.map.entries _ c.better_than-better.result c.requires.below (rw c.as_slice-entries.ensures at c.better_than-better.ensures)
