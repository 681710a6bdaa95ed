use Rattle.model_texts.proofs.ModelShapes.{typed, limited}
use Rattle.check_modes.proofs.conflicts.ConflictsChecker.check.Goals as goal

pub check_text-requires-clause-typed : goal.check_text-requires-clause-typed
check_text-requires-clause-typed c = typed c.requires.holds.0 c.args.held c.requires.holds.1.says

pub check_text-requires-clause-limits : goal.check_text-requires-clause-limits
check_text-requires-clause-limits c = limited c.requires.holds.0 c.args.held c.requires.holds.1.within c.requires.holds.1.says

pub check_text-requires-clause-light : goal.check_text-requires-clause-light
check_text-requires-clause-light c = c.requires.holds.1.light
