use Rattle.model_texts.proofs.ModelShapes.{typed, limited}
use Rattle.check_modes.proofs.lists.ListsChecker.check.Goals as goal

pub check_lowered-requires-clause-typed : goal.check_lowered-requires-clause-typed
check_lowered-requires-clause-typed c = typed c.requires.holds.0 c.args.held.model c.requires.holds.1.says

pub check_lowered-requires-clause-limits : goal.check_lowered-requires-clause-limits
check_lowered-requires-clause-limits c = limited c.requires.holds.0 c.args.held.model c.requires.holds.1.within c.requires.holds.1.says

pub check_lowered-requires-clause-light : goal.check_lowered-requires-clause-light
check_lowered-requires-clause-light c = c.requires.holds.1.light

pub check_lowered-requires-clause-shape : goal.check_lowered-requires-clause-shape
check_lowered-requires-clause-shape c = c.requires.kept
