use Rattle.model_texts.proofs.ModelShapes.{typed, limited, names}
use Rattle.model_meaning.specs.declared.model.Decl.{Decl}
use Rattle.std.proofs.Common.{map}
use Rattle.ledger_check.proofs.DocumentLines.{declared-lines}
use Rattle.check_modes.proofs.answers.AnswersChecker.check.Goals as goal

pub check_lowered-requires-clause-typed : goal.check_lowered-requires-clause-typed
check_lowered-requires-clause-typed c = typed c.requires.holds.0 c.args.held.model c.requires.holds.1.says

pub check_lowered-requires-clause-limits : goal.check_lowered-requires-clause-limits
check_lowered-requires-clause-limits c = limited c.requires.holds.0 c.args.held.model c.requires.holds.1.within c.requires.holds.1.says

pub check_lowered-requires-clause-names : goal.check_lowered-requires-clause-names
check_lowered-requires-clause-names c = declared-lines (map (λ (d : Decl). d.name) c.args.held.model.decls) (names c.requires.holds.0 c.args.held.model c.requires.holds.1.says)

pub check_lowered-requires-clause-light : goal.check_lowered-requires-clause-light
check_lowered-requires-clause-light c = c.requires.holds.1.light

pub check_lowered-requires-clause-shape : goal.check_lowered-requires-clause-shape
check_lowered-requires-clause-shape c = c.requires.kept
