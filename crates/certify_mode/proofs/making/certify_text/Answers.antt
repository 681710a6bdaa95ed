use Rattle.std.proofs.Common.{map}
use Rattle.model_meaning.specs.declared.model.Decl.{Decl}
use Rattle.model_texts.proofs.ModelShapes.{typed, limited, names}
use Rattle.ledger_check.proofs.DocumentLines.{declared-lines}
use Rattle.certify_mode.proofs.Holdings.{ascends}
use Rattle.certify_mode.proofs.making.certify_text.Goals as goal

pub import_answer-requires-clause-typed : goal.import_answer-requires-clause-typed
import_answer-requires-clause-typed c = typed c.requires.0 c.args.held.model c.requires.1.light.model.says

pub import_answer-requires-clause-limits : goal.import_answer-requires-clause-limits
import_answer-requires-clause-limits c = limited c.requires.0 c.args.held.model c.requires.1.light.model.within c.requires.1.light.model.says

pub import_answer-requires-clause-names : goal.import_answer-requires-clause-names
import_answer-requires-clause-names c = declared-lines (map (λ (d : Decl). d.name) c.args.held.model.decls) (names c.requires.0 c.args.held.model c.requires.1.light.model.says)

pub import_answer-requires-clause-fits : goal.import_answer-requires-clause-fits
import_answer-requires-clause-fits c = c.requires.1.light.fits

pub import_answer-requires-clause-ascend : goal.import_answer-requires-clause-ascend
import_answer-requires-clause-ascend c = ascends c.args.held.model c.args.held.compiled c.requires.1.light.compiled
