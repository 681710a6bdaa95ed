use Rattle.check_modes.specs.CheckMode.{answers}
use Rattle.check_modes.specs.CheckAllMode.{lists}
use Rattle.check_modes.specs.CheckCoreMode.{conflicts}
use Rattle.check_modes.proofs.Ends.{texts_answer}
use Rattle.check_modes.proofs.SomeAnswer as answer
use Rattle.check_modes.proofs.SomeList as list
use Rattle.check_modes.proofs.SomeConflict as conflict
use Rattle.check_modes.proofs.laws.answer_law.Goals as goal

pub returns : goal.returns
returns c = record {
  check = texts_answer answers answer.some;
  check_all = texts_answer lists list.some;
  check_core = texts_answer conflicts conflict.some;
}
