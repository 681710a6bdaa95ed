use Rattle.answer_document.proofs.TextTells.{text_tells_answer, valid_tells_answer}
use Rattle.answer_document.proofs.laws.text_law.Goals as goal

pub returns : goal.returns
returns c = record { text = text_tells_answer; valid = valid_tells_answer }
