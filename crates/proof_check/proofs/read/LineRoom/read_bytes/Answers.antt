use Rattle.std.proofs.Common.{◌∙◌}
use Rattle.proof_check.proofs.Spelled.{pieces-of-line}
use Rattle.proof_check.proofs.read.LineRoom.read_bytes.Goals as goal

pub returns-in-Err-clause-complete : goal.returns-in-Err-clause-complete
returns-in-Err-clause-complete c = λ line h.
    c.in-Err.ensures.complete line h.0 (c.split_words-words.ensures.pieces ∙ pieces-of-line c.args.bytes.now line h)

pub returns-in-Ok-clause-complete : goal.returns-in-Ok-clause-complete
returns-in-Ok-clause-complete c = λ line h.
    c.in-Ok.ensures.complete line h.0 (c.split_words-words.ensures.pieces ∙ pieces-of-line c.args.bytes.now line h)
