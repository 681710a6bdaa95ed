use Rattle.bee_text.proofs.WordLemmas.{join_words-split_blanks, split_blanks-pieces}
use Rattle.bee_text.proofs.words.split_words.Goals as goal

pub returns-clause-joined : goal.returns-clause-joined
returns-clause-joined c = join_words-split_blanks c.args.text.now

pub returns-clause-apart : goal.returns-clause-apart
returns-clause-apart c = split_blanks-pieces c.args.text.now
