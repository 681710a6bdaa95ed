use Rattle.bee_text.specs.Gaps.{words_of}
use Rattle.dimacs_read.proofs.ValuesRead.{no_list}
use Rattle.dimacs_read.proofs.values.take_words_of.Goals as goal

pub returns-in-None : goal.returns-in-None
returns-in-None c = λ t h. no_list c.args.cnf.now c.args.stage c.args.known.now c.args.first.now (words_of c.args.behind.now) t c.in-Listing.is c.in-None.ensures h
