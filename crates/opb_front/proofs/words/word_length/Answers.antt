use Rattle.std.proofs.Common.{get_or}
use Rattle.opb_front.proofs.Cuts.{word_cut, not_mark}
use Rattle.opb_front.proofs.words.word_length.Goals as goal

pub returns-else-text-eq59-clause-cut : goal.returns-else-text-eq59-clause-cut
returns-else-text-eq59-clause-cut c =
    word_cut c.args.text.now c.unwrap_or.result c.find_end.result c.requires.some (not_mark (get_or c.args.text.now 0 0) c.requires.word c.if-text-eq59.false) c.find_end.ensures c.unwrap_or.ensures
