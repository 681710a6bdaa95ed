use Rattle.bee_text.specs.Gaps.{words_of}
use Rattle.sat_front.proofs.Lists.{alike_end}
use Rattle.sat_front.proofs.draft.ListedClauses.take_words.Goals as goal

pub loop-word-preserved-in_ok-end : goal.loop-word-preserved-in_ok-end
loop-word-preserved-in_ok-end c =
    alike_end c.args.vars c.requires c.args.self.now (words_of c.args.text.now) c.loop-word.self (words_of c.loop-word.rest.now) c.in-Some.word.now (words_of c.in-Some.behind.now)
    c.loop-word.invariant c.in-Some.ensures.words c.end.new.self (c.is_word.ensures.0 c.if-is_word.true) c.in_ok-end.ensures
