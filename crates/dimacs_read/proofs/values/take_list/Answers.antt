use Rattle.std.proofs.Common.{sym, ◌∙◌}
use Rattle.std.proofs.lemmas.Bool.{true≢false}
use Rattle.dimacs_read.proofs.ValuesRead.{no_answer}
use Rattle.dimacs_read.proofs.values.take_list.Goals as goal

pub returns-else-is_answer : goal.returns-else-is_answer
returns-else-is_answer c = λ t told.
    let same = c.in_ok-take_words.ensures.only told.ends told.known told.tell in
    no_answer c.args.cnf.now told.ends told.known c.take_words.new.known t told.stands (same.0 ∙ c.if-not-branch.false) same.1
    (λ answer. true≢false (sym (c.is_answer.ensures.1 answer) ∙ c.if-is_answer.false))
