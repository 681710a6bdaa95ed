use Rattle.bee_text.proofs.WordLemmas.{split_blanks-join_words, join_words-append, join_words_line}
use Rattle.bee_text.proofs.GapLemmas.{join_words_injective, words_of-join_words, words_lines, words_of_words}
use Rattle.bee_text.proofs.laws.word_laws.Goals as goal

pub returns-clause-injective : goal.returns-clause-injective
returns-clause-injective c = join_words_injective

pub returns-clause-pieces : goal.returns-clause-pieces
returns-clause-pieces c = split_blanks-join_words

pub returns-clause-words : goal.returns-clause-words
returns-clause-words c = words_of-join_words

pub returns-clause-append : goal.returns-clause-append
returns-clause-append c = join_words-append

pub returns-clause-line : goal.returns-clause-line
returns-clause-line c = join_words_line

pub returns-clause-lines : goal.returns-clause-lines
returns-clause-lines c = words_lines

pub returns-clause-of_text : goal.returns-clause-of_text
returns-clause-of_text c = words_of_words
