use Rattle.bee_text.proofs.LineLemmas.{join_lines_injective, lines_of-join_lines_rest, unfinished-join_lines, join_lines-lines_of, lines_of_lines, join_lines-append}
use Rattle.bee_text.proofs.laws.line_laws.Goals as goal

pub returns-clause-injective : goal.returns-clause-injective
returns-clause-injective c = join_lines_injective

pub returns-clause-lines : goal.returns-clause-lines
returns-clause-lines c = lines_of-join_lines_rest

pub returns-clause-append : goal.returns-clause-append
returns-clause-append c = join_lines-append

pub returns-clause-unfinished : goal.returns-clause-unfinished
returns-clause-unfinished c = unfinished-join_lines

pub returns-clause-joined : goal.returns-clause-joined
returns-clause-joined c = join_lines-lines_of

pub returns-clause-of_text : goal.returns-clause-of_text
returns-clause-of_text c = lines_of_lines
