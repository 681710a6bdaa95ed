use Rattle.std.proofs.Common.{◌+◌, ◌∙◌, arith}
use Rattle.dimacs_read.proofs.Pieces.{clause_pieces}
use Rattle.dimacs_read.proofs.Taken.{no_clause}
use Rattle.dimacs_read.proofs.lines.read_clause.Goals as goal

pub returns-in-None : goal.returns-in-None
returns-in-None c = λ clause below same.
    no_clause (λ v. v.items) (c.args.vars + 1) c.split_words-words.result c.in_ok-literals.field-0 c.in_ok-literals.ensures c.in-None.is clause below
    (c.split_words-words.ensures.pieces ∙ clause_pieces (c.args.vars + 1) c.args.line.now clause (omega (arith, c.ranges.vars)) below same)
