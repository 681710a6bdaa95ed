use Rattle.std.proofs.Common.{◌∙◌}
use Rattle.dimacs_read.specs.Entries.{kind_of, tail_words}
use Rattle.dimacs_read.proofs.Pieces.{entry_pieces, entry_parts}
use Rattle.dimacs_read.proofs.Taken.{no_value, kind_tells}
use Rattle.dimacs_read.proofs.entry.read_entry.Goals as goal

pub returns-in_default : goal.returns-in_default
returns-in_default c = λ e h same. c.in_default.ensures (kind_of e.value) e.name (tail_words e.value) h.name (c.split_words-words.ensures.pieces ∙ entry_pieces c.args.line.now e h same)

pub returns-in-None : goal.returns-in-None
returns-in-None c = λ e h same.
    let parts = entry_parts c.args.line.now c.split_words-words.result c.read_head.new.words c.in-Some.kind c.in-Some.name.now e c.split_words-words.ensures.pieces c.in-Some.ensures.1 h same in
    no_value c.in-Some.kind c.read_head.new.words c.in_ok-found.found c.in_ok-found.ensures c.in-None.is e.value (kind_tells (kind_of e.value) c.in-Some.kind parts.kind_is)
    (record { value = h.value; in_limit = h.in_limit }) parts.rest_is
