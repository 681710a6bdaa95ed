use Rattle.std.proofs.Common.{ℕ, List, sym, ap, ◌∙◌}
use Rattle.proof_check.specs.declared.line.ProofLine.TheVariants.{Delete}
use Rattle.proof_check.proofs.Spelled.{deletion-words}
use Rattle.proof_check.proofs.read.read_words.Goals as goal

pub returns-in-Err-clause-complete : goal.returns-in-Err-clause-complete
returns-in-Err-clause-complete c = λ line h e.
    let id = c.in-Some.ensures.read in
    let found = deletion-words line c.args.words.now c.next_count.new.words c.next_word.new.self c.in-Some.id c.in-Some-next_word.field-0.now h e
    (c.requires.0 c.if-deletion.true) id.0 id.1 c.in-Some-next_word.ensures.piece in
    c.in-Err.ensures.complete found.ids found.each found.behind_is

pub returns-in-Ok-clause-complete : goal.returns-in-Ok-clause-complete
returns-in-Ok-clause-complete c = λ line h e.
    let id = c.in-Some.ensures.read in
    let found = deletion-words line c.args.words.now c.next_count.new.words c.next_word.new.self c.in-Some.id c.in-Some-next_word.field-0.now h e
    (c.requires.0 c.if-deletion.true) id.0 id.1 c.in-Some-next_word.ensures.piece in
    ap (λ (ids : List ℕ). Delete c.in-Some.id ids) (c.in-Ok.ensures.complete found.ids found.each found.behind_is) ∙ sym found.is
