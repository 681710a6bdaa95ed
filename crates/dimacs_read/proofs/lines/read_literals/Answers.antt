use Rattle.std.proofs.Common.{◌+◌, length, sym, ap, ◌∙◌, arith}
use Rattle.std.proofs.lemmas.Bool.{true≢false}
use Rattle.dimacs_read.proofs.ValuesRead.{none_some}
use Rattle.dimacs_read.proofs.ValuesTell.{literal_nonzero}
use Rattle.dimacs_read.proofs.LiteralsRead.{literal_read, literals_misfit}
use Rattle.dimacs_read.proofs.lines.read_literals.Goals as goal

pub returns-in-Some-next_word : goal.returns-in-Some-next_word
returns-in-Some-next_word c =
    let zero = c.is.ensures.same.0 c.if-is.true in
    literals_misfit (c.args.vars + 1) c.args.words.now c.loop-word.words c.loop-word.literals.items c.in-Some.word.now c.next_word.new.self c.loop-word.invariant c.in-Some.ensures.piece
    (λ z none. omega (arith, ap length (sym none ∙ c.in-Some-next_word.ensures.piece)))
    (λ l below e. literal_nonzero (c.args.vars + 1) l (omega (arith, c.ranges.vars)) below (sym e ∙ zero))

pub returns-in_default-read_literal : goal.returns-in_default-read_literal
returns-in_default-read_literal c =
    literals_misfit (c.args.vars + 1) c.args.words.now c.loop-word.words c.loop-word.literals.items c.in-Some.word.now c.next_word.new.self c.loop-word.invariant c.in-Some.ensures.piece
    (λ z none. true≢false (sym (c.is.ensures.same.1 z) ∙ c.if-is.false))
    (λ l below e. none_some c.read_literal.result l c.in_default-read_literal.is (c.read_literal.ensures.complete l below e))

pub loop-word-preserved : goal.loop-word-preserved
loop-word-preserved c =
    literal_read (c.args.vars + 1) c.args.words.now c.loop-word.words c.loop-word.literals.items c.push.new.self.items c.in-Some.word.now c.next_word.new.self c.in-Some-read_literal.literal
    c.loop-word.invariant c.in-Some.ensures.piece (λ z. true≢false (sym (c.is.ensures.same.1 z) ∙ c.if-is.false))
    c.in-Some-read_literal.ensures.read.0 c.in-Some-read_literal.ensures.read.1 c.in_ok-push.ensures.items
