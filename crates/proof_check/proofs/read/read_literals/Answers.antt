use Rattle.std.proofs.Common.{◌≡◌, sym, ◌∙◌, true, false}
use Rattle.proof_check.specs.Lines.{literal_word, IsReadableLit}
use Rattle.proof_check.proofs.Spelled.{literal_spelling, left, at-zero, at-other, at-end}
use Rattle.proof_check.proofs.read.read_literals.Goals as goal

pub returns-in-None-clause-complete : goal.returns-in-None-clause-complete
returns-in-None-clause-complete c = λ xs rest each e.
    absurd (at-end literal_word IsReadableLit c.loop-word.out.items xs c.loop-word.words rest
    (left literal_word IsReadableLit literal_spelling c.loop-word.out.items xs c.loop-word.words rest c.loop-word.invariant.fits each (sym c.loop-word.invariant.front ∙ e)) c.in-None.ensures.piece.0)

pub returns-then-is-clause-complete : goal.returns-then-is-clause-complete
returns-then-is-clause-complete c = λ xs rest each e.
    at-zero literal_word IsReadableLit c.loop-word.out.items xs c.loop-word.words rest literal_spelling
    (left literal_word IsReadableLit literal_spelling c.loop-word.out.items xs c.loop-word.words rest c.loop-word.invariant.fits each (sym c.loop-word.invariant.front ∙ e))
    c.in-Some.word.now c.next_word.new.self c.in-Some.ensures.piece (c.is.ensures.same.0 c.if-is.true)

pub returns-in-None-read_literal-clause-complete : goal.returns-in-None-read_literal-clause-complete
returns-in-None-read_literal-clause-complete c = λ xs rest each e.
    let one = at-other literal_word IsReadableLit c.loop-word.out.items xs c.loop-word.words rest
    (left literal_word IsReadableLit literal_spelling c.loop-word.out.items xs c.loop-word.words rest c.loop-word.invariant.fits each (sym c.loop-word.invariant.front ∙ e))
    c.in-Some.word.now c.next_word.new.self c.in-Some.ensures.piece (λ zero. let yes : c.is.result ≡ true = c.is.ensures.same.1 zero in absurd (let f : true ≡ false = sym yes ∙ c.if-is.false in cc)) in
    let found = c.read_literal.ensures.complete one.0 one.1.0 one.1.1 in
    absurd (cc (found, c.in-None-read_literal.is))
