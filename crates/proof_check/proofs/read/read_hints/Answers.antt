use Rattle.std.proofs.Common.{◌≡◌, sym, ◌∙◌, true, false}
use Rattle.std.specs.Fmt.{signed_decimal}
use Rattle.proof_check.specs.Lines.{IsReadableHint}
use Rattle.proof_check.proofs.Spelled.{hint_spelling, left, at-zero, at-other, at-end}
use Rattle.proof_check.proofs.read.read_hints.Goals as goal

pub returns-in-None-clause-complete : goal.returns-in-None-clause-complete
returns-in-None-clause-complete c = λ xs rest each e.
    absurd (at-end signed_decimal IsReadableHint c.loop-word.out.items xs c.loop-word.words rest
    (left signed_decimal IsReadableHint hint_spelling c.loop-word.out.items xs c.loop-word.words rest c.loop-word.invariant.fits each (sym c.loop-word.invariant.front ∙ e)) c.in-None.ensures.piece.0)

pub returns-then-is-clause-complete : goal.returns-then-is-clause-complete
returns-then-is-clause-complete c = λ xs rest each e.
    at-zero signed_decimal IsReadableHint c.loop-word.out.items xs c.loop-word.words rest hint_spelling
    (left signed_decimal IsReadableHint hint_spelling c.loop-word.out.items xs c.loop-word.words rest c.loop-word.invariant.fits each (sym c.loop-word.invariant.front ∙ e))
    c.in-Some.word.now c.next_word.new.self c.in-Some.ensures.piece (c.is.ensures.same.0 c.if-is.true)

pub returns-in-None-read_hint-clause-complete : goal.returns-in-None-read_hint-clause-complete
returns-in-None-read_hint-clause-complete c = λ xs rest each e.
    let one = at-other signed_decimal IsReadableHint c.loop-word.out.items xs c.loop-word.words rest
    (left signed_decimal IsReadableHint hint_spelling c.loop-word.out.items xs c.loop-word.words rest c.loop-word.invariant.fits each (sym c.loop-word.invariant.front ∙ e))
    c.in-Some.word.now c.next_word.new.self c.in-Some.ensures.piece (λ zero. let yes : c.is.result ≡ true = c.is.ensures.same.1 zero in absurd (let f : true ≡ false = sym yes ∙ c.if-is.false in cc)) in
    let found = c.read_hint.ensures.complete one.0 one.1.0 one.1.1 in
    absurd (cc (found, c.in-None-read_hint.is))
