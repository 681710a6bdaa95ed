use Rattle.std.proofs.Common.{◌+◌, sym, subst, ◌∙◌, arith}
use Rattle.std.proofs.lemmas.Bool.{true≢false}
use Rattle.bee_text.specs.Gaps.{words_of}
use Rattle.order_ints.specs.declared.literal.Lit.{Lit}
use Rattle.dimacs_read.specs.Values.{Known, IsNew}
use Rattle.dimacs_read.proofs.ValuesTell.{new_below, literal_nonzero}
use Rattle.dimacs_read.proofs.ValuesRead.{TellAlike, alike_next, alike_misfit, alone_end, alone_ended, some_words, some_same, none_some}
use Rattle.dimacs_read.proofs.values.take_words.Goals as goal

pub returns-else-is_none-clause-told : goal.returns-else-is_none-clause-told
returns-else-is_none-clause-told c =
    let k = c.loop-word.known in
    let zero = c.is.ensures.same.0 c.if-is.true in
    alike_misfit _ _ k (words_of c.loop-word.rest.now) c.in-Some.word.now (words_of c.in-Some.behind.now) c.loop-word.invariant c.in-Some.ensures.words
    (λ z none. some_words c.next_word-then-is.result (words_of c.in-Some.behind.now) (λ w. w.0.now) (λ w. words_of w.1.now) c.is_none.result c.next_word-then-is.ensures.words c.is_none.ensures c.if-is_none.false none)
    (λ m new e. literal_nonzero (c.vars-vars.result + 1) m (omega arith) (rw c.vars-vars.ensures (new_below k m new)) (sym e ∙ zero))

pub returns-in_err-literal-clause-told : goal.returns-in_err-literal-clause-told
returns-in_err-literal-clause-told c = rw c.from_residual.ensures (
    let k = c.loop-word.known in
    alike_misfit _ _ k (words_of c.loop-word.rest.now) c.in-Some.word.now (words_of c.in-Some.behind.now) c.loop-word.invariant c.in-Some.ensures.words
    (λ z none. true≢false (sym (c.is.ensures.same.1 z) ∙ c.if-is.false))
    (λ m new e. none_some c.read_literal.result m c.in_err-literal.was (c.read_literal.ensures.complete m (rw c.vars-vars.ensures (new_below k m new)) e)))

pub returns-then-not-take-clause-told : goal.returns-then-not-take-clause-told
returns-then-not-take-clause-told c =
    let k = c.loop-word.known in
    alike_misfit _ _ k (words_of c.loop-word.rest.now) c.in-Some.word.now (words_of c.in-Some.behind.now) c.loop-word.invariant c.in-Some.ensures.words
    (λ z none. true≢false (sym (c.is.ensures.same.1 z) ∙ c.if-is.false))
    (λ m new e. let found = c.read_literal.ensures.complete m (rw c.vars-vars.ensures (new_below k m new)) e in
    let same = some_same m c.in_ok-literal.literal (sym found ∙ c.in_ok-literal.was) in
    true≢false (sym (c.take.ensures.old (let P : Lit → Type 0 = λ x. IsNew k x in subst P same new)) ∙ c.if-not-take.true))

pub loop-word-preserved : goal.loop-word-preserved
loop-word-preserved c =
    let k = c.loop-word.known in
    let all = words_of c.args.text.now in
    let behind = words_of c.in-Some.behind.now in
    let taken = c.take.ensures.new c.if-not-take.false in
    let P : Known → Type 0 = λ j. TellAlike c.args.known.now all j behind in
    subst P (sym taken.1) (alike_next c.args.known.now all k (words_of c.loop-word.rest.now) c.in-Some.word.now behind c.in_ok-literal.literal c.loop-word.invariant c.in-Some.ensures.words
    c.in_ok-literal.ensures.read.1 taken.0
    (λ z. true≢false (sym (c.is.ensures.same.1 z) ∙ c.if-is.false))
    (λ m new e. let found = c.read_literal.ensures.complete m (rw c.vars-vars.ensures (new_below k m new)) e in
    some_same m c.in_ok-literal.literal (sym found ∙ c.in_ok-literal.was)))

pub returns-then-is_none-clause-only : goal.returns-then-is_none-clause-only
returns-then-is_none-clause-only c =
    let k = c.loop-word.known in
    let zero = c.is.ensures.same.0 c.if-is.true in
    alone_ended c.args.known.now (words_of c.args.text.now) k (words_of c.loop-word.rest.now) c.in-Some.word.now (words_of c.in-Some.behind.now) c.loop-word.invariant c.in-Some.ensures.words
    (λ m new e. literal_nonzero (c.vars-vars.result + 1) m (omega arith) (rw c.vars-vars.ensures (new_below k m new)) (sym e ∙ zero))

pub returns-clause-only : goal.returns-clause-only
returns-clause-only c = alone_end c.args.known.now (words_of c.args.text.now) c.loop-word.known (words_of c.loop-word.rest.now) c.loop-word.invariant c.in_default.ensures.words
