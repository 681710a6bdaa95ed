use Rattle.std.proofs.Common.{◌≡◌, ◌+◌, refl, sym, ap, ◌∙◌, arith}
use Rattle.dimacs_read.proofs.ValuesRead.{some_same, none_some}
use Rattle.dimacs_read.proofs.StepsRead.{step_read, steps_misfit}
use Rattle.dimacs_read.proofs.steps.read_steps.Goals as goal

pub returns-in_default-read_step_word : goal.returns-in_default-read_step_word
returns-in_default-read_step_word c =
    steps_misfit c.args.words.now c.loop-word.words c.loop-word.steps.items c.loop-word.total c.in-Some.word.now c.next_word.new.self c.loop-word.invariant c.in-Some.ensures.piece
    (λ r h e most. none_some c.read_step_word.result r c.in_default-read_step_word.is (c.read_step_word.ensures.complete r h e))

pub returns-then-total-gt-MOST : goal.returns-then-total-gt-MOST
returns-then-total-gt-MOST c =
    steps_misfit c.args.words.now c.loop-word.words c.loop-word.steps.items c.loop-word.total c.in-Some.word.now c.next_word.new.self c.loop-word.invariant c.in-Some.ensures.piece
    (λ r h e most. let same = some_same r c.in-Some-read_step_word.step (sym (c.read_step_word.ensures.complete r h e) ∙ c.in-Some-read_step_word.is) in
    let weight : r.1 ≡ c.in-Some-read_step_word.step.1 = ap (λ x. x.1) same in
    omega (arith, weight, most, c.if-total-gt-MOST.true))

pub loop-word-preserved : goal.loop-word-preserved
loop-word-preserved c =
    step_read c.args.words.now c.loop-word.words c.loop-word.steps.items c.push.new.self.items c.loop-word.total (c.loop-word.total + c.in-Some-read_step_word.step.1) c.in-Some.word.now c.next_word.new.self
    c.in-Some-read_step_word.step c.loop-word.invariant c.in-Some.ensures.piece c.in-Some-read_step_word.ensures.read.0 c.in-Some-read_step_word.ensures.read.1
    (λ r h e. some_same r c.in-Some-read_step_word.step (sym (c.read_step_word.ensures.complete r h e) ∙ c.in-Some-read_step_word.is))
    refl (omega (arith, c.if-total-gt-MOST.false)) c.in_ok-push.ensures.items
