use Rattle.answer_import.proofs.Gathering.{cut-more}
use Rattle.answer_import.proofs.cut.cut_front.Goals as goal

pub loop-line-preserved : goal.loop-line-preserved
loop-line-preserved c =
    cut-more c.args.text.now c.loop-line.rest.now c.in-Some.line.now c.in-Some.behind.now c.loop-line.front c.take.new.self c.loop-line.invariant c.in-Some.ensures.0 c.in-Some.ensures.1
    (rw c.if-not-branch.false at c.in_ok-take.ensures)
