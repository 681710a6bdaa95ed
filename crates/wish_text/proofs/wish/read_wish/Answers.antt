use Rattle.wish_text.proofs.Reading.{line-read}
use Rattle.wish_text.proofs.wish.read_wish.Goals as goal

pub loop-line-preserved : goal.loop-line-preserved
loop-line-preserved c =
    line-read c.args.decls.now c.args.text.now c.loop-line.lines.rest c.in-Some.line.bytes.now c.next_line.new.self.rest c.loop-line.lines.read c.next_line.new.self.read
    c.loop-line.invariant c.in-Some.ensures.lines c.in-Some.ensures.read c.if-not-take.ensures
