use Rattle.std.proofs.Common.{ℕ, ◌+◌, List, refl, ap, subst, ◌∙◌}
use Rattle.bee_text.specs.Lines.{lines_of}
use Rattle.bee_text.proofs.LineLemmas.{lines_of-cut}
use Rattle.line_texts.proofs.ReadTo.{ReadTo, line_read, line_fails}
use Rattle.sat_front.specs.Closed.{closed}
use Rattle.sat_front.proofs.Closing.{ends}
use Rattle.sat_front.proofs.open_lines.read_open_lines.Goals as goal

pub returns-in-Misfit : goal.returns-in-Misfit
returns-in-Misfit g c =
    let behind = closed c.in-Some.behind.now in
    let cut = c.in-Some.ensures in
    let fails = rw c.in-Misfit.is at c.in_ok-take_line.ensures in
    line_fails (g.T.LineTaker.next c.args.against.now) c.args.taker.now (g.T.LineTaker.because c.args.against.now) (closed c.args.text.now) (closed c.loop-line.rest.now) c.in-Some.line.now behind
    c.loop-line.read (c.loop-line.read + 1) c.loop-line.taker c.in-Misfit.cause c.loop-line.invariant (ap lines_of cut.1 ∙ lines_of-cut c.in-Some.line.now behind cut.0) refl fails.0 fails.1

pub loop-line-preserved : goal.loop-line-preserved
loop-line-preserved g c =
    line_read (g.T.LineTaker.next c.args.against.now) c.args.taker.now (closed c.args.text.now) (closed c.loop-line.rest.now) c.in-Some.line.now (closed c.in-Some.behind.now) c.loop-line.read
    (c.loop-line.read + 1) c.loop-line.taker c.take_line.new.self c.loop-line.invariant c.in-Some.ensures.0 c.in-Some.ensures.1 refl (rw c.in-Next.is at c.in_ok-take_line.ensures)

pub returns : goal.returns
returns g c =
    let next = g.T.LineTaker.next c.args.against.now in
    let P : List ℕ → Type 0 = λ r. ReadTo next c.args.taker.now (closed c.args.text.now) r c.loop-line.read c.loop-line.taker in
    ends next g.T.LineTaker.ended (g.T.LineTaker.because c.args.against.now) c.args.taker.now (closed c.args.text.now) c.loop-line.read c.loop-line.taker c.end_behind.result
    (subst P c.in_default.ensures c.loop-line.invariant) c.end_behind.ensures
