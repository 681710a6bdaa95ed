use Rattle.std.proofs.Common.{ℕ, ◌+◌, ◌==◌, List, length, refl, sym, ap, ◌∙◌}
use Rattle.std.proofs.lemmas.Bool.{true≢false}
use Rattle.line_texts.proofs.ReadTo.{line_read, line_fails, end_fails}
use Rattle.line_texts.proofs.reading.read_lines.Goals as goal
use Rattle.line_texts.proofs.reading.read_lines.Goals.{else-is_empty-via-then-is_empty+else-is_ended, else-is_empty-via-else-is_empty}

pub returns-in-Misfit : goal.returns-in-Misfit
returns-in-Misfit g c =
    let inv = c.loop-line.invariant in
    let fails = rw c.in-Misfit.is at c.in_ok-take_line.ensures in
    line_fails (g.T.LineTaker.next c.args.against.now) c.args.taker.now (g.T.LineTaker.because c.args.against.now) c.args.text.now c.loop-line.lines.rest c.in-Some.line.bytes.now
    c.next_line.new.self.rest c.loop-line.read c.in-Some.line.number c.loop-line.taker c.in-Misfit.cause inv.read c.in-Some.ensures.lines (c.in-Some.ensures.number ∙ ap (λ n. n + 1) inv.count) fails.0 fails.1

pub loop-line-preserved : goal.loop-line-preserved
loop-line-preserved g c =
    let inv = c.loop-line.invariant in
    record {
      count = c.in-Some.ensures.read ∙ sym c.in-Some.ensures.number;
      read = line_read (g.T.LineTaker.next c.args.against.now) c.args.taker.now c.args.text.now c.loop-line.lines.rest c.in-Some.line.bytes.now c.next_line.new.self.rest c.loop-line.read
          c.in-Some.line.number c.loop-line.taker c.take_line.new.self inv.read c.in-Some.ensures.line c.in-Some.ensures.rest (c.in-Some.ensures.number ∙ ap (λ n. n + 1) inv.count)
          (rw c.in-Next.is at c.in_ok-take_line.ensures);
    }

pub returns : goal.returns
returns g c =
    let inv = c.loop-line.invariant in
    let end = c.in_default.ensures.none in
    end_fails (g.T.LineTaker.next c.args.against.now) c.args.taker.now g.T.LineTaker.ended c.args.text.now c.loop-line.lines.rest c.loop-line.read (c.loop-line.read + 1) c.loop-line.taker inv.read
    end.0 refl
    (λ none ended. elim c.else-is_empty.branch [
      | else-is_empty-via-then-is_empty+else-is_ended w ↦ true≢false (sym (w.is_ended.ensures.1 ended) ∙ w.if-is_ended.false)
      | else-is_empty-via-else-is_empty w ↦ true≢false (sym (c.is_empty.ensures ∙ ap (λ (xs : List ℕ). length xs == 0) (c.rest.ensures ∙ ap (λ p. p.rest) end.1 ∙ none)) ∙ w.if-is_empty.false)
    ])
