use Rattle.std.proofs.Common.{◌+◌, refl, sym, ap, ◌∙◌, arith}
use Rattle.std.proofs.lemmas.Bool.{true≢false}
use Rattle.line_texts.proofs.ReadTo.{line_read}
use Rattle.conflict_text.specs.ConflictLines.{IsNext}
use Rattle.conflict_check.specs.Heads.{head_standing}
use Rattle.conflict_check.proofs.Heading.{head-refused, head-taken, not-ended}
use Rattle.conflict_check.proofs.Judging.{line-refused, end-refused}
use Rattle.conflict_check.proofs.head.read_head.Goals as goal

pub returns-then-not-branch : goal.returns-then-not-branch
returns-then-not-branch c =
    let inv = c.loop-line.invariant in
    let m = c.args.model.now in
    line-refused (head_standing m c.args.head.now) (head_standing m c.loop-line.head) c.args.lines.now.rest c.loop-line.lines.rest c.in-Some.line.bytes.now c.next_line.new.self.rest c.loop-line.read c.in-Some.line.number inv.read
    c.in-Some.ensures.lines (c.in-Some.ensures.number ∙ ap (λ n. n + 1) inv.count)
    (head-refused m c.loop-line.head c.take_line.new.self c.in-Some.line.bytes.now c.in_ok-take_line.field-0 c.if-not-branch.true c.in_ok-take_line.ensures)

pub returns-then-is_done : goal.returns-then-is_done
returns-then-is_done c =
    let inv = c.loop-line.invariant in
    let m = c.args.model.now in
    let taken = head-taken m c.loop-line.head c.take_line.new.self c.in-Some.line.bytes.now c.in_ok-take_line.field-0 c.if-not-branch.false c.in_ok-take_line.ensures in
    record {
      done = c.is_done.ensures.0 c.if-is_done.true;
      reads = line_read IsNext (head_standing m c.args.head.now) c.args.lines.now.rest c.loop-line.lines.rest c.in-Some.line.bytes.now c.next_line.new.self.rest c.loop-line.read c.in-Some.line.number
          (head_standing m c.loop-line.head) (head_standing m c.take_line.new.self) inv.read c.in-Some.ensures.line c.in-Some.ensures.rest (c.in-Some.ensures.number ∙ ap (λ n. n + 1) inv.count) taken.0;
      walked = taken.1;
    }

pub loop-line-preserved : goal.loop-line-preserved
loop-line-preserved c =
    let inv = c.loop-line.invariant in
    let m = c.args.model.now in
    let taken = head-taken m c.loop-line.head c.take_line.new.self c.in-Some.line.bytes.now c.in_ok-take_line.field-0 c.if-not-branch.false c.in_ok-take_line.ensures in
    record {
      count = c.in-Some.ensures.read ∙ sym c.in-Some.ensures.number;
      read = line_read IsNext (head_standing m c.args.head.now) c.args.lines.now.rest c.loop-line.lines.rest c.in-Some.line.bytes.now c.next_line.new.self.rest c.loop-line.read c.in-Some.line.number
          (head_standing m c.loop-line.head) (head_standing m c.take_line.new.self) inv.read c.in-Some.ensures.line c.in-Some.ensures.rest (c.in-Some.ensures.number ∙ ap (λ n. n + 1) inv.count) taken.0;
      wanted = λ e. true≢false (sym (c.is_done.ensures.1 e) ∙ c.if-is_done.false);
      walked = taken.1;
    }

pub returns : goal.returns
returns c =
    let inv = c.loop-line.invariant in
    let m = c.args.model.now in
    let h = c.loop-line.head in
    let end = c.in_default.ensures.none in
    end-refused (head_standing m c.args.head.now) (head_standing m h) c.args.lines.now.rest c.loop-line.lines.rest c.loop-line.read (c.loop-line.read + 1) inv.read end.0 refl
    (λ none ended. not-ended m h.verdict h.conflict.items h.last h.stage inv.wanted ended)

pub overflow_add-result : goal.overflow_add-result
overflow_add-result c =
    let most = c.loop-line.invariant.read.most in
    let short = c.requires.short in
    omega (arith, most, short)
