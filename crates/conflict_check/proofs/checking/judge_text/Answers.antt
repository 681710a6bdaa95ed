use Rattle.std.proofs.Common.{List, ℕ, sym, subst}
use Rattle.line_texts.proofs.ReadTo.{ReadTo}
use Rattle.conflict_text.specs.ConflictLines.{start_standing, IsNext}
use Rattle.conflict_check.specs.Heads.{head_standing}
use Rattle.conflict_check.proofs.Judging.{misfit-of, read-of, ok-behind}
use Rattle.conflict_check.proofs.checking.judge_text.Goals as goal

pub returns-in-Ok-Fails : goal.returns-in-Ok-Fails
returns-in-Ok-Fails c =
    misfit-of (head_standing c.args.model c.new-head.result) (start_standing c.args.model) c.new-lines.result.rest c.args.text.now c.in-Ok-Fails.line (c.new-head.ensures.start c.args.model) c.new-lines.ensures.rest
    (rw c.in-Ok-Fails.field-0-is at c.in-Ok-Fails.ensures)

pub returns-in-Ok-Leads : goal.returns-in-Ok-Leads
returns-in-Ok-Leads c =
    let h = rw c.in-Ok-Leads.field-0-is at c.in-Ok-Leads.ensures in
    let start = start_standing c.args.model in
    let t = head_standing c.args.model c.read_head.new.head in
    let reads = read-of (head_standing c.args.model c.new-head.result) start t c.new-lines.result.rest c.args.text.now c.read_head.new.lines.rest c.in-Ok-Leads.read (c.new-head.ensures.start c.args.model) c.new-lines.ensures.rest h.reads in
    ok-behind start t c.args.text.now c.rest.result.now c.in-Ok-Leads.read
    (subst (λ (rest : List ℕ). ReadTo IsNext start c.args.text.now rest c.in-Ok-Leads.read t) (sym c.rest.ensures) reads) c.judge_behind.result c.judge_behind.ensures
