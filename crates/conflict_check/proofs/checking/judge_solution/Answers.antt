use Rattle.std.proofs.Common.{sym, ap, ◌∙◌, subst}
use Rattle.std.specs.Prelude.{IfOk}
use Rattle.conflict_text.specs.ConflictLines.{Standing}
use Rattle.conflict_check.specs.Heads.{standing_in}
use Rattle.conflict_check.specs.Checked.{IsJudgedBehind}
use Rattle.conflict_check.proofs.Judging.{only-solution, solution-standing}
use Rattle.conflict_check.proofs.checking.judge_solution.Goals as goal

pub returns : goal.returns
returns c =
    let h = c.args.head in
    subst (λ (s : Standing). IfOk c.judge.result (IsJudgedBehind s c.args.rest.now c.args.read))
    (solution-standing c.args.model.now h.verdict h.conflict.items h.last c.from_vec.result (only-solution h.verdict c.requires.solution) (c.from_vec.ensures ∙ c.new.ensures.items)
    ∙ sym (ap (standing_in c.args.model.now h.verdict h.conflict.items h.last) c.requires.done))
    c.judge.ensures
