use Rattle.std.proofs.Common.{refl, sym, subst}
use Rattle.std.proofs.lemmas.Result.{IfOk-weaker}
use Rattle.answer_import.specs.Judging.{IsFoundAlone}
use Rattle.answer_import.proofs.Judged.{some-text}
use Rattle.answer_import.proofs.judging.solution_shown.Goals as goal

pub returns-in-Some : goal.returns-in-Some
returns-in-Some c =
    IfOk-weaker c.line_behind.result _ _
    (λ f e. subst (IsFoundAlone c.args.cut.now.rest.now c.args.cut.now.front.lines c.args.given) (sym e) ((λ none. some-text _ _ _ c.in-Some.ensures.1 none), refl))
    c.line_behind.ensures
