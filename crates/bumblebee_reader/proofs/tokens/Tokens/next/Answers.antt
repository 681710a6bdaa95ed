use Rattle.std.proofs.Common.{◌≡◌, false, rules, ◌∙◌, sym, arith}
use Rattle.bumblebee_reader.specs.Tokens.{begins_gap}
use Rattle.bumblebee_reader.proofs.Scan.{comment_step, token_step, token_step_line}
use Rattle.bumblebee_reader.proofs.tokens.Tokens.next.Goals as goal

-- src/tokens.rt:43:9
pub loop-first-preserved : goal.loop-first-preserved
loop-first-preserved c =
    let whole = c.in-Some.ensures.cases in
    let step = comment_step c.loop-first.self.line _ _ _ _ whole.0 c.in-37.is c.behind_comment-self.ensures.rest in
    (step.0 ∙ c.loop-first.invariant.0, step.1 ∙ c.loop-first.invariant.1, omega arith)

-- src/tokens.rt:54:21
pub returns-in_default-first-clause-token : goal.returns-in_default-first-clause-token
returns-in_default-first-clause-token c =
    let whole = c.in-Some.ensures.cases in
    let gap : begins_gap c.in-Some.first.now ≡ false = search rules in
    sym c.loop-first.invariant.0 ∙ token_step c.loop-first.self.line _ _ _ _ _ whole.0 gap c.split_lexeme.ensures.token c.split_lexeme.ensures.rest

-- src/tokens.rt:54:21
pub returns-in_default-first-clause-end : goal.returns-in_default-first-clause-end
returns-in_default-first-clause-end c =
    let whole = c.in-Some.ensures.cases in
    let gap : begins_gap c.in-Some.first.now ≡ false = search rules in
    token_step_line c.loop-first.self.line _ _ _ _ whole.0 gap c.split_lexeme.ensures.rest ∙ c.loop-first.invariant.1
