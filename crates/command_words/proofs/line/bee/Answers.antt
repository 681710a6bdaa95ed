use Rattle.std.proofs.Common.{rules, ap₂, codes, ◌≡◌, ◌∙◌}
use Rattle.std.proofs.lemmas.Result.{IfOk-weaker}
use Rattle.clap.specs.Words.{rule_of, new_rule, with_rule}
use Rattle.command_words.proofs.Rules.{required_is, optional_is, option_is, flag_is, local_twice, local_once, local_option, local_flag}
use Rattle.command_words.proofs.line.bee.Goals as goal

pub returns : goal.returns
returns c =
    let mode : rule_of c.new.result ≡ new_rule (codes "mode") = search rules in
    let input : rule_of c.new-2.result ≡ new_rule (codes "input") = search rules in
    let second : rule_of c.new-3.result ≡ new_rule (codes "second") = search rules in
    let budget : rule_of c.new-4.result ≡ new_rule (codes "budget") = search rules in
    let no_restart : rule_of c.new-5.result ≡ new_rule (codes "no-restart") = search rules in
    let progress : rule_of c.new-6.result ≡ new_rule (codes "progress") = search rules in
    let mode_is = required_is (codes "mode") c.new.result c.required.result c.action-mode.result mode (search rules) (search rules) in
    let input_is = required_is (codes "input") c.new-2.result c.required-2.result c.action-input.result input (search rules) (search rules) in
    let second_is = optional_is (codes "second") c.new-3.result c.action-second.result second (search rules) in
    let budget_is = option_is (codes "budget") _ c.new-4.result c.long.result c.action-budget.result (search rules) budget c.long.ensures (search rules) in
    let restart_is = flag_is (codes "no-restart") _ c.new-5.result c.long-2.result c.action-no_restart.result (search rules) no_restart c.long-2.ensures (search rules) in
    let progress_is = flag_is (codes "progress") _ c.new-6.result c.long-3.result c.action-progress.result (search rules) progress c.long-3.ensures (search rules) in
    let mode_local = local_twice c.new.result c.required.result c.action-mode.result c.new.ensures.optional.1 (search rules) (search rules) in
    let input_local = local_twice c.new-2.result c.required-2.result c.action-input.result c.new-2.ensures.optional.1 (search rules) (search rules) in
    let second_local = local_once c.new-3.result c.action-second.result c.new-3.ensures.optional.1 (search rules) in
    let budget_local = local_option _ c.new-4.result c.long.result c.action-budget.result c.new-4.ensures.optional.1 c.long.ensures (search rules) in
    let flag_local = local_flag _ c.new-5.result c.long-2.result c.action-no_restart.result c.new-5.ensures.optional.1 c.long-2.ensures (search rules) in
    let progress_local = local_flag _ c.new-6.result c.long-3.result c.action-progress.result c.new-6.ensures.optional.1 c.long-3.ensures (search rules) in
    let one = c.in_ok-arg.ensures.shape mode_local ∙ ap₂ with_rule c.new-7.ensures.app mode_is in
    let two = c.in_ok-arg-2.ensures.shape input_local ∙ ap₂ with_rule one input_is in
    let three = c.in_ok-arg-3.ensures.shape second_local ∙ ap₂ with_rule two second_is in
    let four = c.in_ok-arg-4.ensures.shape budget_local ∙ ap₂ with_rule three budget_is in
    let five = c.in_ok-arg-5.ensures.shape flag_local ∙ ap₂ with_rule four restart_is in
    IfOk-weaker c.arg-6.result _ _ (λ m h. h.shape progress_local ∙ ap₂ with_rule five progress_is) c.arg-6.ensures
