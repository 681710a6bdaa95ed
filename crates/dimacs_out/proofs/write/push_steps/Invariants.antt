use Rattle.std.proofs.Common.{◌≡◌, ◌++◌, map, drop}
use Rattle.bee_text.specs.Words.{words_behind}
use Rattle.dimacs_out.specs.CompiledText.{step_word}
use Rattle.dimacs_out.proofs.write.push_steps.Given as goal

-- what was written, and the steps that are left, are all that is to be written
abbrev pub invariant-loop-step : goal.invariant-loop-step
invariant-loop-step l =
    l.out.items ++ words_behind (map step_word (drop l.step-index l.steps)) ≡ l.fn.out.items ++ words_behind (map step_word l.steps)
