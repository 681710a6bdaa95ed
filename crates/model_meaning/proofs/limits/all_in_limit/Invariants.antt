use Rattle.std.proofs.Common.{ℕ, ◌<◌}
use Rattle.model_meaning.specs.Terms.{value_at}
use Rattle.model_meaning.specs.Limits.{InLimit}
use Rattle.model_meaning.proofs.limits.all_in_limit.Given as goal

abbrev pub invariant-loop-number : goal.invariant-loop-number
invariant-loop-number l = (k : ℕ) → k < l.number-index → InLimit (value_at l.numbers k)
