use Rattle.std.proofs.Common.{◌≡◌, ◌<◌, ℕ, get_or}
use Rattle.core_forms.proofs.word.truth_of.Given as goal

-- those so far are as true as the first one
abbrev pub invariant-loop-name : goal.invariant-loop-name
invariant-loop-name g l = (k d : ℕ) → k < l.name-index → g.T.TruthValues.valuation l.sigma (get_or l.names k d) ≡ l.told
