use Rattle.std.proofs.Common.{◌≡◌, drop}
use Rattle.order_ints.specs.Truth.{valuation_at}
use Rattle.order_ints.proofs.truth_values.TruthRowTruthValues.truth.Given as goal

-- what is left decides
abbrev pub invariant-loop-place : goal.invariant-loop-place
invariant-loop-place l = valuation_at (drop l.place l.self.vars.now) (drop l.place l.self.values.now) l.var ≡ valuation_at l.self.vars.now l.self.values.now l.var
