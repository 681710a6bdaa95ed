use Rattle.std.proofs.Common.{◌<◌, ℕ}
use Rattle.alldiff_rules.proofs.TwinLaws.{IsTold}
use Rattle.alldiff_rules.proofs.twins.has_twins.Given as goal

-- no member so far is told to be a twin
abbrev pub invariant-loop-place : goal.invariant-loop-place
invariant-loop-place l = (i : ℕ) → i < l.place → IsTold l.ints l.conditions l.table l.p i → ⊥
