use Rattle.std.proofs.Common.{◌≡◌, ℕ, ◌<◌, ◌≤◌, true}
use Rattle.conflict_analysis.specs.Seeking.{is_covered, lit_in}
use Rattle.conflict_analysis.proofs.minimiser.first_uncovered.Given as goal

abbrev pub invariant-loop-place : goal.invariant-loop-place
invariant-loop-place l = (j : ℕ) → l.frame.place ≤ j → j < l.place → is_covered l.minimiser.cells l.frame.var (lit_in l.lits j).var ≡ true
