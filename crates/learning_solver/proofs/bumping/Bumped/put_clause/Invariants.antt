use Rattle.learning_solver.proofs.bumping.Bumped.put_clause.Given as goal

abbrev pub invariant-loop-place : goal.invariant-loop-place
invariant-loop-place l = Unit {0}
