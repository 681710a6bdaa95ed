use Rattle.clause_arena.specs.Sliding.{IsMoved}
use Rattle.clause_arena.proofs.sliding.move_down.Given as goal

abbrev pub invariant-loop-k : goal.invariant-loop-k
invariant-loop-k l = IsMoved l.initial.codes l.codes l.from l.to l.k
