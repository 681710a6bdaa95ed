use Rattle.index_ring.specs.Lists.{list_of}
use Rattle.clause_arena.proofs.Slid.{Slides}
use Rattle.clause_arena.proofs.sliding.slide_down.Given as goal

abbrev pub invariant-loop-k : goal.invariant-loop-k
invariant-loop-k l = Slides l.initial.codes l.initial.spans (list_of l.order 0) l.codes l.spans l.to l.next l.k
