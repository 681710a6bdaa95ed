use Rattle.learning_solver.specs.Searching.{IsSearch, Forgets}
use Rattle.learning_solver.proofs.search.Search.reduce.Given as goal

abbrev pub invariant-loop : goal.invariant-loop
invariant-loop l = record {
  forgets : Forgets l.fn.self l.self;
  search : IsSearch l.self;
}
