use Rattle.std.proofs.Common.{refl}
use Rattle.learning_solver.proofs.MoveLaws.{search-candidates}
use Rattle.learning_solver.proofs.RunLaws.{forgets-same, forgets-then, forgets-candidates}
use Rattle.learning_solver.proofs.search.Search.reduce.Goals as goal

pub loop-init : goal.loop-init
loop-init c = record {
  forgets = forgets-same c.args.self.now _ refl refl refl refl;
  search = search-candidates c.args.self.now _ c.requires;
}

pub returns-in_default-clause-forgets : goal.returns-in_default-clause-forgets
returns-in_default-clause-forgets c = forgets-candidates c.args.self.now c.loop.self _ c.loop.invariant.forgets

pub delete-requires : goal.delete-requires
delete-requires c = search-candidates c.loop.self _ c.loop.invariant.search

pub returns-then-is_err-clause-forgets : goal.returns-then-is_err-clause-forgets
returns-then-is_err-clause-forgets c =
    forgets-then c.args.self.now _ c.delete.new.self (forgets-candidates c.args.self.now c.loop.self _ c.loop.invariant.forgets) c.delete.ensures.forgets

pub loop-preserved : goal.loop-preserved
loop-preserved c = record {
  forgets = forgets-then c.args.self.now _ c.delete.new.self (forgets-candidates c.args.self.now c.loop.self _ c.loop.invariant.forgets) c.delete.ensures.forgets;
  search = c.delete.ensures.search;
}
