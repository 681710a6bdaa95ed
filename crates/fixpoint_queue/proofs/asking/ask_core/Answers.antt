use Rattle.std.proofs.Common.{subst, Option}
use Rattle.std.specs.Prelude.{IfSome}
use Rattle.core_rules.specs.declared.found.FoundRun.{FoundRun}
use Rattle.equation_runs.specs.Turns.{AreToldInTurn, EquationsBelow}
use Rattle.fixpoint_queue.specs.Told.{IsToldInstance}
use Rattle.fixpoint_queue.proofs.asking.ask_core.Goals as goal

pub returns-in-Some-clause-answer : goal.returns-in-Some-clause-answer
returns-in-Some-clause-answer g c = record {
  equation = subst (λ (o : Option FoundRun). IfSome o (λ first. IsToldInstance g.F.Oracle.told c.args.core.now first.equation)) c.in-Some.is c.in_ok-found.ensures.some;
  run = subst (λ (o : Option FoundRun). IfSome o (λ first. AreToldInTurn (IsToldInstance g.F.Oracle.told) c.args.core.now first.run.items)) c.in-Some.is c.in_ok-found.ensures.run;
  below = λ n below. subst (λ (o : Option FoundRun). IfSome o (λ first. EquationsBelow n first.run.items)) c.in-Some.is (c.in_ok-found.ensures.below n below);
}
