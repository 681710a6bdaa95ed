use Rattle.std.proofs.Common.{◌≡◌, drop}
use Rattle.model_meaning.specs.Limits.{StmtsInLimit}
use Rattle.model_meaning.specs.Solutions.{first_broken}
use Rattle.model_meaning.proofs.solutions.first_failing.Given as goal

abbrev pub invariant-loop-stmt : goal.invariant-loop-stmt
invariant-loop-stmt l =
    record {
      rest : first_broken l.values (drop l.stmt-index l.stmts) ≡ first_broken l.values l.stmts;
      limits : StmtsInLimit (drop l.stmt-index l.stmts);
    }
