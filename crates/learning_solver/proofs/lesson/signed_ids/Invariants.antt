use Rattle.std.proofs.Common.{◌≡◌, take, map, pos}
use Rattle.std.specs.Prelude.{FitsSigned}
use Rattle.std.specs.Int.{w64}
use Rattle.proof_check.specs.Lines.{Each}
use Rattle.learning_solver.proofs.lesson.signed_ids.Given as goal

abbrev pub invariant-loop-id : goal.invariant-loop-id
invariant-loop-id l = record {
  same : l.signed.items ≡ map pos (take l.id-index l.ids);
  fits : Each (FitsSigned w64) l.signed.items;
}
