use Rattle.std.proofs.Common.{◌↔◌, length}
use Rattle.model_meaning.specs.Limits.{DeclsInLimit}
use Rattle.wish_text.specs.Wishes.{TellsValue}
use Rattle.wish_text.proofs.wish.find_told.Given as goal

-- a line tells a value of one of the names that are left, or of none
abbrev pub invariant-loop-rest : goal.invariant-loop-rest
invariant-loop-rest l = record {
  limits : DeclsInLimit l.rest;
  same : TellsValue l.rest l.line ↔ TellsValue l.decls l.line;
}

abbrev pub decreases-loop-rest : goal.decreases-loop-rest
decreases-loop-rest l = length l.rest
