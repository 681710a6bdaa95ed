use Rattle.std.proofs.Common.{◌≡◌, ◌++◌, drop}
use Rattle.model_parts.specs.Only.{numbers_of}
use Rattle.core_extract.proofs.reduction.numbers_in.Given as goal

-- the numbers so far, and those of the statements that are left, are all
abbrev pub invariant-loop-stmt : goal.invariant-loop-stmt
invariant-loop-stmt l = l.numbers.items ++ numbers_of (drop l.stmt-index l.stmts) ≡ numbers_of l.stmts
